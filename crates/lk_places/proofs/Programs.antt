-- The names of functions and the lambdas of a program begin each with a token of its own, and so do the uses of functions, and
-- what acts on tables, production by production; so in the program of a text they begin at places of their own.
use Rattle.std.proofs.Common.{◌≡◌, ◌⊎◌, ℕ, List, [], ◌∷◌, ◌++◌, length, map, Option, inl, inr, refl, sym, ap, ap₂, subst, ◌∙◌}
use Rattle.std.proofs.lemmas.Grind.{flat_map-append}
use Rattle.std.proofs.lemmas.List.{append-nil, map-append}
use Rattle.std.specs.List.{flat_map}
use Rattle.lk_ast.specs.Functions.{functions_in, functions_of}
use Rattle.lk_ast.specs.declared.declaration.Decl.{Decl}
use Rattle.lk_ast.specs.declared.declaration.Decl.TheVariants.{Table, Fun, Mutual}
use Rattle.lk_ast.specs.declared.declaration.FunDef.{FunDef}
use Rattle.lk_ast.specs.declared.declaration.Program.{Program}
use Rattle.lk_ast.specs.declared.signature.Sig.{Sig}
use Rattle.lk_ast.specs.declared.token.Token.{Token}
use Rattle.lk_grammar.specs.Programs.{IsDefinition, IsFun, IsFuns, IsDecl, IsDecls, IsProgram}
use Rattle.lk_bag.specs.Blocks.{AreBlocksApart, blocks_in}
use Rattle.lk_ground.specs.Sites.{PlacedUse, all, uses_in}
use Rattle.lk_ground.specs.UsesApart.{AreUsesApart}
use Rattle.lk_index.specs.Places.{Lambdas, AreApart, ArePlaced, gather, lambdas_of}
use Rattle.lk_parse.proofs.Readings.{tokens_lie}
use Rattle.lk_parse.specs.Tokens.{LieBetween}
use Rattle.lk_places.proofs.Expressions.{block_holds}
use Rattle.lk_places.proofs.Finds.{Finds, sites_of, uses_at, finds_none, finds_skip, finds_before, finds_behind, finds_both, finds_name, finds_so, finds_named}
use Rattle.lk_places.proofs.Splits.{split_apart, apart_front, apart_back}
use Rattle.lk_places.proofs.Walks.{Walk, Same, both, walk_all, same_by, same_alone, starts, starts_in, starts_flat, walk_of}
use Rattle.lk_places.specs.Law.{PlacesLaw, UsesLaw, BlocksLaw, AreMarksApart, MarksLaw}
use Rattle.lk_read.specs.Kinds.{word_of}
use Rattle.lk_scope.specs.Names.{no_names, bind_all}
use Rattle.lk_scope.specs.Scoped.{scoped_decl, scoped_function}
use Rattle.lk_types.specs.Each.{OneOf}

-- what is found in the body of a function
abbrev body_of : FunDef → Walk
body_of f = walk_of f.body

-- where the names of functions begin
abbrev starts_of : List FunDef → List ℕ
starts_of fs = map (λ (f : FunDef). f.name.at.start) fs

-- the names of these functions, and what is found in them once their names are resolved, begin with these tokens
abbrev HoldFunctions : List FunDef → List Token → Type 0
HoldFunctions fs w = Finds (walk_all body_of (map scoped_function fs)) (starts_of fs) w

all_gathered : (fs gs : List FunDef) (found : Lambdas) → (walk_all body_of (fs ++ gs)).lambdas found ≡ (walk_all body_of gs).lambdas ((walk_all body_of fs).lambdas found)
all_gathered [] gs found = refl
all_gathered (f ∷ fs) gs found = all_gathered fs gs (gather f.body found)

appended : (fs gs : List FunDef) → Same (walk_all body_of (fs ++ gs)) (both (walk_all body_of fs) (walk_all body_of gs))
appended fs gs = record { gathers = all_gathered fs gs; used = ap all (map-append (λ (f : FunDef). uses_in f.body) fs gs) ∙ flat_map-append (λ us. us) (map (λ (f : FunDef). uses_in f.body) fs) _; listed = flat_map-append (λ (f : FunDef). starts_in f.body) fs gs }

both_hold : (fs gs : List FunDef) {u v : List Token} → HoldFunctions fs u → HoldFunctions gs v → HoldFunctions (fs ++ gs) (u ++ v)
both_hold fs gs h k =
    finds_so (same_by (ap (walk_all body_of) (map-append scoped_function fs gs)) (appended (map scoped_function fs) (map scoped_function gs)))
    (finds_named (sym (map-append (λ (f : FunDef). f.name.at.start) fs gs)) (finds_both h k))

named_at : (x : Token) → (word_of x).at.start ≡ x.span.start
unfolding word_of
named_at x = refl

definition_holds : {sig : Option Sig} {w : List Token} {f : FunDef} → IsDefinition sig w f → HoldFunctions (f ∷ []) w
definition_holds {f = f} (IsDefinition.define k x o c {u} {v} {w} {params} h i j l m n d) =
    finds_so (same_alone body_of (scoped_function f)) (finds_skip k (finds_name x (word_of x).at.start (named_at x) (finds_skip o (finds_before u (finds_skip c (finds_before v (block_holds d (bind_all params no_names))))))))

function_holds : {w : List Token} {f : FunDef} → IsFun w f → HoldFunctions (f ∷ []) w
function_holds (IsFun.plain d) = definition_holds d
function_holds (IsFun.signed {u} s d) = finds_before u (definition_holds d)

functions_hold : {w : List Token} {fs : List FunDef} → IsFuns w fs → HoldFunctions fs w
functions_hold (IsFuns.first d) = function_holds d
functions_hold (IsFuns.next {fs = fs} {f = f} d e) = both_hold fs (f ∷ []) (functions_hold d) (function_holds e)

decl_holds : {w : List Token} {d : Decl} → IsDecl w d → HoldFunctions (functions_in d) w
decl_holds {w} (IsDecl.table k x h o c s a b e f g i j) = finds_none w
decl_holds (IsDecl.function d) = function_holds d
decl_holds (IsDecl.mutual_block k o c h i d j) = finds_skip k (finds_skip o (finds_behind (c ∷ []) (functions_hold d)))

decls_hold : {w : List Token} {ds : List Decl} → IsDecls w ds → HoldFunctions (flat_map functions_in ds) w
decls_hold IsDecls.nil = finds_none []
decls_hold (IsDecls.more {u} {v} {ds} {d} h i) =
    subst (λ fs. HoldFunctions fs (u ++ v)) (ap (λ fs. flat_map functions_in ds ++ fs) (sym (append-nil (functions_in d))) ∙ sym (flat_map-append functions_in ds (d ∷ [])))
    (both_hold (flat_map functions_in ds) (functions_in d) (decls_hold h) (decl_holds i))

-- ---- whole programs

in_scoped : (d : Decl) → functions_in (scoped_decl d) ≡ map scoped_function (functions_in d)
in_scoped (Table table) = refl
in_scoped (Fun f) = refl
in_scoped (Mutual fs) = refl

of_scoped : (ds : List Decl) → flat_map functions_in (map scoped_decl ds) ≡ map scoped_function (flat_map functions_in ds)
of_scoped [] = refl
of_scoped (d ∷ ds) = ap₂ (λ a b. a ++ b) (in_scoped d) (of_scoped ds) ∙ sym (map-append scoped_function (functions_in d) (flat_map functions_in ds))

starts_scoped : (fs : List FunDef) → starts_of (map scoped_function fs) ≡ starts_of fs
starts_scoped [] = refl
starts_scoped (f ∷ fs) = ap (λ rest. f.name.at.start ∷ rest) (starts_scoped fs)

placed_by : (fs : List FunDef) (w : List Token) (end : ℕ) → HoldFunctions fs w → LieBetween 0 w end → AreApart (starts_of (map scoped_function fs) ++ sites_of (lambdas_of (map scoped_function fs)))
placed_by fs w end h lie = subst AreApart (ap₂ (λ a b. a ++ b) (sym (starts_scoped fs)) (sym (h.more []))) (split_apart 0 end h.split lie)

program_holds : {w : List Token} {tree : Program} → IsProgram w tree → HoldFunctions (functions_of tree) w
program_holds (IsProgram.program d) = decls_hold d

-- ---- the uses in one function

first_or_later : (g : FunDef) (fs : List FunDef) (f : FunDef) → AreApart (uses_at (uses_in g.body) ++ uses_at (walk_all body_of fs).uses)
    → (AreApart (uses_at (walk_all body_of fs).uses) → OneOf (λ other. other ≡ f) fs → AreApart (uses_at (uses_in f.body)))
    → (g ≡ f) ⊎ OneOf (λ other. other ≡ f) fs → AreApart (uses_at (uses_in f.body))
first_or_later g fs f apart next (inl is) = subst (λ (h : FunDef). AreApart (uses_at (uses_in h.body))) is (apart_front (uses_at (uses_in g.body)) (uses_at (walk_all body_of fs).uses) apart)
first_or_later g fs f apart next (inr later) = next (apart_back (uses_at (uses_in g.body)) (uses_at (walk_all body_of fs).uses) apart) later

-- where the uses of all are apart, those of each are
each_apart : (fs : List FunDef) → AreApart (uses_at (walk_all body_of fs).uses) → (f : FunDef) → OneOf (λ other. other ≡ f) fs → AreApart (uses_at (uses_in f.body))
each_apart [] apart f one = absurd one
each_apart (g ∷ fs) apart f one =
    first_or_later g fs f (subst AreApart (map-append (λ (u : PlacedUse). u.site) (uses_in g.body) (walk_all body_of fs).uses) apart) (λ rest. each_apart fs rest f) one

uses_by : (fs : List FunDef) (w : List Token) (end : ℕ) → HoldFunctions fs w → LieBetween 0 w end → AreApart (uses_at (walk_all body_of (map scoped_function fs)).uses)
uses_by fs w end h lie = subst AreApart (append-nil _) (split_apart 0 end h.used lie)

-- ---- what acts on tables in all functions

blocks_by : (fs : List FunDef) (w : List Token) (end : ℕ) → HoldFunctions fs w → LieBetween 0 w end → AreApart (starts (flat_map (λ (f : FunDef). blocks_in f.body) (map scoped_function fs)))
blocks_by fs w end h lie = subst AreApart (append-nil _ ∙ sym (starts_flat (λ (f : FunDef). blocks_in f.body) (map scoped_function fs))) (split_apart 0 end h.listed lie)

-- ---- that and the lambdas

marks_by : (fs : List FunDef) (w : List Token) (end : ℕ) → HoldFunctions fs w → LieBetween 0 w end → AreApart (starts (flat_map (λ (f : FunDef). blocks_in f.body) (map scoped_function fs)) ++ sites_of (lambdas_of (map scoped_function fs)))
marks_by fs w end h lie =
    subst AreApart (ap₂ (λ a b. a ++ b) (sym (starts_flat (λ (f : FunDef). blocks_in f.body) (map scoped_function fs))) (sym (h.more []))) (split_apart 0 end h.marked lie)

-- ---- the laws

pub places_law : PlacesLaw
places_law text program is =
    subst ArePlaced (sym is.names)
    (subst (λ fs. AreApart (starts_of fs ++ sites_of (lambdas_of fs))) (sym (of_scoped is.tree.decls))
    (placed_by (functions_of is.tree) is.tokens (length text) (program_holds is.is) (tokens_lie text is.tokens is.has.read)))

pub uses_law : UsesLaw
uses_law text program is =
    subst AreUsesApart (sym is.names)
    (λ f one. each_apart (map scoped_function (functions_of is.tree)) (uses_by (functions_of is.tree) is.tokens (length text) (program_holds is.is) (tokens_lie text is.tokens is.has.read)) f
    (subst (OneOf (λ other. other ≡ f)) (of_scoped is.tree.decls) one))

pub blocks_law : BlocksLaw
blocks_law text program is =
    subst AreBlocksApart (sym is.names)
    (subst (λ fs. AreApart (starts (flat_map (λ (f : FunDef). blocks_in f.body) fs))) (sym (of_scoped is.tree.decls))
    (blocks_by (functions_of is.tree) is.tokens (length text) (program_holds is.is) (tokens_lie text is.tokens is.has.read)))

pub marks_law : MarksLaw
marks_law text program is =
    subst AreMarksApart (sym is.names)
    (subst (λ fs. AreApart (starts (flat_map (λ (f : FunDef). blocks_in f.body) fs) ++ sites_of (lambdas_of fs))) (sym (of_scoped is.tree.decls))
    (marks_by (functions_of is.tree) is.tokens (length text) (program_holds is.is) (tokens_lie text is.tokens is.has.read)))
