-- In a program whose names are bound, what names a table in a body names one that the program declares. So it does in what acts on
-- tables.
use Rattle.std.proofs.Common.{◌≡◌, refl, sym, ap, subst, ◌∙◌, Bool, true, false, ◌||◌, ◌&&◌, not, List, [], ◌∷◌, map, flat_map, None, inl, inr}
use Rattle.std.proofs.lemmas.Bool.{and_parts, both_ways}
use Rattle.std.proofs.lemmas.Cmp.{nat_list_cmp_total}
use Rattle.std.proofs.lemmas.Map.Text.{is_eq-slice_cmp}
use Rattle.std.proofs.lemmas.Slice.Eq.{bytes_eq-Decides}
use Rattle.std.specs.Cmp.Lexicographic.{slice_cmp}
use Rattle.std.specs.FinSet as set
use Rattle.std.specs.Ordering.{nat_cmp, eq_by_cmp}
use Rattle.lk_ast.specs.Functions.{functions_in, functions_of, main_of}
use Rattle.lk_ast.specs.Layers.{layer}
use Rattle.lk_ast.specs.Tables.{tables_in, table_def, table_defs, tables_of}
use Rattle.lk_ast.specs.declared.declaration.Decl.{Decl}
use Rattle.lk_ast.specs.declared.declaration.Decl.TheVariants.{Table, Fun, Mutual}
use Rattle.lk_ast.specs.declared.declaration.FunDef.{FunDef}
use Rattle.lk_ast.specs.declared.declaration.Program.{Program}
use Rattle.lk_ast.specs.declared.declaration.TableDecl.{TableDecl}
use Rattle.lk_ast.specs.declared.expression.Expr.{Expr}
use Rattle.lk_ast.specs.declared.expression.Node.TheOpen.{Node-F}
use Rattle.lk_ast.specs.declared.place.Span.{Span}
use Rattle.lk_ast.specs.declared.place.Word.{Word}
use Rattle.lk_bag.specs.Blocks.{blocks_of}
use Rattle.lk_names.specs.Expressions.{fault, global_fault, node_in, unless_bound}
use Rattle.lk_names.specs.Programs.{IsBound, no_globals, with_decl, function_fault, functions_fault, table_fault, decls_fault, names_fault, main_fault}
use Rattle.lk_names.specs.declared.globals.Globals.{Globals}
use Rattle.lk_scope.specs.Names.{Names, no_names, is_local, bind, bind_all}
use Rattle.lk_sound.proofs.Apart.{function_parts}
use Rattle.lk_sound.proofs.BlocksInside.{bodies_blocks}
use Rattle.lk_sound.proofs.Faultless.{neither, IsFaultless, fault_level, inside_faultless, mapped}
use Rattle.lk_sound.proofs.Inside.{insides}
use Rattle.lk_sound.proofs.Names.{IsAmong}
use Rattle.lk_types.proofs.Members.{each_both}
use Rattle.lk_types.specs.Each.{Each}
use Rattle.lk_types.specs.Rows.{Label}
use Rattle.lk_sound.proofs.TableNames.{def_name}

-- a table that the program declares
abbrev pub IsDeclared : Program → Label → Type 0
IsDeclared p x = IsAmong x (map def_name (table_defs p))

-- the tables that are seen are declared
abbrev AreDeclared : Program → Names → Type 0
AreDeclared p tables = (x : Label) → is_local tables x ≡ true → IsDeclared p x

-- the expression has no fault where declared tables are seen
pub record SeesTables (p : Program) (e : Expr) : Type 0 where
  pub globals : Globals
  pub declared : AreDeclared p globals.tables
  pub faultless : IsFaultless globals e

-- ---- the bodies of functions

-- one more table
one_more : (p : Program) (tables : Names) (x : Word) → IsDeclared p x.text → AreDeclared p tables → AreDeclared p (bind x tables)
one_more p tables x here are y is = by_test (eq_by_cmp (slice_cmp nat_cmp) y x.text) refl (sym (set.contains-insert nat_list_cmp_total tables x.text y) ∙ is)
  where
    by_test : (b : Bool) → eq_by_cmp (slice_cmp nat_cmp) y x.text ≡ b → (b || is_local tables y) ≡ true → IsDeclared p y
    by_test true same there = subst (IsDeclared p) (sym ((bytes_eq-Decides y x.text).0 (sym (is_eq-slice_cmp y x.text) ∙ same))) here
    by_test false other there = are y there

bodies_of : (p : Program) (declared : Names) (globals : Globals) (fs : List FunDef) → AreDeclared p globals.tables → functions_fault declared globals fs ≡ None → Each (λ (f : FunDef). SeesTables p f.body) fs
bodies_of p declared globals [] are none = tt
bodies_of p declared globals (f ∷ fs) are none =
    let both = neither (function_fault declared globals f) (functions_fault (bind f.name declared) globals fs) none in
    (record { globals = globals; declared = are; faultless = (function_parts declared globals f both.0).body }, bodies_of p (bind f.name declared) globals fs are both.1)

decls_see : (p : Program) (declared : Names) (globals : Globals) (decls : List Decl) → AreDeclared p globals.tables → Each (λ (t : TableDecl). IsDeclared p t.name.text) (flat_map tables_in decls) → decls_fault declared globals decls ≡ None
    → Each (λ (f : FunDef). SeesTables p f.body) (flat_map functions_in decls)
decls_see p declared globals [] are all none = tt
decls_see p declared globals (Table table ∷ decls) are all none =
    let both = neither (table_fault declared table) (decls_fault (bind table.name declared) (with_decl (Table table) globals) decls) none in
    decls_see p (bind table.name declared) (with_decl (Table table) globals) decls (one_more p globals.tables table.name all.0 are) all.1 both.1
decls_see p declared globals (Fun f ∷ decls) are all none =
    let both = neither (function_fault declared (with_decl (Fun f) globals) f) (decls_fault (bind f.name declared) (with_decl (Fun f) globals) decls) none in
    (record { globals = with_decl (Fun f) globals; declared = are; faultless = (function_parts declared (with_decl (Fun f) globals) f both.0).body }, decls_see p (bind f.name declared) (with_decl (Fun f) globals) decls are all both.1)
decls_see p declared globals (Mutual fs ∷ decls) are all none =
    let behind : Names = bind_all (map (λ (f : FunDef). f.name) fs) declared in
    let both = neither (functions_fault declared (with_decl (Mutual fs) globals) fs) (decls_fault behind (with_decl (Mutual fs) globals) decls) none in
    each_both (λ (f : FunDef). SeesTables p f.body) fs (flat_map functions_in decls) (bodies_of p declared (with_decl (Mutual fs) globals) fs are both.0) (decls_see p behind (with_decl (Mutual fs) globals) decls are all both.1)

among : (tables : List TableDecl) (Q : Label → Type 0) → ((x : Label) → IsAmong x (map def_name (map table_def tables)) → Q x) → Each (λ (t : TableDecl). Q t.name.text) tables
among [] Q all = tt
among (t ∷ tables) Q all = (all t.name.text (inl refl), among tables Q (λ x there. all x (inr there)))

pub functions_see : (p : Program) → IsBound p → Each (λ (f : FunDef). SeesTables p f.body) (functions_of p)
functions_see p bound =
    let none : names_fault p ≡ None = (neither (names_fault p) (main_fault (main_of p)) bound).0 in
    decls_see p no_names no_globals p.decls (λ x is. absurd (no_local x is)) (among (tables_of p) (IsDeclared p) (λ x there. there)) none
  where
    no_local : (x : Label) → is_local no_names x ≡ true → ⊥
    no_local x is = both_ways (is_local no_names x) (set.contains-empty (slice_cmp nat_cmp) x) is

-- ---- what stands in them

pub insides_see : (p : Program) (e : Expr) → SeesTables p e → Each (SeesTables p) (insides (layer e))
insides_see p e s = each_of (insides (layer e)) (inside_faultless s.globals (layer e) e.span s.faultless.0 (sym (fault_level s.globals e s.faultless.0) ∙ s.faultless.1))
  where
    each_of : (es : List Expr) → Each (IsFaultless s.globals) es → Each (SeesTables p) es
    each_of [] all = tt
    each_of (d ∷ es) all = (record { globals = s.globals; declared = s.declared; faultless = all.0 }, each_of es all.1)

bound_there : (tables names : Names) (at : Span) (x : Label) → global_fault tables names at x ≡ None → is_local tables x ≡ true
bound_there tables names at x none = by_test (is_local tables x && not (is_local names x)) refl none
  where
    by_test : (b : Bool) → (is_local tables x && not (is_local names x)) ≡ b → unless_bound b at ≡ None → is_local tables x ≡ true
    by_test true is none = (and_parts (is_local tables x) (not (is_local names x)) is).0
    by_test false is none = absurd cc

-- a table that is read is declared
pub table_seen : (p : Program) (e : Expr) (t : Word) → layer e ≡ Node-F.Table t → SeesTables p e → IsDeclared p t.text
table_seen p e t is s =
    let none : global_fault s.globals.tables s.faultless.0 t.at t.text ≡ None = ap (λ l. node_in s.globals (mapped s.globals l) e.span s.faultless.0) (sym is) ∙ sym (fault_level s.globals e s.faultless.0) ∙ s.faultless.1 in
    s.declared t.text (bound_there s.globals.tables s.faultless.0 t.at t.text none)

-- ---- what acts on tables

pub blocks_see : (p : Program) → IsBound p → Each (SeesTables p) (blocks_of p)
blocks_see p bound = bodies_blocks (SeesTables p) (insides_see p) (functions_of p) (functions_see p bound)
