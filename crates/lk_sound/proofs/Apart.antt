-- In a program whose names are bound the functions have names of their own, and so have the parameters of each function and of
-- each lambda. The names that a lambda captures are each there once, in any program.
use Rattle.std.proofs.Common.{◌≡◌, sym, subst, false, T, List, [], ◌∷◌, ◌++◌, map, flat_map, None, inl, inr}
use Rattle.std.proofs.lemmas.Cmp.{nat_list_cmp_total}
use Rattle.std.specs.Cmp.{tied_itself}
use Rattle.std.specs.Cmp.Lexicographic.{slice_cmp}
use Rattle.std.specs.FinMap as finite
use Rattle.std.specs.FinMap.Entries.{is_sorted, below_all}
use Rattle.std.specs.Ordering.{nat_cmp, is_lt}
use Rattle.lk_ast.specs.Functions.{functions_in, functions_of, main_of}
use Rattle.lk_ast.specs.declared.declaration.Decl.{Decl}
use Rattle.lk_ast.specs.declared.declaration.Decl.TheVariants.{Table, Fun, Mutual}
use Rattle.lk_ast.specs.declared.declaration.FunDef.{FunDef}
use Rattle.lk_ast.specs.declared.declaration.Program.{Program}
use Rattle.lk_ast.specs.declared.expression.LambdaExpr.{LambdaExpr}
use Rattle.lk_ast.specs.declared.place.Word.{Word}
use Rattle.lk_index.specs.Free.{free_lambda, in_byte_order, captured}
use Rattle.lk_index.specs.Places.{PlacedLambda, Lambdas, gather, gather_all, each_with, lambdas_of}
use Rattle.lk_names.specs.Expressions.{fault}
use Rattle.lk_names.specs.Faults.{Fault, first_of}
use Rattle.lk_names.specs.Programs.{IsBound, no_globals, with_decl, names_of, sig_fault, function_fault, functions_fault, table_fault, decl_fault, decls_fault, names_fault, main_fault}
use Rattle.lk_names.specs.Repeats.{twice_fault, alone, items_fault, words_fault}
use Rattle.lk_names.specs.declared.globals.Globals.{Globals}
use Rattle.lk_scope.specs.Names.{Names, no_names, is_local, bind, bind_all}
use Rattle.lk_types.proofs.LabelMaps.{first_holds, second_holds}
use Rattle.lk_types.specs.Each.{Each}
use Rattle.lk_types.specs.Rows.{Label}
use Rattle.lk_typing.specs.Names.{texts}
use Rattle.lk_sound.proofs.Faultless.{neither, HasNoFault, HasParams, IsFaultless, all_params}
use Rattle.lk_sound.proofs.Gathered.{gathered}
use Rattle.lk_types.proofs.Members.{each_in, each_weaker, each_both}
use Rattle.lk_sound.proofs.Names.{IsAmong, AreDistinct}
use Rattle.lk_sound.proofs.NewNames.{AreNew, fewer_met, kept, new_distinct, once}
use Rattle.lk_sound.specs.Within.{IsFunctionOf, IsLambdaOf}

-- ---- lists without a fault

words_new : (met : Names) (words : List Word) → items_fault met (map alone words) ≡ None → AreNew met (texts words)
words_new met [] none = tt
words_new met (x ∷ words) none =
    let both = neither (twice_fault met x) (items_fault (bind x met) (map alone words)) none in
    (once met x both.0, words_new (bind x met) words both.1)

words_apart : (words : List Word) → words_fault words ≡ None → AreDistinct (texts words)
words_apart words none = new_distinct no_names (texts words) (words_new no_names words none)

-- ---- functions

-- no parameter is there twice, and the body has no fault
abbrev IsFine : FunDef → Type 0
IsFine f = (words_fault f.params ≡ None) × HasNoFault f.body

abbrev name_text : FunDef → Label
name_text f = f.name.text

-- what a function without a fault has: a new name, parameters of names of their own, and a body without a fault
pub record IsFaultlessFunction (declared : Names) (globals : Globals) (f : FunDef) : Type 0 where
  pub new : is_local declared f.name.text ≡ false
  pub params : words_fault f.params ≡ None
  pub body : IsFaultless globals f.body

pub function_parts : (declared : Names) (globals : Globals) (f : FunDef) → function_fault declared globals f ≡ None → IsFaultlessFunction declared globals f
function_parts declared globals f none =
    let body : Fault = fault globals f.body (bind_all f.params no_names) in
    let behind = (neither (sig_fault f.name f.sig) (first_of (twice_fault declared f.name) (first_of (words_fault f.params) body)) none).1 in
    let both = neither (twice_fault declared f.name) (first_of (words_fault f.params) body) behind in
    let rest = neither (words_fault f.params) body both.1 in
    record { new = once declared f.name both.0; params = rest.0; body = (bind_all f.params no_names, rest.1) }

function_fine : (declared : Names) (globals : Globals) (f : FunDef) → function_fault declared globals f ≡ None → IsFine f
function_fine declared globals f none = let parts = function_parts declared globals f none in (parts.params, (globals, parts.body))

-- the functions of a block, and those behind it
functions_new : (declared : Names) (globals : Globals) (fs others : List FunDef) → functions_fault declared globals fs ≡ None
    → AreNew (bind_all (map (λ (f : FunDef). f.name) fs) declared) (map name_text others) → AreNew declared (map name_text (fs ++ others))
functions_new declared globals [] others none new = new
functions_new declared globals (f ∷ fs) others none new =
    let both = neither (function_fault declared globals f) (functions_fault (bind f.name declared) globals fs) none in
    ((function_parts declared globals f both.0).new, functions_new (bind f.name declared) globals fs others both.1 new)

functions_fine : (declared : Names) (globals : Globals) (fs : List FunDef) → functions_fault declared globals fs ≡ None → Each IsFine fs
functions_fine declared globals [] none = tt
functions_fine declared globals (f ∷ fs) none =
    let both = neither (function_fault declared globals f) (functions_fault (bind f.name declared) globals fs) none in
    (function_fine declared globals f both.0, functions_fine (bind f.name declared) globals fs both.1)

-- ---- declarations

decls_new : (declared : Names) (globals : Globals) (decls : List Decl) → decls_fault declared globals decls ≡ None → AreNew declared (map name_text (flat_map functions_in decls))
decls_new declared globals [] none = tt
decls_new declared globals (Table table ∷ decls) none =
    let both = neither (table_fault declared table) (decls_fault (bind table.name declared) (with_decl (Table table) globals) decls) none in
    fewer_met declared (bind table.name declared) (map name_text (flat_map functions_in decls)) (λ y is. kept declared table.name.text y is) (decls_new (bind table.name declared) (with_decl (Table table) globals) decls both.1)
decls_new declared globals (Fun f ∷ decls) none =
    let both = neither (function_fault declared (with_decl (Fun f) globals) f) (decls_fault (bind f.name declared) (with_decl (Fun f) globals) decls) none in
    ((function_parts declared (with_decl (Fun f) globals) f both.0).new, decls_new (bind f.name declared) (with_decl (Fun f) globals) decls both.1)
decls_new declared globals (Mutual fs ∷ decls) none =
    let behind : Names = bind_all (map (λ (f : FunDef). f.name) fs) declared in
    let both = neither (functions_fault declared (with_decl (Mutual fs) globals) fs) (decls_fault behind (with_decl (Mutual fs) globals) decls) none in
    functions_new declared (with_decl (Mutual fs) globals) fs (flat_map functions_in decls) both.0 (decls_new behind (with_decl (Mutual fs) globals) decls both.1)

decl_fine : (declared : Names) (globals : Globals) (decl : Decl) → decl_fault declared globals decl ≡ None → Each IsFine (functions_in decl)
decl_fine declared globals (Table table) none = tt
decl_fine declared globals (Fun f) none = (function_fine declared (with_decl (Fun f) globals) f none, tt)
decl_fine declared globals (Mutual fs) none = functions_fine declared (with_decl (Mutual fs) globals) fs none

decls_fine : (declared : Names) (globals : Globals) (decls : List Decl) → decls_fault declared globals decls ≡ None → Each IsFine (flat_map functions_in decls)
decls_fine declared globals [] none = tt
decls_fine declared globals (decl ∷ decls) none =
    let both = neither (decl_fault declared globals decl) (decls_fault (bind_all (names_of decl) declared) (with_decl decl globals) decls) none in
    each_both IsFine (functions_in decl) (flat_map functions_in decls) (decl_fine declared globals decl both.0) (decls_fine (bind_all (names_of decl) declared) (with_decl decl globals) decls both.1)

-- ---- programs

names_bound : (p : Program) → IsBound p → names_fault p ≡ None
names_bound p bound = (neither (names_fault p) (main_fault (main_of p)) bound).0

all_fine : (p : Program) → IsBound p → Each IsFine (functions_of p)
all_fine p bound = decls_fine no_names no_globals p.decls (names_bound p bound)

-- no body of a function has a fault
pub bodies_faultless : (p : Program) → IsBound p → Each (λ (f : FunDef). HasNoFault f.body) (functions_of p)
bodies_faultless p bound = each_weaker IsFine (λ (f : FunDef). HasNoFault f.body) (λ f fine. fine.1) (functions_of p) (all_fine p bound)

-- no two functions have the same name
pub functions_apart : (p : Program) → IsBound p → AreDistinct (map (λ (f : FunDef). f.name.text) (functions_of p))
functions_apart p bound = new_distinct no_names (map name_text (functions_of p)) (decls_new no_names no_globals p.decls (names_bound p bound))

-- no two parameters of a function
pub params_apart : (p : Program) (f : FunDef) → IsBound p → IsFunctionOf p f → AreDistinct (texts f.params)
params_apart p f bound declared = words_apart f.params (each_in IsFine (functions_of p) f declared (all_fine p bound)).0

bodies_have_params : (fs : List FunDef) (found : Lambdas) → Each IsFine fs → Each HasParams found → Each HasParams (gather_all (each_with (λ (f : FunDef). gather f.body) fs) found)
bodies_have_params [] found fine all = all
bodies_have_params (f ∷ fs) found fine all =
    bodies_have_params fs (gather f.body found) fine.1
    (subst (Each HasParams) (sym (gathered f.body found)) (each_both HasParams found (gather f.body []) all (all_params fine.0.1.0 f.body fine.0.1.1)))

-- no two parameters of a lambda
pub lambda_params_apart : (p : Program) (placed : PlacedLambda) → IsBound p → IsLambdaOf p placed → AreDistinct (texts placed.lambda.params)
lambda_params_apart p placed bound there =
    words_apart placed.lambda.params (each_in HasParams (lambdas_of (functions_of p)) placed there (bodies_have_params (functions_of p) [] (all_fine p bound) tt))

-- ---- captured names

-- nothing stands before itself
not_below : (x y : Label) → y ≡ x → T (is_lt (slice_cmp nat_cmp x y)) → ⊥
not_below x y same below = subst (λ o. T (is_lt o)) (tied_itself nat_list_cmp_total x) (subst (λ z. T (is_lt (slice_cmp nat_cmp x z))) same below)

not_above : (x : Label) (es : List (Label × Unit {0})) → T (below_all (slice_cmp nat_cmp) x es) → IsAmong x (map (λ e. e.0) es) → ⊥
not_above x [] below among = among
not_above x (e ∷ es) below (inl same) = not_below x e.0 same (first_holds _ _ below)
not_above x (e ∷ es) below (inr later) = not_above x es (second_holds _ _ below) later

sorted_apart : (es : List (Label × Unit {0})) → T (is_sorted (slice_cmp nat_cmp) es) → AreDistinct (map (λ e. e.0) es)
sorted_apart [] sorted = tt
sorted_apart (e ∷ es) sorted = (not_above e.0 es (first_holds _ _ sorted), sorted_apart es (second_holds _ _ sorted))

-- words in byte order are each there once
pub ordered_apart : (words : List Label) → AreDistinct (in_byte_order words)
ordered_apart words =
    let names : finite.FinMap (slice_cmp nat_cmp) (Unit {0}) = finite.from_entries (map (λ word. (word, tt {0})) words) in
    sorted_apart (finite.entries names) (finite.entries_sorted names)

-- a lambda captures each name once
pub captured_apart : (l : LambdaExpr) → AreDistinct (captured l)
captured_apart l = ordered_apart (free_lambda l no_names)
