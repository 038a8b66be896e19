-- The operators of a query whose parts are no lists, and what the two others come to.
use Rattle.std.proofs.Common.{◌≡◌, refl, sym, ap, subst, ◌∙◌, Bool, true, false, not, ◌||◌, List, [], ◌∷◌, ◌++◌, append-nil, length, Option, Some, None, IsPermutation, arith}
use Rattle.std.proofs.lemmas.List.Sorted.{length_permutation}
use Rattle.std.proofs.lemmas.Bool.{both_ways}
use Rattle.lk_ast.specs.Layers.{Layer, layer}
use Rattle.lk_ast.specs.declared.declaration.TableDecl.{TableDecl}
use Rattle.lk_ast.specs.declared.expression.Expr.{Expr}
use Rattle.lk_ast.specs.declared.expression.Node.TheOpen.{Node-F}
use Rattle.lk_ast.specs.declared.value.Value.{Value}
use Rattle.lk_ast.specs.declared.value.Value.TheVariants as value
use Rattle.lk_ground_types.specs.Shapes.{is_base, is_flat_row, is_flat, is_list, is_query_type}
use Rattle.lk_operators.specs.Operators.{operated}
use Rattle.lk_operators.specs.Values.{list_in, truth}
use Rattle.lk_operators.specs.declared.outcome.Outcome.TheVariants as outcome
use Rattle.lk_inline.proofs.RecordRules.{flat_bases, bases_in, labelled_types, record_flat}
use Rattle.lk_sound.specs.Nodes.{comparison, compared_by, may_compare}
use Rattle.lk_types.proofs.Members.{each_back, each_both}
use Rattle.lk_types.specs.Each.{Each}
use Rattle.lk_types.specs.Rows.{Label, EffectSet, fields_of, no_fields}
use Rattle.lk_types.specs.declared.ground.Ground.{Ground}
use Rattle.lk_types.specs.declared.ty.Effect.TheVariants as effect
use Rattle.lk_typing.specs.Heads as operator
use Rattle.lk_typing.specs.Heads.{Head}
use Rattle.lk_typing.specs.Names.{Named, types_of, Entry}
use Rattle.lk_typing.specs.Rules.{Rule}
use Rattle.lk_typing.specs.Rules as rule
use Rattle.lk_typing.specs.Types.{record_of}
use Rattle.lk_queries.specs.Law.{AtMostScan}
use Rattle.lk_queries.proofs.Barred.{no_local}
use Rattle.lk_queries.proofs.QueryTypes.{flat_list, variant_not_flat}
use Rattle.lk_queries.proofs.Liking.{query_flat, base_flat, int_flat, bool_flat, text_flat}

-- whether it is no operation, or one that may have lists as parts, or a comparison
abbrev pub is_mixed : Head → Bool
is_mixed (operator.Literal kind) = false
is_mixed operator.Concat = false
is_mixed operator.Cons = false
is_mixed operator.Arithmetic = false
is_mixed operator.Division = false
is_mixed operator.Negation = false
is_mixed operator.Not = false
is_mixed operator.First = false
is_mixed operator.Rest = false
is_mixed operator.IntToString = false
is_mixed (operator.Record labels) = false
is_mixed (operator.Extend labels) = false
is_mixed operator.Items = false
is_mixed (operator.Project l) = false
is_mixed (operator.Tag l) = false
is_mixed other = true

abbrev pub mixed_in : Option Head → Bool
mixed_in None = true
mixed_in (Some h) = is_mixed h

abbrev pub AreFlat : List Ground → Type 0
AreFlat ts = Each (λ t. is_flat t ≡ true) ts

row_is_flat : (a : Ground) → is_flat_row a ≡ true → is_flat a ≡ true
row_is_flat a flat = by_test (is_base a) flat
  where
    by_test : (b : Bool) → is_flat_row a ≡ true → (b || is_flat_row a) ≡ true
    by_test true flat = refl
    by_test false flat = flat

same_flat : (a : Ground) → is_flat a ≡ true → (ts : List Ground) → Each (λ t. t ≡ a) ts → AreFlat ts
same_flat a flat [] all = tt
same_flat a flat (t ∷ ts) all = (ap is_flat all.0 ∙ flat, same_flat a flat ts all.1)

bases_flat : (fields : Named Ground) → Each (λ (f : Label × Ground). is_base f.1 ≡ true) fields → AreFlat (types_of fields)
bases_flat [] all = tt
bases_flat (f ∷ fields) all = (base_flat f.1 all.0, bases_flat fields all.1)

module _ (functions : Named (Entry Ground)) (tables : List TableDecl) (names : Named Ground) (effects : EffectSet) (only : AtMostScan effects) where
  pub flat_parts : {h : Head} {ts : List Ground} {t : Ground} → Rule functions tables names effects h ts t → is_mixed h ≡ false → is_query_type t ≡ true → Each (λ u. is_query_type u ≡ true) ts → AreFlat ts
  flat_parts rule.literal mixed query queries = tt
  flat_parts (rule.local there) mixed query queries = absurd cc
  flat_parts (rule.function may) mixed query queries = absurd cc
  flat_parts (rule.call may) mixed query queries = absurd cc
  flat_parts (rule.apply local) mixed query queries = absurd cc
  flat_parts rule.seq mixed query queries = absurd cc
  flat_parts rule.branch mixed query queries = absurd cc
  flat_parts rule.logic mixed query queries = absurd cc
  flat_parts rule.concat mixed query queries = (text_flat, (text_flat, tt))
  flat_parts (rule.append a) mixed query queries = absurd cc
  flat_parts (rule.cons local) mixed query queries = absurd (both_ways (effects effect.Local) (no_local effects only) local)
  flat_parts rule.arithmetic mixed query queries = (int_flat, (int_flat, tt))
  flat_parts (rule.division traps) mixed query queries = (int_flat, (int_flat, tt))
  flat_parts rule.comparison mixed query queries = absurd cc
  flat_parts rule.negation mixed query queries = (int_flat, tt)
  flat_parts rule.not mixed query queries = (bool_flat, tt)
  flat_parts (rule.first traps local) mixed query queries = absurd (both_ways (effects effect.Local) (no_local effects only) local)
  flat_parts (rule.rest a traps local) mixed query queries = absurd (both_ways (effects effect.Local) (no_local effects only) local)
  flat_parts (rule.empty a) mixed query queries = absurd cc
  flat_parts (rule.int_to_string local) mixed query queries = (int_flat, tt)
  flat_parts (rule.print prints) mixed query queries = absurd cc
  flat_parts (rule.closed_record {labels} {ts} fields row are is) mixed query queries =
      subst AreFlat (sym (labelled_types labels ts fields [] are ∙ append-nil (types_of fields))) (bases_flat fields (bases_in fields no_fields row is (flat_bases row (record_flat (fields_of row) query))))
  flat_parts (rule.extend {labels} {ts} fields other row are is) mixed query queries =
      let types : ts ≡ types_of fields ++ record_of other ∷ [] = labelled_types labels ts fields (record_of other ∷ []) are in
      let last = each_back (λ u. is_query_type u ≡ true) (types_of fields) (record_of other ∷ []) (subst (Each (λ u. is_query_type u ≡ true)) types queries) in
      subst AreFlat (sym types)
      (each_both (λ u. is_flat u ≡ true) (types_of fields) (record_of other ∷ []) (bases_flat fields (bases_in fields other row is (flat_bases row (record_flat (fields_of row) query)))) (row_is_flat (record_of other) (record_flat (fields_of other) last.0), tt))
  flat_parts (rule.items a {ts} all) mixed query queries = same_flat a (row_is_flat a (flat_list a query)) ts all
  flat_parts (rule.project other row is) mixed query queries = (row_is_flat (record_of row) (record_flat (fields_of row) queries.0), tt)
  flat_parts (rule.tag other row is) mixed query queries = absurd (variant_not_flat (fields_of row) query)
  flat_parts (rule.table row has scans) mixed query queries = absurd cc
  flat_parts (rule.filter b) mixed query queries = absurd cc
  flat_parts (rule.insert row has writes) mixed query queries = absurd cc

  -- what a query compares is no list
  pub compared_flat : (e : Expr) (ts : List Ground) (t : Ground) (by : Rule functions tables names effects operator.Comparison ts t) → may_compare (compared_by e by) ≡ true → Each (λ u. is_query_type u ≡ true) ts
      → ((u : Ground) → may_compare (comparison (layer e) u) ≡ true → is_query_type u ≡ true → is_flat u ≡ true) → AreFlat ts
  compared_flat e _ _ (rule.comparison {t}) may queries test = (test t may queries.0, (test t may queries.0, tt))

-- equality, and order
pub equality_flat : (l m : Layer) (u : Ground) → l ≡ m → may_compare (comparison l u) ≡ true → (may_compare (comparison m u) ≡ true → not (is_list u) ≡ true) → is_query_type u ≡ true → is_flat u ≡ true
equality_flat l m u is may shows query = query_flat u query (shows (subst (λ k. may_compare (comparison k u) ≡ true) is may))

pub order_flat : (l m : Layer) (u : Ground) → l ≡ m → may_compare (comparison l u) ≡ true → (may_compare (comparison m u) ≡ true → is_base u ≡ true) → is_flat u ≡ true
order_flat l m u is may shows = base_flat u (shows (subst (λ k. may_compare (comparison k u) ≡ true) is may))

-- ---- operations on lists

pub append_is : (a b : Expr) (v w : Value) (vs ws : List Value) → list_in v ≡ Some vs → list_in w ≡ Some ws → operated (Node-F.Append a b) (v ∷ w ∷ []) ≡ outcome.Value (value.List (vs ++ ws))
append_is a b v w vs ws v_is w_is = rw (v_is, w_is) refl

abbrev pub is_none : List Value → Bool
is_none [] = true
is_none (v ∷ vs) = false

pub empty_is : (d : Expr) (v : Value) (vs : List Value) → list_in v ≡ Some vs → operated (Node-F.Empty d) (v ∷ []) ≡ outcome.Value (truth (is_none vs))
empty_is d v vs is = by_list vs is
  where
    by_list : (vs : List Value) → list_in v ≡ Some vs → operated (Node-F.Empty d) (v ∷ []) ≡ outcome.Value (truth (is_none vs))
    by_list [] is = rw is refl
    by_list (u ∷ vs) is = rw is refl

pub none_shuffled : (vs ws : List Value) → IsPermutation vs ws → is_none vs ≡ is_none ws
none_shuffled [] [] shuffle = refl
none_shuffled [] (w ∷ ws) shuffle = let long : length (w ∷ ws) ≡ length {A = Value} [] = length_permutation [] (w ∷ ws) shuffle in absurd (omega arith)
none_shuffled (v ∷ vs) [] shuffle = let long : length {A = Value} [] ≡ length (v ∷ vs) = length_permutation (v ∷ vs) [] shuffle in absurd (omega arith)
none_shuffled (v ∷ vs) (w ∷ ws) shuffle = refl
