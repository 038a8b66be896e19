-- Operations by the rules of their operators.
use Rattle.std.proofs.Common.{◌≡◌, refl, sym, subst, ℕ, ℤ, Bool, List, [], ◌∷◌, map}
use Rattle.std.specs.Prelude.{int_rem}
use Rattle.std.specs.Int.{w64, int_wrapping_add, int_wrapping_sub, int_wrapping_mul, int_wrapping_div}
use Rattle.lk_ast.specs.Layers.{Layer}
use Rattle.lk_ast.specs.declared.declaration.TableDecl.{TableDecl}
use Rattle.lk_ast.specs.declared.expression.Expr.{Expr}
use Rattle.lk_ast.specs.declared.expression.Node.TheOpen.{Node-F}
use Rattle.lk_ast.specs.declared.expression.PartExpr.{PartExpr}
use Rattle.lk_ast.specs.declared.place.Word.{Word}
use Rattle.lk_ast.specs.declared.value.Value.{Value}
use Rattle.lk_operators.specs.Operators.{operated}
use Rattle.lk_operators.specs.Order.{holds}
use Rattle.lk_operators.specs.Outcomes.{both, on_two}
use Rattle.lk_operators.specs.Numbers.{calculation, division}
use Rattle.lk_operators.specs.Values.{int_in}
use Rattle.lk_types.specs.Each.{Each}
use Rattle.lk_types.specs.Rows.{EffectSet}
use Rattle.lk_types.specs.declared.ground.Ground.{Ground}
use Rattle.lk_types.specs.declared.ground.Ground.TheVariants as known
use Rattle.lk_ast.specs.declared.table.BaseKind.TheVariants as kind
use Rattle.lk_typing.specs.Heads as head
use Rattle.lk_typing.specs.Heads.{Head, parts}
use Rattle.lk_typing.specs.Names.{Named, Entry}
use Rattle.lk_typing.specs.Rules.{Rule}
use Rattle.lk_typing.specs.Rules as rule
use Rattle.lk_typing.specs.Typing.{label_of}
use Rattle.lk_fits.specs.Values.{Fits, AllFit, FitEach, none, more, none_left, one_more}
use Rattle.lk_fits.proofs.Lists.{on_none}
use Rattle.lk_fits.proofs.Operations.{by_one, by_two, calculation_sound, division_sound, negate_sound, int_to_string_sound, negation_sound, concat_sound, append_sound, cons_sound, head_sound, tail_sound, empty_sound}
use Rattle.lk_fits.proofs.Records.{record_sound, extend_sound, project_sound, tag_sound}
use Rattle.lk_fits.proofs.Results.{IsResult}
use Rattle.lk_fits.proofs.Shapes.{int_fits, truth_fits, text_fits, list_fits}

module _ (IsFun : ℕ → Ground → List Ground → Type 0) (functions : Named (Entry Ground)) (tables : List TableDecl) (locals : Named Ground) (effects : EffectSet) where
  abbrev By : Head → List Ground → Ground → Type 0
  By = Rule functions tables locals effects

  -- all of one type
  same_types : (a : Ground) (ts : List Ground) → Each (λ t. t ≡ a) ts → (values : List Value) → FitEach IsFun values ts → AllFit IsFun values a
  same_types a [] all [] none_left = none
  same_types a [] all (v ∷ values) fit = elim fit [ ]
  same_types a (t ∷ ts) all [] fit = elim fit [ ]
  same_types a (t ∷ ts) (same, all) (v ∷ values) (one_more fits fit) = more (subst (λ x. Fits IsFun v x) same fits) (same_types a ts all values fit)

  -- ---- what an operation comes to, by the rule of its operator

  abbrev pub Results : Layer → List Ground → Ground → Type 0
  Results l ts t = (values : List Value) → FitEach IsFun values ts → IsResult IsFun t (operated l values)

  -- operations on two integers
  calculated : (l : Layer) (f : ℤ → ℤ → ℤ) → ((values : List Value) → operated l values ≡ on_two (both int_in (calculation f)) values) → (ts : List Ground) (t : Ground) → By head.Arithmetic ts t → Results l ts t
  calculated l f is _ _ rule.arithmetic values fit = subst (λ o. IsResult IsFun known.Int o) (sym (is values)) (by_two IsFun (both int_in (calculation f)) known.Int known.Int known.Int (calculation_sound IsFun f) values fit)

  divided : (l : Layer) (f : ℤ → ℤ → ℤ) → ((values : List Value) → operated l values ≡ on_two (both int_in (division f)) values) → (ts : List Ground) (t : Ground) → By head.Division ts t → Results l ts t
  divided l f is _ _ (rule.division traps) values fit = subst (λ o. IsResult IsFun known.Int o) (sym (is values)) (by_two IsFun (both int_in (division f)) known.Int known.Int known.Int (division_sound IsFun f) values fit)

  on_comparison : (l : Layer) (ts : List Ground) (t : Ground) → By head.Comparison ts t → ((a : Ground) → Results l (a ∷ a ∷ []) known.Bool) → Results l ts t
  on_comparison l _ _ (rule.comparison {t}) sound = sound t

  pub literal_number : (n : _) (ts : List Ground) (t : Ground) → By (head.Literal kind.Int) ts t → Results (Node-F.Int n) ts t
  literal_number n _ _ rule.literal = on_none IsFun (λ vs. IsResult IsFun known.Int (operated (Node-F.Int n) vs)) (int_fits IsFun n)

  pub literal_text : (bytes : _) (ts : List Ground) (t : Ground) → By (head.Literal kind.Text) ts t → Results (Node-F.Text bytes) ts t
  literal_text bytes _ _ rule.literal = on_none IsFun (λ vs. IsResult IsFun known.Text (operated (Node-F.Text bytes) vs)) (text_fits IsFun bytes)

  pub literal_truth : (b : _) (ts : List Ground) (t : Ground) → By (head.Literal kind.Bool) ts t → Results (Node-F.Bool b) ts t
  literal_truth b _ _ rule.literal = on_none IsFun (λ vs. IsResult IsFun known.Bool (operated (Node-F.Bool b) vs)) (truth_fits IsFun b)

  pub add_results : (a b : Expr) (ts : List Ground) (t : Ground) → By head.Arithmetic ts t → Results (Node-F.Add a b) ts t
  add_results a b ts t by = calculated (Node-F.Add a b) (int_wrapping_add w64) (λ values. refl) ts t by

  pub sub_results : (a b : Expr) (ts : List Ground) (t : Ground) → By head.Arithmetic ts t → Results (Node-F.Sub a b) ts t
  sub_results a b ts t by = calculated (Node-F.Sub a b) (int_wrapping_sub w64) (λ values. refl) ts t by

  pub mul_results : (a b : Expr) (ts : List Ground) (t : Ground) → By head.Arithmetic ts t → Results (Node-F.Mul a b) ts t
  mul_results a b ts t by = calculated (Node-F.Mul a b) (int_wrapping_mul w64) (λ values. refl) ts t by

  pub div_results : (a b : Expr) (ts : List Ground) (t : Ground) → By head.Division ts t → Results (Node-F.Div a b) ts t
  div_results a b ts t by = divided (Node-F.Div a b) (int_wrapping_div w64) (λ values. refl) ts t by

  pub mod_results : (a b : Expr) (ts : List Ground) (t : Ground) → By head.Division ts t → Results (Node-F.Mod a b) ts t
  mod_results a b ts t by = divided (Node-F.Mod a b) (int_rem) (λ values. refl) ts t by

  -- any two values may be compared
  compared_results : (l : Layer) (test : Value → Value → Bool) (ts : List Ground) (t : Ground) → ((values : List Value) → operated l values ≡ on_two (holds test) values) → By head.Comparison ts t → Results l ts t
  compared_results l test ts t is by = on_comparison l ts t by (λ a values fit. subst (λ o. IsResult IsFun known.Bool o) (sym (is values)) (by_two IsFun (holds test) a a known.Bool (λ v w one other. truth_fits IsFun (test v w)) values fit))

  pub concat_results : (a b : Expr) (ts : List Ground) (t : Ground) → By head.Concat ts t → Results (Node-F.Concat a b) ts t
  concat_results a b _ _ rule.concat = by_two IsFun _ _ _ _ (concat_sound IsFun)

  pub append_results : (a b : Expr) (ts : List Ground) (t : Ground) → By head.Append ts t → Results (Node-F.Append a b) ts t
  append_results a b _ _ (rule.append u) = by_two IsFun _ _ _ _ (append_sound IsFun u)

  pub cons_results : (a b : Expr) (ts : List Ground) (t : Ground) → By head.Cons ts t → Results (Node-F.Cons a b) ts t
  cons_results a b _ _ (rule.cons {a = u} own) = by_two IsFun _ _ _ _ (cons_sound IsFun u)

  pub negation_results : (e : Expr) (ts : List Ground) (t : Ground) → By head.Negation ts t → Results (Node-F.Neg e) ts t
  negation_results e _ _ rule.negation = by_one IsFun _ _ _ (negate_sound IsFun)

  pub not_results : (e : Expr) (ts : List Ground) (t : Ground) → By head.Not ts t → Results (Node-F.Not e) ts t
  not_results e _ _ rule.not = by_one IsFun _ _ _ (negation_sound IsFun)

  pub first_results : (e : Expr) (ts : List Ground) (t : Ground) → By head.First ts t → Results (Node-F.Hd e) ts t
  first_results e _ _ (rule.first {a} traps own) = by_one IsFun _ _ _ (head_sound IsFun a)

  pub rest_results : (e : Expr) (ts : List Ground) (t : Ground) → By head.Rest ts t → Results (Node-F.Tl e) ts t
  rest_results e _ _ (rule.rest a traps own) = by_one IsFun _ _ _ (tail_sound IsFun a)

  pub empty_results : (e : Expr) (ts : List Ground) (t : Ground) → By head.Empty ts t → Results (Node-F.Empty e) ts t
  empty_results e _ _ (rule.empty a) = by_one IsFun _ _ _ (empty_sound IsFun a)

  pub int_to_string_results : (e : Expr) (ts : List Ground) (t : Ground) → By head.IntToString ts t → Results (Node-F.IntToString e) ts t
  int_to_string_results e _ _ (rule.int_to_string own) = by_one IsFun _ _ _ (int_to_string_sound IsFun)

  pub items_results : (es : List Expr) (ts : List Ground) (t : Ground) → By head.Items ts t → Results (Node-F.List es) ts t
  items_results es ts _ (rule.items a all) values fit = list_fits IsFun values a (same_types a ts all values fit)

  pub record_results : (fields : List PartExpr) (ts : List Ground) (t : Ground) → By (head.Record (map label_of fields)) ts t → Results (Node-F.Record fields) ts t
  record_results parts ts _ (rule.closed_record fields row named made) values fit = record_sound IsFun parts ts values fields row named made fit

  pub extend_results : (fields : List PartExpr) (e : Expr) (ts : List Ground) (t : Ground) → By (head.Extend (map label_of fields)) ts t → Results (Node-F.Extend fields e) ts t
  extend_results parts e ts _ (rule.extend fields other row named made) values fit = extend_sound IsFun parts ts values fields other row named made fit

  pub project_results : (e : Expr) (l : Word) (ts : List Ground) (t : Ground) → By (head.Project l.text) ts t → Results (Node-F.Project e l) ts t
  project_results e l _ t (rule.project other row made) = by_one IsFun _ _ _ (λ v fits. project_sound IsFun l.text t other row v made fits)

  pub tag_results : (l : Word) (e : Expr) (ts : List Ground) (t : Ground) → By (head.Tag l.text) ts t → Results (Node-F.Tag l e) ts t
  tag_results l e _ _ (rule.tag {t} other row made) = by_one IsFun _ _ _ (λ v fits. tag_sound IsFun l.text t other row v made fits)

  pub equal_results : (a b : Expr) (ts : List Ground) (t : Ground) → By head.Comparison ts t → Results (Node-F.Eq a b) ts t
  equal_results a b ts t by = compared_results (Node-F.Eq a b) _ ts t (λ values. refl) by

  pub other_results : (a b : Expr) (ts : List Ground) (t : Ground) → By head.Comparison ts t → Results (Node-F.Ne a b) ts t
  other_results a b ts t by = compared_results (Node-F.Ne a b) _ ts t (λ values. refl) by

  pub less_results : (a b : Expr) (ts : List Ground) (t : Ground) → By head.Comparison ts t → Results (Node-F.Lt a b) ts t
  less_results a b ts t by = compared_results (Node-F.Lt a b) _ ts t (λ values. refl) by

  pub at_most_results : (a b : Expr) (ts : List Ground) (t : Ground) → By head.Comparison ts t → Results (Node-F.Le a b) ts t
  at_most_results a b ts t by = compared_results (Node-F.Le a b) _ ts t (λ values. refl) by

  pub greater_results : (a b : Expr) (ts : List Ground) (t : Ground) → By head.Comparison ts t → Results (Node-F.Gt a b) ts t
  greater_results a b ts t by = compared_results (Node-F.Gt a b) _ ts t (λ values. refl) by

  pub at_least_results : (a b : Expr) (ts : List Ground) (t : Ground) → By head.Comparison ts t → Results (Node-F.Ge a b) ts t
  at_least_results a b ts t by = compared_results (Node-F.Ge a b) _ ts t (λ values. refl) by
