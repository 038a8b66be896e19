-- What the nodes come to whose values depend on those of their parts alone, on values that stand for others.
use Rattle.std.proofs.Common.{◌≡◌, ap, subst, Bool, List}
use Rattle.std.specs.Prelude.{int_rem, not}
use Rattle.std.specs.Int.{w64, int_wrapping_add, int_wrapping_sub, int_wrapping_mul, int_wrapping_div}
use Rattle.std.specs.Ordering.{is_lt, is_le, is_gt, is_ge}
use Rattle.lk_ast.specs.Layers.{Layer}
use Rattle.lk_ast.specs.declared.expression.Node.TheOpen.{Node-F}
use Rattle.lk_ast.specs.declared.value.Value.{Value}
use Rattle.lk_operators.specs.Operators.{operated}
use Rattle.lk_operators.specs.Order.{compared, same, holds}
use Rattle.lk_operators.specs.Records.{project, tag}
use Rattle.lk_operators.specs.Values.{int, truth, text}
use Rattle.lk_operators.specs.declared.outcome.Outcome.TheVariants as outcome
use Rattle.lk_ground.specs.Alike.{Alike, AllAlike}
use Rattle.lk_ground.specs.declared.program.GroundProgram.{GroundProgram}
use Rattle.lk_ground.proofs.AlikeOperations.{OutcomesAlike, values, no_rule, int_itself, truth_itself, text_itself, lists_made, nothing_given, one_given, two_given, calculation_alike, division_alike, negate_alike, int_to_string_alike, negation_alike, concat_alike, append_alike, cons_alike, head_alike, tail_alike, empty_alike}
use Rattle.lk_ground.proofs.AlikeOrder.{same_alike, compared_alike}
use Rattle.lk_ground.proofs.AlikeRecords.{new_record_alike, extended_alike, project_alike, tag_alike}

module _ (p : GroundProgram) where
  holds_alike : (test : Value → Value → Bool) → ((v w x y : Value) → Alike p v w → Alike p x y → test v x ≡ test w y) → (v w x y : Value) → Alike p v w → Alike p x y → OutcomesAlike p (holds test v x) (holds test w y)
  holds_alike test each v w x y one two = subst (λ b. OutcomesAlike p (holds test v x) (outcome.Value (truth b))) (each v w x y one two) (values (truth_itself p (test v x)))

  same_both : (v w x y : Value) → Alike p v w → Alike p x y → same v x ≡ same w y
  same_both v w x y one two = same_alike p one x y two

  pub operated_alike : (l : Layer) (vs ws : List Value) → AllAlike p vs ws → OutcomesAlike p (operated l vs) (operated l ws)
  operated_alike (Node-F.Int n) vs ws all = nothing_given p (outcome.Value (int n)) (values (int_itself p n)) vs ws all
  operated_alike (Node-F.Text bytes) vs ws all = nothing_given p (outcome.Value (text bytes)) (values (text_itself p bytes)) vs ws all
  operated_alike (Node-F.Bool b) vs ws all = nothing_given p (outcome.Value (truth b)) (values (truth_itself p b)) vs ws all
  operated_alike (Node-F.List es) vs ws all = values (lists_made p vs ws all)
  operated_alike (Node-F.Concat a b) vs ws all = two_given p _ (concat_alike p) vs ws all
  operated_alike (Node-F.Append a b) vs ws all = two_given p _ (append_alike p) vs ws all
  operated_alike (Node-F.Cons a b) vs ws all = two_given p _ (cons_alike p) vs ws all
  operated_alike (Node-F.Add a b) vs ws all = two_given p _ (calculation_alike p (int_wrapping_add w64)) vs ws all
  operated_alike (Node-F.Sub a b) vs ws all = two_given p _ (calculation_alike p (int_wrapping_sub w64)) vs ws all
  operated_alike (Node-F.Mul a b) vs ws all = two_given p _ (calculation_alike p (int_wrapping_mul w64)) vs ws all
  operated_alike (Node-F.Div a b) vs ws all = two_given p _ (division_alike p (int_wrapping_div w64)) vs ws all
  operated_alike (Node-F.Mod a b) vs ws all = two_given p _ (division_alike p int_rem) vs ws all
  operated_alike (Node-F.Eq a b) vs ws all = two_given p _ (holds_alike same same_both) vs ws all
  operated_alike (Node-F.Ne a b) vs ws all = two_given p _ (holds_alike (λ v w. not (same v w)) (λ v w x y one two. ap not (same_both v w x y one two))) vs ws all
  operated_alike (Node-F.Lt a b) vs ws all = two_given p _ (holds_alike (compared is_lt) (compared_alike p is_lt)) vs ws all
  operated_alike (Node-F.Le a b) vs ws all = two_given p _ (holds_alike (compared is_le) (compared_alike p is_le)) vs ws all
  operated_alike (Node-F.Gt a b) vs ws all = two_given p _ (holds_alike (compared is_gt) (compared_alike p is_gt)) vs ws all
  operated_alike (Node-F.Ge a b) vs ws all = two_given p _ (holds_alike (compared is_ge) (compared_alike p is_ge)) vs ws all
  operated_alike (Node-F.Neg e) vs ws all = one_given p _ (negate_alike p) vs ws all
  operated_alike (Node-F.Not e) vs ws all = one_given p _ (negation_alike p) vs ws all
  operated_alike (Node-F.Hd e) vs ws all = one_given p _ (head_alike p) vs ws all
  operated_alike (Node-F.Tl e) vs ws all = one_given p _ (tail_alike p) vs ws all
  operated_alike (Node-F.Empty e) vs ws all = one_given p _ (empty_alike p) vs ws all
  operated_alike (Node-F.IntToString e) vs ws all = one_given p _ (int_to_string_alike p) vs ws all
  operated_alike (Node-F.Record parts) vs ws all = new_record_alike p parts vs ws all
  operated_alike (Node-F.Extend parts r) vs ws all = extended_alike p parts vs ws all
  operated_alike (Node-F.Project e l) vs ws all = one_given p (project l.text) (project_alike p l.text) vs ws all
  operated_alike (Node-F.Tag t e) vs ws all = one_given p (tag t.text) (tag_alike p t.text) vs ws all
  operated_alike other vs ws all = no_rule
