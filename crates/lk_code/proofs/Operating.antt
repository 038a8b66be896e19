-- What operations come to, by the rules of their operators.
use Rattle.std.proofs.Common.{◌≡◌, refl, sym, ap, subst, ℕ, List, [], ◌∷◌, Option, map}
use Rattle.lk_ast.specs.declared.place.Span.{Span}
use Rattle.lk_ast.specs.declared.value.Value.{Value}
use Rattle.lk_fits.proofs.Operators as by
use Rattle.lk_fits.proofs.Results.{IsResult}
use Rattle.lk_fits.specs.Values.{FitEach}
use Rattle.lk_ir.specs.LetNormal.{done}
use Rattle.lk_ir.specs.Operations.{applied, hole, holes, word}
use Rattle.lk_ir.specs.declared.nodes.Forms.{Forms}
use Rattle.lk_ir.specs.declared.nodes.Op.{Op}
use Rattle.lk_ir.specs.declared.nodes.Op.TheVariants as op
use Rattle.lk_operators.specs.declared.outcome.Outcome.{Outcome}
use Rattle.lk_operators.specs.declared.outcome.Outcome.TheVariants as outcome
use Rattle.lk_types.specs.Rows.{Label}
use Rattle.lk_types.specs.declared.ground.Ground.{Ground}
use Rattle.lk_typing.specs.Heads as head
use Rattle.lk_typing.specs.Rules.{Rule}
use Rattle.lk_typing.specs.Typing.{label_of}
use Rattle.lk_code.specs.Acting.{ActsWell}
use Rattle.lk_code.specs.Parts.{Info, every, head_of}

labels_again : (labels : List Label) → map label_of (holes labels) ≡ labels
labels_again [] = refl
labels_again (label ∷ labels) = ap (λ ls. label ∷ ls) (labels_again labels)

module _ (IsFun : ℕ → Ground → List Ground → Type 0) where
  pub operated_well : (o : Op) (ts : List Ground) (t : Ground) → Rule [] [] [] every (head_of o) ts t → (values : List Value) → FitEach IsFun values ts → IsResult IsFun t (applied o values)
  operated_well (op.Int n) ts t rule = by.literal_number IsFun [] [] [] every n ts t rule
  operated_well (op.Text bytes) ts t rule = by.literal_text IsFun [] [] [] every bytes ts t rule
  operated_well (op.Bool b) ts t rule = by.literal_truth IsFun [] [] [] every b ts t rule
  operated_well op.List ts t rule = by.items_results IsFun [] [] [] every [] ts t rule
  operated_well op.Concat ts t rule = by.concat_results IsFun [] [] [] every hole hole ts t rule
  operated_well op.Append ts t rule = by.append_results IsFun [] [] [] every hole hole ts t rule
  operated_well op.Cons ts t rule = by.cons_results IsFun [] [] [] every hole hole ts t rule
  operated_well op.Add ts t rule = by.add_results IsFun [] [] [] every hole hole ts t rule
  operated_well op.Sub ts t rule = by.sub_results IsFun [] [] [] every hole hole ts t rule
  operated_well op.Mul ts t rule = by.mul_results IsFun [] [] [] every hole hole ts t rule
  operated_well op.Div ts t rule = by.div_results IsFun [] [] [] every hole hole ts t rule
  operated_well op.Mod ts t rule = by.mod_results IsFun [] [] [] every hole hole ts t rule
  operated_well op.Eq ts t rule = by.equal_results IsFun [] [] [] every hole hole ts t rule
  operated_well op.Ne ts t rule = by.other_results IsFun [] [] [] every hole hole ts t rule
  operated_well op.Lt ts t rule = by.less_results IsFun [] [] [] every hole hole ts t rule
  operated_well op.Le ts t rule = by.at_most_results IsFun [] [] [] every hole hole ts t rule
  operated_well op.Gt ts t rule = by.greater_results IsFun [] [] [] every hole hole ts t rule
  operated_well op.Ge ts t rule = by.at_least_results IsFun [] [] [] every hole hole ts t rule
  operated_well op.Neg ts t rule = by.negation_results IsFun [] [] [] every hole ts t rule
  operated_well op.Not ts t rule = by.not_results IsFun [] [] [] every hole ts t rule
  operated_well op.Hd ts t rule = by.first_results IsFun [] [] [] every hole ts t rule
  operated_well op.Tl ts t rule = by.rest_results IsFun [] [] [] every hole ts t rule
  operated_well op.Empty ts t rule = by.empty_results IsFun [] [] [] every hole ts t rule
  operated_well op.IntToString ts t rule = by.int_to_string_results IsFun [] [] [] every hole ts t rule
  operated_well (op.Record labels) ts t rule = by.record_results IsFun [] [] [] every (holes labels) ts t (subst (λ ls. Rule [] [] [] every (head.Record ls) ts t) (sym (labels_again labels)) rule)
  operated_well (op.Extend labels) ts t rule = by.extend_results IsFun [] [] [] every (holes labels) hole ts t (subst (λ ls. Rule [] [] [] every (head.Extend ls) ts t) (sym (labels_again labels)) rule)
  operated_well (op.Project label) ts t rule = by.project_results IsFun [] [] [] every hole (word label) ts t rule
  operated_well (op.Tag tag) ts t rule = by.tag_results IsFun [] [] [] every (word tag) hole ts t rule

  pub done_well : (f : Forms) (info : ℕ → Option Info) (at : Span) (t : Ground) (o : Outcome) → IsResult IsFun t o → ActsWell IsFun f info t (done at o)
  done_well f info at t (outcome.Value v) sound = sound
  done_well f info at t (outcome.Trap trap) sound = tt
  done_well f info at t outcome.NoRule sound = absurd sound
