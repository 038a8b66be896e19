use Rattle.std.proofs.Common.{◌+◌, ◌++◌, drop, refl, sym, ◌∙◌, ap, arith}
use Rattle.std.specs.List.{filter}
use Rattle.std.specs.Prelude.{is_some}
use Rattle.std.specs.FinMap as fin
use Rattle.lk_unify.proofs.ReadRows.{every_effect, effect_taken, effect_left}
use Rattle.lk_unify.proofs.chain.labels_of.Goals as goal
use Rattle.lk_unify.proofs.chain.labels_of.Goals.{then-row_has+in_ok-push, else-row_has}
use Rattle.lk_unify.specs.Reading.{effects_in, row_in}

pub loop-effect-preserved : goal.loop-effect-preserved
loop-effect-preserved c u own =
    let i = c.loop-effect.effect-index in
    let s = (effects_in (row_in (u c.args.node))).labels in
    let is = ap (λ l. is_some (fin.get (row_in (u c.args.node)).fields l)) (sym c.in_ok-word.ensures) ∙ sym (c.row_has.ensures u own) in
    elim c.if-row_has.branch [
      | then-row_has+in_ok-push w ↦
          ap (λ ls. ls ++ filter s (drop (i + 1) every_effect)) (w.labels-is ∙ w.in_ok-push.ensures.ok)
          ∙ sym (effect_taken s every_effect c.loop-effect.labels i (i + 1) (omega arith) _ _ c.loop-effect-test.true refl (is ∙ w.if-row_has.true))
          ∙ c.loop-effect.invariant u own
      | else-row_has w ↦
          ap (λ ls. ls ++ filter s (drop (i + 1) every_effect)) w.labels-is
          ∙ sym (effect_left s every_effect c.loop-effect.labels i (i + 1) (omega arith) _ _ c.loop-effect-test.true refl (is ∙ w.if-row_has.false))
          ∙ c.loop-effect.invariant u own
    ]
