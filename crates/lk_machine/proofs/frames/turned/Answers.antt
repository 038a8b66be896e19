use Rattle.std.proofs.Common.{◌∙◌, ap, ◌++◌, ◌∷◌, []}
use Rattle.lk_machine.specs.Going.{waiting}
use Rattle.lk_machine.proofs.Rounds.{one_turned}
use Rattle.lk_machine.proofs.frames.turned.Goals as goal

pub loop-frame-preserved : goal.loop-frame-preserved
loop-frame-preserved c =
    ap (λ done. done ++ waiting c.args.tables.now c.pop.new.self) (c.in_ok-push.ensures.ok ∙ ap (λ f. c.loop-frame.turned ++ f ∷ []) c.in_ok-forward.ensures)
    ∙ one_turned c.args.tables.now c.loop-frame.turned c.loop-frame.frames c.pop.new.self c.in-Some.frame c.in-Some.ensures
    ∙ c.loop-frame.invariant
