use Rattle.std.proofs.Common.{sym, ◌∙◌}
use Rattle.lk_norm.proofs.Making.{captured_here}
use Rattle.lk_norm.proofs.over.Over.captured.Goals as goal

pub returns-then-n-number : goal.returns-then-n-number
returns-then-n-number c =
    sym c.loop-one.invariant
    ∙ captured_here c.loop-one.next c.args.n c.loop-one.number c.loop-one.one-index c.args.captured.now c.one-item.result c.one-item.result c.loop-one-test.true c.one-item.is c.if-n-number.true
    ∙ sym (c.parameters.ensures c.args.self.now)
