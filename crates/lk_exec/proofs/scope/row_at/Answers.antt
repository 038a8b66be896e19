use Rattle.lk_exec.proofs.Scopes.{row_before, row_there}
use Rattle.lk_exec.proofs.scope.row_at.Goals as goal

pub returns-then-bound-number : goal.returns-then-bound-number
returns-then-bound-number c = row_there c.args.scope.now c.loop-place.place c.index-scope-place.result c.args.number c.loop-place-test.true c.loop-place.auto.place c.index-scope-place.is c.if-bound-number.true c.loop-place.invariant

pub loop-place-preserved : goal.loop-place-preserved
loop-place-preserved c = row_before c.args.scope.now c.loop-place.place c.index-scope-place.result c.args.number c.loop-place-test.true c.loop-place.auto.place c.index-scope-place.is c.if-bound-number.false c.loop-place.invariant
