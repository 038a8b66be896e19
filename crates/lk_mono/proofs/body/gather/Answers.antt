use Rattle.std.proofs.Common.{sym, subst}
use Rattle.lk_mono.proofs.NumbersGrown.{body_numbered}
use Rattle.lk_mono.specs.Looks.{AreNumbered}
use Rattle.lk_mono.proofs.Gathering.{ends, goes_on, starts, stops}
use Rattle.lk_mono.proofs.body.gather.Goals as goal

pub loop-body-init : goal.loop-body-init
loop-body-init c = (starts c.args.mains.now c.args.queue.now, c.requires.numbered)

pub returns-then-not-branch-clause-gathered : goal.returns-then-not-branch-clause-gathered
returns-then-not-branch-clause-gathered c =
    stops c.args.mains.now c.args.queue.now c.loop-body.body-index c.loop-body.queue c.loop-body.invariant.0 c.principal_laws.ensures.used _ c.loop-body-test.true c.body-item.is
    _ c.as_slice.ensures _ _ c.in_ok-add_uses.ensures.added c.if-not-branch.true

pub loop-body-preserved : goal.loop-body-preserved
loop-body-preserved c = (
  goes_on c.args.mains.now c.args.queue.now c.loop-body.body-index c.loop-body.queue c.loop-body.invariant.0 c.principal_laws.ensures.used _ c.loop-body-test.true c.body-item.is
      _ c.as_slice.ensures _ _ c.in_ok-add_uses.ensures.added c.if-not-branch.false,
  c.in_ok-add_uses.ensures.numbered,
)

pub returns-clause-gathered : goal.returns-clause-gathered
returns-clause-gathered c = ends c.args.mains.now c.args.queue.now c.loop-body.body-index c.loop-body.queue c.loop-body.invariant.0 c.loop-body-test.false

pub returns-clause-listed : goal.returns-clause-listed
returns-clause-listed c = c.loop-body.invariant.1

pub add_uses-requires-clause-listed : goal.add_uses-requires-clause-listed
add_uses-requires-clause-listed c = c.loop-body.invariant.1

pub add_uses-requires-clause-uses : goal.add_uses-requires-clause-uses
add_uses-requires-clause-uses c =
    subst (AreNumbered c.args.grounds.now) (sym c.as_slice.ensures) (body_numbered c.args.grounds.now c.args.mains.now c.loop-body.body-index _ c.body-item.result c.requires.uses c.loop-body-test.true c.body-item.is)
