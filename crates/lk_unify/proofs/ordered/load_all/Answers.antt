use Rattle.std.proofs.Common.{◌≡◌, length, subst, arith}
use Rattle.lk_unify.proofs.Loadeds.{loaded_side, loaded_stops}
use Rattle.lk_unify.proofs.ordered.load_all.Goals as goal
use Rattle.lk_unify.specs.Solving.{AreLoaded}

pub returns-then-not-branch : goal.returns-then-not-branch
returns-then-not-branch c =
    let next = c.loop-i-test.true in (
      omega arith,
      loaded_stops c.loop-i.all.loader c.loop-i.all.sides c.args.equations.now c.loop-i.i c.index-equations-i.result c.loop-i-test.true c.index-equations-i.is c.loop-i.invariant
          (c.in_ok-load_next.ensures.never c.if-not-branch.true),
    )

pub loop-i-preserved : goal.loop-i-preserved
loop-i-preserved c =
    loaded_side c.loop-i.all c.load_next.new.all c.args.equations.now c.loop-i.i c.index-equations-i.result c.loop-i-test.true c.index-equations-i.is c.loop-i.invariant
    (c.in_ok-load_next.ensures.added c.if-not-branch.false)

pub order_loaded-requires : goal.order_loaded-requires
order_loaded-requires c =
    let end = c.loop-i-test.false in
    let within = c.loop-i.auto.i-end in
    subst (AreLoaded c.loop-i.all.loader c.loop-i.all.sides c.args.equations.now) (let all : c.loop-i.i ≡ length c.args.equations.now = omega arith in all) c.loop-i.invariant
