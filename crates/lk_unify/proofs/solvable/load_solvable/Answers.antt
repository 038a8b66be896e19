use Rattle.std.proofs.Common.{◌≡◌, ◌<◌, length, subst, arith}
use Rattle.lk_unify.proofs.Loadeds.{loaded_side, loaded_never}
use Rattle.lk_unify.proofs.solvable.load_solvable.Goals as goal
use Rattle.lk_unify.specs.Solving.{AreLoaded}

pub unreachable-requires : goal.unreachable-requires
unreachable-requires c =
    let within = c.requires.count in
    let next = c.loop-i-test.true in
    let below : c.loop-i.i < length c.args.equations.now = omega arith in
    loaded_never c.loop-i.all.loader c.loop-i.all.sides c.args.equations.now c.loop-i.i c.index-equations-i.result below c.index-equations-i.is c.loop-i.invariant
    (c.in_ok-load_next.ensures.never c.if-not-branch.true) c.requires.solution

pub loop-i-preserved : goal.loop-i-preserved
loop-i-preserved c =
    let within = c.requires.count in
    let next = c.loop-i-test.true in
    let below : c.loop-i.i < length c.args.equations.now = omega arith in
    loaded_side c.loop-i.all c.load_next.new.all c.args.equations.now c.loop-i.i c.index-equations-i.result below c.index-equations-i.is c.loop-i.invariant
    (c.in_ok-load_next.ensures.added c.if-not-branch.false)

pub returns : goal.returns
returns c =
    let end = c.loop-i-test.false in
    let within = c.loop-i.auto.i-end in
    subst (AreLoaded c.loop-i.all.loader c.loop-i.all.sides c.args.equations.now) (let all : c.loop-i.i ≡ c.args.count = omega arith in all) c.loop-i.invariant
