use Rattle.lk_unify.proofs.LevelVariables.{bound_next}
use Rattle.lk_unify.proofs.Solving.{start_nothing}
use Rattle.lk_unify.proofs.solvable.start.Goals as goal

pub loop-equation-init : goal.loop-equation-init
loop-equation-init c = (start_nothing c.new-loader.result c.new-loader.ensures.whole c.new-loader.ensures.shapes c.new-loader.ensures.kinds c.new-loader.ensures.names, tt)

pub loop-equation-preserved : goal.loop-equation-preserved
loop-equation-preserved c =
    let left = c.in_ok-bind_side.ensures in
    let right = c.in_ok-bind_side-2.ensures in (
      right.start,
      bound_next c.loop-equation.loader c.bind_side.new.loader c.bind_side-in-loop-equation.new.loader c.args.equations.now c.loop-equation.equation-index c.equation-item.result c.loop-equation-test.true c.equation-item.is left.kept right.kept c.loop-equation.invariant.1
          left.bound right.bound,
    )
