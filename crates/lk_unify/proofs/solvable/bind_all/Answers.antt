use Rattle.std.proofs.Common.{get_or, sym, subst}
use Rattle.std.proofs.lemmas.List.{take_more}
use Rattle.std.specs.Prelude.{take}
use Rattle.lk_types.specs.declared.ty.Variable.{Variable}
use Rattle.lk_types.specs.declared.ty.Variable.TheVariants as variable
use Rattle.lk_unify.proofs.Solving.{start_more, bound_still, bound_more}
use Rattle.lk_unify.proofs.solvable.bind_all.Goals as goal
use Rattle.lk_unify.specs.Solving.{AreBound}

pub loop-variable-init : goal.loop-variable-init
loop-variable-init c = (c.requires, tt, λ x n is. is)

pub loop-variable-preserved : goal.loop-variable-preserved
loop-variable-preserved c =
    let x : Variable = get_or c.args.variables.now c.loop-variable.variable-index (variable.Plain 0) in
    let loads = c.in_ok-load_variable.ensures.loads in (
      start_more c.loop-variable.loader c.load_variable.new.loader x c.in_ok-load_variable.field-0 c.loop-variable.invariant.0 loads,
      subst (AreBound c.load_variable.new.loader) (sym (take_more c.args.variables.now c.loop-variable.variable-index (variable.Plain 0) c.loop-variable-test.true))
          (bound_more c.load_variable.new.loader x c.in_ok-load_variable.field-0 c.in_ok-load_variable.ensures.named (take c.loop-variable.variable-index c.args.variables.now)
          (bound_still c.loop-variable.loader c.load_variable.new.loader loads.to.kept (take c.loop-variable.variable-index c.args.variables.now) c.loop-variable.invariant.1)),
      (λ y n is. loads.to.kept y n (c.loop-variable.invariant.2 y n is)),
    )
