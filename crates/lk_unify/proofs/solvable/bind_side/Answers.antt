use Rattle.std.proofs.Common.{subst}
use Rattle.std.proofs.lemmas.Result.{on_ok_weaker}
use Rattle.lk_types.specs.Variables.{variables_of}
use Rattle.lk_unify.proofs.LevelVariables.{bound_among}
use Rattle.lk_unify.proofs.solvable.bind_side.Goals as goal
use Rattle.lk_unify.specs.Solving.{AreBound}

pub returns-clause-bound : goal.returns-clause-bound
returns-clause-bound c =
    on_ok_weaker c.bind_all.result
    (λ bound. bound_among c.bind_all.new.loader (variables_of c.args.side.now) c.in_ok-variables.variables c.in_ok-variables.ensures (subst (AreBound c.bind_all.new.loader) c.as_slice.ensures bound))
    c.bind_all.ensures.bound
