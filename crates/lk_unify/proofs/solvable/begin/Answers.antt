use Rattle.std.proofs.Common.{sym, subst}
use Rattle.lk_unify.proofs.Loadeds.{loaded_none}
use Rattle.lk_unify.proofs.solvable.begin.Goals as goal
use Rattle.lk_unify.specs.Solving.{AreLoaded}

pub returns : goal.returns
returns c =
    subst (λ sides. AreLoaded c.in_ok-loader.loader sides c.args.equations.now 0) (sym c.new-sides.ensures)
    (loaded_none c.in_ok-loader.loader c.args.equations.now c.in_ok-loader.ensures.start c.in_ok-loader.ensures.bound)
