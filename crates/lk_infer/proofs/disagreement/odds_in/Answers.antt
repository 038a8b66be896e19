use Rattle.std.proofs.Common.{subst, sym}
use Rattle.std.specs.Prelude.{IfOk}
use Rattle.lk_infer.proofs.disagreement.odds_in.Goals as goal
use Rattle.lk_infer.specs.Disagreements.{IsFinding}
use Rattle.lk_infer.specs.Refusals.{IsIllTyped}

pub returns : goal.returns
returns c large at ill =
    let steps = c.in_ok-walk.ensures.steps in
    subst (λ steps. IfOk c.odds_of.result (IsFinding large steps)) steps (c.odds_of.ensures large at (subst (λ steps. IsIllTyped large steps at) (sym steps) ill))
