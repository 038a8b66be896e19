use Rattle.std.proofs.Common.{subst}
use Rattle.lk_infer.proofs.disagreement.odds_for.Goals as goal
use Rattle.lk_infer.specs.Disagreements.{IsRefused}

pub returns-in-IllTyped : goal.returns-in-IllTyped
returns-in-IllTyped c large refused = c.odds_in.ensures large c.in-IllTyped.field-0 (subst (IsRefused large _) c.in-IllTyped.is refused)
