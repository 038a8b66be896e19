use Rattle.std.proofs.Common.{subst}
use Rattle.lk_types.proofs.counts.count_effects.Goals as goal
use Rattle.lk_types.specs.Counts.{IsCount}
use Rattle.lk_types.specs.declared.ty.Variable.TheVariants as variable

pub returns : goal.returns
returns c = c.both.ensures _ _ (subst (IsCount c.capped.result) c.len.ensures c.capped.ensures) (c.count_tail.ensures variable.Effects)
