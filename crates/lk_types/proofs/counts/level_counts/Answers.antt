use Rattle.std.proofs.Common.{refl, subst, sym}
use Rattle.lk_types.proofs.Built.{made_there}
use Rattle.lk_types.proofs.Counted.{counts_push}
use Rattle.lk_types.proofs.counts.level_counts.Goals as goal
use Rattle.lk_types.specs.Counts.{AreCounts, IsCount}
use Rattle.lk_types.specs.Levels.{built}
use Rattle.lk_types.specs.Sizes.{nodes}

pub loop-level-preserved : goal.loop-level-preserved
loop-level-preserved c =
    let levels = c.args.levels.now in
    let are = subst (λ xs. AreCounts xs (built levels)) (sym c.as_slice.ensures.value) c.loop-level.invariant.1 in
    counts_push (built levels) _ _ c.count_level-count.result c.loop-level.level-index c.in_ok-push.ensures.items c.loop-level.invariant.0 c.loop-level.invariant.1
    (subst (λ t. IsCount c.count_level-count.result (nodes t)) (made_there levels c.loop-level.level-index c.level-item.result c.level-item.result c.requires c.loop-level-test.true c.level-item.is refl) (c.count_level-count.ensures (built levels) are))
