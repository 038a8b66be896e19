use Rattle.lk_types.proofs.Counted.{count_at, count_more, count_whole}
use Rattle.lk_types.proofs.counts.count_all.Goals as goal
use Rattle.lk_types.specs.Levels.{at}
use Rattle.lk_types.specs.Sizes.{nodes}

pub loop-place-preserved : goal.loop-place-preserved
loop-place-preserved c = λ ts are.
    count_more (λ n. nodes (at ts n)) c.args.places.now c.loop-place.place-index c.loop-place.total (c.loop-place.invariant ts are) 0 _ _ c.loop-place-test.true c.both-total.ensures (count_at ts c.args.counts.now c.args.places.now c.loop-place.place-index are c.requires c.loop-place-test.true)

pub returns : goal.returns
returns c = λ ts are.
    count_whole (λ n. nodes (at ts n)) c.args.places.now c.loop-place.place-index c.loop-place.total (c.loop-place.invariant ts are) c.loop-place-test.false
