use Rattle.std.proofs.Common.{◌≡◌, ◌<◌, ◌≤◌, length, arith}
use Rattle.std.proofs.lemmas.List.{get_or_read, length-set}
use Rattle.std.specs.Prelude.{slice_index_or as get_or}
use Rattle.lk_arena.proofs.CountSums.{counts_more, all_counts}
use Rattle.lk_arena.proofs.EachLemmas.{Each-get_or}
use Rattle.lk_arena.proofs.counting.counts.Goals as goal
use Rattle.lk_arena.specs.Counting.{end_at}
use Rattle.lk_arena.specs.Shapes.{shape_at}
use Rattle.lk_arena.specs.declared.node.Shape.TheVariants.{Free}

pub loop-node-preserved : goal.loop-node-preserved
loop-node-preserved c =
    let node = get_or c.args.order.now c.loop-node.node-index 0 in
    let below : node < length c.args.shapes.now = Each-get_or (λ i. i < length c.args.shapes.now) c.args.order.now c.loop-node.node-index 0 c.loop-node-test.true c.requires.order.nodes in
    let shape : c.index-shapes-node.result ≡ shape_at c.args.shapes.now node = get_or_read c.args.shapes.now node c.index-shapes-node.result below c.index-shapes-node.is Free in
    record {
      count = rw length-set c.loop-node.invariant.count;
      done =
          counts_more (end_at c.args.ends.now) c.args.shapes.now c.args.classes.now c.args.order.now c.requires.classes c.requires.order c.loop-node.counts.items c.loop-node.node-index c.count_of.result
          (Each-get_or (λ n. n ≤ 1) c.args.ends.now node 0 (let n = c.requires.ends.count in omega arith) c.requires.ends.small) c.requires.nodes c.loop-node.invariant.count c.loop-node-test.true c.loop-node.invariant.done
          (rw (shape, c.as_slice.ensures.value) at c.count_of.ensures.as_type) (rw (shape, c.as_slice.ensures.value) at c.count_of.ensures.as_effects);
    }

pub returns-clause-counts : goal.returns-clause-counts
returns-clause-counts c =
    let e : c.loop-node.node-index ≡ length c.args.order.now = let l = c.loop-node-test.false in let m = c.loop-node.auto.node-index-end in omega arith in
    all_counts (end_at c.args.ends.now) c.args.shapes.now c.args.classes.now c.args.order.now c.requires.classes c.requires.order c.loop-node.counts.items (rw e at c.loop-node.invariant.done)
