use Rattle.std.proofs.Common.{◌<◌, ◌≤◌, subst, arith}
use Rattle.lk_types.specs.Sizes.{most_nodes}
use Rattle.lk_unify.proofs.SideCounts.{beyond_at, within_more, within_of_first}
use Rattle.lk_unify.proofs.side_sizes.first_over.Goals as goal
use Rattle.lk_arena.specs.Counting.{count_at}
use Rattle.lk_unify.specs.SideSizes.{last_by}
use Rattle.lk_unify.specs.declared.constraint.Sizing.TheVariants.{Always}

pub returns-then-is_beyond-clause-beyond : goal.returns-then-is_beyond-clause-beyond
returns-then-is_beyond-clause-beyond c =
    let below = c.loop-i-test.true in
    let many = c.requires.sizings in
    let beyond = c.is_beyond.ensures.beyond c.if-is_beyond.true in
    beyond_at (last_by c.args.late) (λ n. (count_at c.args.classes.now c.args.counts.now n).as_type) Always c.args.sizings.now c.args.sides.now c.loop-i.i (omega arith) c.loop-i-test.true beyond.0
    (subst (λ count. most_nodes < count.as_type) c.count_at-count.ensures beyond.1)

pub returns-then-is_beyond-clause-before : goal.returns-then-is_beyond-clause-before
returns-then-is_beyond-clause-before c =
    within_of_first (last_by c.args.late) (λ n. (count_at c.args.classes.now c.args.counts.now n).as_type) c.loop-i.i c.args.sizings.now c.args.sides.now c.loop-i.invariant

pub loop-i-preserved : goal.loop-i-preserved
loop-i-preserved c =
    let below = c.loop-i-test.true in
    let many = c.requires.sizings in
    within_more (last_by c.args.late) (λ n. (count_at c.args.classes.now c.args.counts.now n).as_type) Always c.args.sizings.now c.args.sides.now c.loop-i.i (omega arith) c.loop-i-test.true c.loop-i.invariant
    (λ matter. subst (λ count. count.as_type ≤ most_nodes) c.count_at-count.ensures (c.is_beyond.ensures.within c.if-is_beyond.false matter))
