use Rattle.std.proofs.Common.{length}
use Rattle.lk_arena.proofs.Ordered.{rank_of, IsRanked-from_partly, NeverFits-from_stuck}
use Rattle.lk_arena.proofs.Ranking.{parts_first_of}
use Rattle.lk_arena.proofs.order.parts_first.Goals as goal

pub returns-then-not-all_classes_known-clause-never : goal.returns-then-not-all_classes_known-clause-never
returns-then-not-all_classes_known-clause-never c =
    let u = (rw c.as_slice.ensures.value at c.all_classes_known.ensures.unknown) c.if-not-all_classes_known.true in
    NeverFits-from_stuck c.args.shapes.now c.args.classes.now c.in_ok-ranking.ranking.ranks.items c.requires.nodes c.requires.classes c.requires.distinct c.requires.fields
    c.in_ok-ranking.ensures.stuck u.0 u.1 u.2 u.3

pub returns-clause-ranked : goal.returns-clause-ranked
returns-clause-ranked c = (
  rank_of c.in_ok-ranking.ranking.ranks.items,
  IsRanked-from_partly c.args.shapes.now c.args.classes.now c.in_ok-ranking.ranking.ranks.items (length c.in_ok-ranking.ranking.order.items)
      c.requires.classes.count c.in_ok-ranking.ensures.ranking.ranked
      (rw c.as_slice.ensures.value at (c.all_classes_known.ensures.known c.if-not-all_classes_known.false)),
)

pub returns-clause-order : goal.returns-clause-order
returns-clause-order c =
    parts_first_of c.args.shapes.now c.args.classes.now c.in_ok-ranking.ranking.ranks.items c.in_ok-ranking.ranking.order.items c.in_ok-ranking.ensures.ranking c.requires.classes c.requires.nodes
    (rw c.as_slice.ensures.value at (c.all_classes_known.ensures.known c.if-not-all_classes_known.false))
