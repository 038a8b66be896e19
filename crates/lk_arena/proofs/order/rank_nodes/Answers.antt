use Rattle.std.proofs.Common.{◌≡◌, length, rules, None}
use Rattle.std.specs.Prelude.{replicate}
use Rattle.lk_arena.proofs.Ranking.{ranking_start}
use Rattle.lk_arena.proofs.order.rank_nodes.Goals as goal

pub rank_along-requires-clause-ranking : goal.rank_along-requires-clause-ranking
rank_along-requires-clause-ranking c =
    let e : c.in_ok-vec.field-0.items ≡ replicate (length c.args.shapes.now) None = c.in_ok-vec.ensures.items_if_clones_equal (λ y h. search rules) in
    rw (e, c.new.ensures.items) (ranking_start c.args.shapes.now c.args.classes.now)
