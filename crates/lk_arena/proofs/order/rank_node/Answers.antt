use Rattle.std.proofs.Common.{◌≡◌, length, refl, sym, ◌∙◌, arith, None}
use Rattle.std.proofs.lemmas.List.{get_or_read}
use Rattle.std.specs.Prelude.{IsSome}
use Rattle.lk_types.specs.Each.{Each}
use Rattle.lk_arena.proofs.Ranking.{ranking_more}
use Rattle.lk_arena.proofs.Ranks.{none_from_is_some}
use Rattle.lk_arena.proofs.order.rank_node.Goals as goal
use Rattle.lk_arena.specs.Order.{rank_at}
use Rattle.lk_classes.specs.Classes.{class_at}
use Rattle.lk_arena.specs.Shapes.{shape_at, parts_of}
use Rattle.lk_arena.specs.declared.node.Shape.TheVariants.{Free}

pub returns-clause-ranking : goal.returns-clause-ranking
returns-clause-ranking c =
    let shape = get_or_read c.args.shapes.now c.args.i c.index-shapes-i.result c.requires.at c.index-shapes-i.is Free in
    let known : Each (λ p. IsSome (rank_at c.args.ranking.now.ranks.items (class_at c.args.classes.now p))) (parts_of (shape_at c.args.shapes.now c.args.i)) =
    rw shape at (rw c.as_slice.ensures.value at (c.if-not-all_known.ensures.known refl)) in
    let free : rank_at c.args.ranking.now.ranks.items c.args.i ≡ None =
    sym (get_or_read c.args.ranking.now.ranks.items c.args.i c.index.result.now (let n = c.requires.ranking.count in let b = c.requires.at in omega arith) c.index.ensures None)
    ∙ none_from_is_some _ (sym c.if-is_some.ensures) in
    let next : c.len-next.result ≡ length c.args.ranking.now.order.items = c.len-next.ensures ∙ c.args.ranking.now.order.ok.0 in
    rw (c.in_ok-push.ensures.items, next)
    (ranking_more c.args.shapes.now c.args.classes.now c.args.ranking.now.ranks.items c.args.ranking.now.order.items c.requires.ranking c.args.i c.requires.at free
    c.requires.nodes c.requires.classes known)
