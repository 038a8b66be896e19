use Rattle.std.proofs.Common.{◌≡◌, None, refl}
use Rattle.lk_arena.proofs.EachLemmas.{OneOf-get_or}
use Rattle.lk_arena.proofs.order.parts_known.Goals as goal
use Rattle.lk_arena.specs.Order.{rank_at}
use Rattle.lk_classes.specs.Classes.{class_at}

pub returns-then-not-is_known-clause-unknown : goal.returns-then-not-is_known-clause-unknown
returns-then-not-is_known-clause-unknown c _ =
    OneOf-get_or (λ p. rank_at c.args.ranks.now (class_at c.args.classes.now p) ≡ None) c.args.parts.now c.loop-part.part-index 0 c.loop-part-test.true
    (c.if-not-is_known.ensures.unknown refl)
