use Rattle.std.proofs.Common.{take}
use Rattle.std.specs.Prelude.{IsSome}
use Rattle.lk_types.specs.Each.{Each}
use Rattle.lk_arena.proofs.order.parts_known.Given as goal
use Rattle.lk_arena.specs.Order.{rank_at}
use Rattle.lk_classes.specs.Classes.{class_at}

abbrev pub invariant-loop-part : goal.invariant-loop-part
invariant-loop-part l = Each (λ p. IsSome (rank_at l.ranks (class_at l.classes p))) (take l.part-index l.parts)
