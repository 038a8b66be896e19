use Rattle.std.proofs.Common.{take}
use Rattle.std.specs.Prelude.{IsSome}
use Rattle.lk_types.specs.Each.{Each}
use Rattle.lk_arena.proofs.order.fields_known.Given as goal
use Rattle.lk_arena.specs.Order.{rank_at}
use Rattle.lk_classes.specs.Classes.{class_at}

abbrev pub invariant-loop-field : goal.invariant-loop-field
invariant-loop-field l = Each (λ f. IsSome (rank_at l.ranks (class_at l.classes f.node))) (take l.field-index l.fields)
