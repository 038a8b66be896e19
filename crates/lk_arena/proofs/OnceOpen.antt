-- What closed ends count: one for each class with a node that is an open row by itself.
use Rattle.std.proofs.Common.{◌≡◌, ℕ, zero, suc, ◌<◌, ◌≤◌, List, length, arith}
use Rattle.std.proofs.lemmas.List.{length-replicate}
use Rattle.std.specs.Prelude.{replicate}
use Rattle.lk_classes.specs.Classes.{class_at}
use Rattle.lk_types.specs.Each.{Each}
use Rattle.lk_arena.specs.Counting.{end_at, AreEnds}
use Rattle.lk_arena.specs.Shapes.{shape_at}
use Rattle.lk_arena.specs.declared.node.Shape.{Shape}
use Rattle.lk_arena.specs.declared.node.Shape.TheVariants.{Open}

none_small : (n : ℕ) → Each (λ n. n ≤ 1) (replicate n 0)
none_small zero = tt
none_small (suc n) = (omega arith, none_small n)

-- of the first nodes
abbrev pub CountOpenTo : List Shape → List ℕ → List ℕ → ℕ → Type 0
CountOpenTo shapes classes ends i = (j : ℕ) → j < i → shape_at shapes j ≡ Open → 1 ≤ end_at ends (class_at classes j)

pub no_ends : (shapes : List Shape) → AreEnds shapes (replicate (length shapes) 0)
no_ends shapes = record { count = length-replicate (length shapes) 0; small = none_small (length shapes) }
