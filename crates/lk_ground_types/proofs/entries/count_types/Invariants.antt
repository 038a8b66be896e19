use Rattle.std.proofs.Common.{◌≡◌, ◌+◌, map, take}
use Rattle.std.specs.Prelude.{sum}
use Rattle.lk_ground_types.specs.Counting.{capped}
use Rattle.lk_ground_types.specs.Grounds.{at, types_of}
use Rattle.lk_ground_types.specs.Sizes.{ground_nodes}
use Rattle.lk_ground_types.proofs.entries.count_types.Given as goal

abbrev pub invariant-loop-number : goal.invariant-loop-number
invariant-loop-number l = l.total ≡ capped (1 + sum (map ((λ n. ground_nodes (at (types_of l.entries) n))) (take l.number-index l.numbers)))
