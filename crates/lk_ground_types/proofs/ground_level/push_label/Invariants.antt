use Rattle.std.proofs.Common.{◌≡◌, ◌+◌, ◌++◌, map, take}
use Rattle.lk_ground_types.proofs.ground_level.push_label.Given as goal

abbrev pub invariant-loop-byte : goal.invariant-loop-byte
invariant-loop-byte l = l.key ≡ l.initial.key ++ map (λ b. b + 1) (take l.byte-index l.label)
