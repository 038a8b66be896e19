use Rattle.std.proofs.Common.{length, ◌-◌}
use Rattle.lk_parse.proofs.Content.{SoFar}
use Rattle.lk_parse.proofs.literals.content.Given as goal

abbrev pub invariant-loop-byte : goal.invariant-loop-byte
invariant-loop-byte l = SoFar l.bytes l.meant.items l.len

abbrev pub decreases-loop-byte : goal.decreases-loop-byte
decreases-loop-byte l = length l.bytes - l.len
