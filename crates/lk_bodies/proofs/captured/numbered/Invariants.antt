use Rattle.std.proofs.Common.{◌≡◌, ◌+◌, drop}
use Rattle.lk_bodies.specs.Captured.{numbered}
use Rattle.lk_index.specs.Free.{texts}
use Rattle.lk_bodies.proofs.captured.numbered.Given as goal

abbrev pub invariant-loop-i : goal.invariant-loop-i
invariant-loop-i l = l.numbers ≡ numbered (l.i + l.first) (texts (drop l.i l.names))
