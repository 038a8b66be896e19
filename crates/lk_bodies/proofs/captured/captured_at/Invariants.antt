use Rattle.std.proofs.Common.{◌≡◌, take}
use Rattle.lk_bodies.specs.Captured.{captured_at}
use Rattle.lk_bodies.specs.UsesSeen.{seen_uses}
use Rattle.lk_index.specs.Free.{texts}
use Rattle.lk_bodies.proofs.captured.captured_at.Given as goal

abbrev pub invariant-loop-name : goal.invariant-loop-name
invariant-loop-name l = l.captured ≡ captured_at (seen_uses l.uses) (texts (take l.name-index l.names))
