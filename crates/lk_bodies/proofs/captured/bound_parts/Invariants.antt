use Rattle.std.proofs.Common.{◌≡◌, take}
use Rattle.lk_bodies.specs.Captured.{bound_parts}
use Rattle.lk_index.specs.Free.{texts}
use Rattle.lk_bodies.proofs.captured.bound_parts.Given as goal

abbrev pub invariant-loop-name : goal.invariant-loop-name
invariant-loop-name l = l.parts ≡ bound_parts (texts (take l._name-index l.names))
