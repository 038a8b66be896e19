use Rattle.std.proofs.Common.{take}
use Rattle.lk_bodies.specs.CapturedSeen.{typed}
use Rattle.lk_index.specs.Free.{texts}
use Rattle.lk_lower.specs.Steps.{Captures, Learns}
use Rattle.lk_lower.specs.Walked.{state_of}
use Rattle.lk_lower.proofs.captured.kept_names.Given as goal

abbrev pub invariant-loop-name : goal.invariant-loop-name
invariant-loop-name l = Captures (texts (take l.name-index l.names)) (typed l.types) (state_of l.walk) l.kept × Learns (state_of l.initial.walk) (state_of l.walk)
