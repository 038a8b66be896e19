use Rattle.std.proofs.Common.{take}
use Rattle.lk_index.specs.Free.{texts}
use Rattle.lk_lower.specs.Steps.{AreNamed}
use Rattle.lk_lower.proofs.locals.places_of.Given as goal

abbrev pub invariant-loop-name : goal.invariant-loop-name
invariant-loop-name l = AreNamed l.locals l.places (texts (take l.name-index l.names))
