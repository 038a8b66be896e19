use Rattle.std.proofs.Common.{◌≡◌, take}
use Rattle.lk_index.specs.Free.{texts}
use Rattle.lk_lower.proofs.names.copies.Given as goal

abbrev pub invariant-loop-name : goal.invariant-loop-name
invariant-loop-name l = l.copies ≡ texts (take l.name-index l.names)
