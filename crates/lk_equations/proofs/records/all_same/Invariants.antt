use Rattle.std.proofs.Common.{◌≡◌, map, take}
use Rattle.lk_typing.specs.Unknowns.{same}
use Rattle.lk_equations.proofs.records.all_same.Given as goal

abbrev pub invariant-loop-later : goal.invariant-loop-later
invariant-loop-later l = l.equations ≡ map (λ later. same later l.first) (take l.later-index l.rest)
