use Rattle.std.proofs.Common.{◌≡◌, map, take}
use Rattle.lk_types.specs.Names.{place_in}
use Rattle.lk_typing.specs.Equations.{lacks}
use Rattle.lk_equations.proofs.functions.all_lacks.Given as goal

abbrev pub invariant-loop-lack : goal.invariant-loop-lack
invariant-loop-lack l = l.equations ≡ map (lacks (place_in l.next l.names)) (take l.lack-index l.lacks)
