use Rattle.std.proofs.Common.{◌≡◌, map, take}
use Rattle.lk_unify.proofs.levels.places_of.Given as goal
use Rattle.lk_unify.specs.Levels.{place_of}

abbrev pub invariant-loop-node : goal.invariant-loop-node
invariant-loop-node l = l.all.items ≡ map (place_of l.arena l.places) (take l.node-index l.nodes)
