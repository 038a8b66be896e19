use Rattle.std.proofs.Common.{◌≡◌, map, take}
use Rattle.lk_unify.proofs.load_levels.nodes_at.Given as goal
use Rattle.lk_unify.specs.LevelLoading.{node_at}

abbrev pub invariant-loop-place : goal.invariant-loop-place
invariant-loop-place l = l.made ≡ map (node_at l.nodes) (take l.place-index l.places)
