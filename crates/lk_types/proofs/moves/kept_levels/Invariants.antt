use Rattle.std.proofs.Common.{◌≡◌, map, take}
use Rattle.lk_types.specs.Levels.{level_renumbered}
use Rattle.lk_types.specs.Places.{level_at, number_in}
use Rattle.lk_types.proofs.moves.kept_levels.Given as goal

abbrev pub invariant-loop-place : goal.invariant-loop-place
invariant-loop-place l = l.all.items ≡ map (λ p. level_renumbered (number_in l.places.items.items) (level_at l.levels p)) (take l.place-index l.places.items.items)
