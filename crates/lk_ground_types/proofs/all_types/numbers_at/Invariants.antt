use Rattle.std.proofs.Common.{◌≡◌, map, take}
use Rattle.lk_ground_types.specs.Becoming.{number_at}
use Rattle.lk_ground_types.proofs.all_types.numbers_at.Given as goal

abbrev pub invariant-loop-place : goal.invariant-loop-place
invariant-loop-place l = l.made ≡ map (number_at l.numbers) (take l.place-index l.places)
