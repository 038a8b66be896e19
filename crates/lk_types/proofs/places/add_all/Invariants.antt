use Rattle.std.proofs.Common.{◌≡◌, take}
use Rattle.lk_types.specs.Places.{with_keys}
use Rattle.lk_types.proofs.places.add_all.Given as goal

abbrev pub invariant-loop-place : goal.invariant-loop-place
invariant-loop-place l = l.wanted.keys ≡ with_keys l.fn.wanted.keys (take l.place-index l.places)
