use Rattle.std.proofs.Common.{◌≡◌, map, take}
use Rattle.lk_types.specs.Places.{with_keys}
use Rattle.lk_types.proofs.places.add_fields.Given as goal

abbrev pub invariant-loop-field : goal.invariant-loop-field
invariant-loop-field l = l.wanted.keys ≡ with_keys l.fn.wanted.keys (map (λ f. f.part) (take l.field-index l.fields))
