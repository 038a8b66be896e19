use Rattle.std.proofs.Common.{◌≡◌, ◌++◌, drop, map}
use Rattle.lk_bodies.proofs.parts.labelled.Given as goal
use Rattle.lk_bodies.specs.Walk.{labelled}

abbrev pub invariant-loop-field : goal.invariant-loop-field
invariant-loop-field l = l.items ++ labelled (map (λ field. field.label.text) (drop l.field-index l.fields)) l.left ≡ labelled (map (λ field. field.label.text) l.fields) l.numbers
