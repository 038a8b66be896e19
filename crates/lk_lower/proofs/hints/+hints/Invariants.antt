use Rattle.std.proofs.Common.{◌≡◌, drop, map}
use Rattle.lk_lower.proofs.hints.+hints.Given as goal
use Rattle.lk_lower.specs.Hints.{field_hint, hint, mix_all}

abbrev pub invariant-of_fields-loop-field : goal.invariant-of_fields-loop-field
invariant-of_fields-loop-field l = mix_all l.mixed (map field_hint (drop l.field-index l.fields)) ≡ mix_all l.initial.mixed (map field_hint l.fields)

abbrev pub invariant-of_types-loop-ty : goal.invariant-of_types-loop-ty
invariant-of_types-loop-ty l = mix_all l.mixed (map hint (drop l.ty-index l.types)) ≡ mix_all l.initial.mixed (map hint l.types)
