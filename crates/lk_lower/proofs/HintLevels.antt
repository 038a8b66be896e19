-- The hint of each form of ground type.
use Rattle.std.proofs.Common.{◌≡◌, List, map}
use Rattle.lk_ground_types.specs.Grounds.{effect_number}
use Rattle.lk_lower.specs.Hints.{field_hint, hint, mix, mix_all}
use Rattle.lk_types.specs.declared.ground.Ground.{Ground}
use Rattle.lk_types.specs.declared.ground.Ground.TheFolds.{the_lemmas}
use Rattle.lk_types.specs.declared.ground.Ground.TheVariants as known
use Rattle.lk_types.specs.declared.ground.GroundField.{GroundField}
use Rattle.lk_types.specs.declared.ty.Effect.{Effect}

pub hint_int : hint known.Int ≡ 1
unfolding hint
hint_int = search the_lemmas

pub hint_bool : hint known.Bool ≡ 2
unfolding hint
hint_bool = search the_lemmas

pub hint_text : hint known.Text ≡ 3
unfolding hint
hint_text = search the_lemmas

pub hint_list : (t : Ground) → hint (known.List t) ≡ mix 4 (hint t)
unfolding hint
hint_list t = search the_lemmas

pub hint_fields : (fs : List GroundField) → hint (known.Fields fs) ≡ mix_all 5 (map field_hint fs)
unfolding hint field_hint
hint_fields fs = search the_lemmas

pub hint_tags : (fs : List GroundField) → hint (known.Tags fs) ≡ mix_all 6 (map field_hint fs)
unfolding hint field_hint
hint_tags fs = search the_lemmas

pub hint_function : (ps : List Ground) (es : List Effect) (t : Ground) → hint (known.Fun ps es t) ≡ mix_all (mix_all (mix 7 (hint t)) (map effect_number es)) (map hint ps)
unfolding hint
hint_function ps es t = search the_lemmas

pub hint_field : (f : GroundField) → field_hint f ≡ mix (mix_all 8 f.label) (hint f.ty)
unfolding hint field_hint
hint_field f = search the_lemmas
