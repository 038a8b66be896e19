-- Which types have a function in them, on each form.
use Rattle.std.proofs.Common.{◌≡◌, Bool, true, false, ◌||◌, List, [], ◌∷◌, map, refl, ◌∙◌}
use Rattle.std.specs.List.{list_any}
use Rattle.lk_types.specs.declared.ground.Ground.{Ground}
use Rattle.lk_types.specs.declared.ground.Ground.TheFolds.{the_lemmas}
use Rattle.lk_types.specs.declared.ground.Ground.TheVariants as known
use Rattle.lk_types.specs.declared.ground.GroundField.{GroundField, fold-GroundField}
use Rattle.lk_types.specs.declared.ty.Effect.{Effect}
use Rattle.lk_ground_types.specs.Shapes.{has_function, function_level, function_field}

pub function_int : has_function known.Int ≡ false
unfolding has_function
function_int = search the_lemmas

pub function_bool : has_function known.Bool ≡ false
unfolding has_function
function_bool = search the_lemmas

pub function_text : has_function known.Text ≡ false
unfolding has_function
function_text = search the_lemmas

pub function_list : (t : Ground) → has_function (known.List t) ≡ has_function t
unfolding has_function
function_list t = search the_lemmas

pub function_fun : (ps : List Ground) (es : List Effect) (t : Ground) → has_function (known.Fun ps es t) ≡ true
unfolding has_function
function_fun ps es t = search the_lemmas

unfoldable in_field : GroundField → Bool
in_field = fold-GroundField Bool Bool function_level function_field

at_field : (f : GroundField) → in_field f ≡ has_function f.ty
unfolding has_function in_field
at_field f = search the_lemmas

at_fields : (fs : List GroundField) → list_any (λ there. there) (map in_field fs) ≡ list_any (λ f. has_function f.ty) fs
at_fields [] = refl
at_fields (f ∷ fs) = λ i. at_field f i || at_fields fs i

by_fields : (fs : List GroundField) → has_function (known.Fields fs) ≡ list_any (λ there. there) (map in_field fs)
unfolding has_function in_field
by_fields fs = search the_lemmas

by_tags : (fs : List GroundField) → has_function (known.Tags fs) ≡ list_any (λ there. there) (map in_field fs)
unfolding has_function in_field
by_tags fs = search the_lemmas

pub function_fields : (fs : List GroundField) → has_function (known.Fields fs) ≡ list_any (λ f. has_function f.ty) fs
function_fields fs = by_fields fs ∙ at_fields fs

pub function_tags : (fs : List GroundField) → has_function (known.Tags fs) ≡ list_any (λ f. has_function f.ty) fs
function_tags fs = by_tags fs ∙ at_fields fs
