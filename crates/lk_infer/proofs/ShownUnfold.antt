-- What variables of rows lack because of a type, and which variables stand in it, on each form of type.
use Rattle.std.proofs.Common.{◌≡◌, ℕ, List, [], ◌∷◌, ◌++◌, map, refl, ◌∙◌, ap}
use Rattle.std.specs.Prelude.{flat_map}
use Rattle.lk_unify.proofs.OpenVariables.{variables_rolled as by_variables}
use Rattle.lk_types.proofs.Lists.{joined_map}
use Rattle.lk_types.proofs.Unfold.{variables_field}
use Rattle.lk_types.specs.Variables.{before_tail, joined, variables_of, variables_of_field, variables_of_row}
use Rattle.lk_types.specs.declared.scheme.Lack.{Lack}
use Rattle.lk_types.specs.declared.ty.Effects.{Effects}
use Rattle.lk_types.specs.declared.ty.RowTail.{RowTail}
use Rattle.lk_types.specs.declared.ty.Ty.{Ty}
use Rattle.lk_types.specs.declared.ty.Ty.TheFolds.{the_lemmas}
use Rattle.lk_types.specs.declared.ty.Ty.TheVariants as ty
use Rattle.lk_types.specs.declared.ty.TyField.{TyField}
use Rattle.lk_types.specs.declared.ty.TyRow.{TyRow, out-TyRow, roll-TyRow}
use Rattle.lk_types.specs.declared.ty.Variable.TheVariants as variable
use Rattle.lk_infer.specs.Lacks.{ShownField, shown, shown_in_field, shown_in_row, tail_lacks}

pub shown_int : shown ty.Int ≡ []
unfolding shown
shown_int = search the_lemmas

pub shown_bool : shown ty.Bool ≡ []
unfolding shown
shown_bool = search the_lemmas

pub shown_text : shown ty.Text ≡ []
unfolding shown
shown_text = search the_lemmas

pub shown_variable : (n : ℕ) → shown (ty.Var n) ≡ []
unfolding shown
shown_variable n = search the_lemmas

pub shown_list : (t : Ty) → shown (ty.List t) ≡ shown t
unfolding shown
shown_list t = search the_lemmas

pub shown_fields : (r : TyRow) → shown (ty.Fields r) ≡ shown_in_row r
unfolding shown shown_in_row
shown_fields r = search the_lemmas

pub shown_tags : (r : TyRow) → shown (ty.Tags r) ≡ shown_in_row r
unfolding shown shown_in_row
shown_tags r = search the_lemmas

by_params : (params : List Ty) (es : Effects) (answer : Ty) → shown (ty.Fun params es answer) ≡ joined (map shown params) ++ shown answer
unfolding shown
by_params params es answer = search the_lemmas

pub shown_function : (params : List Ty) (es : Effects) (answer : Ty) → shown (ty.Fun params es answer) ≡ flat_map shown params ++ shown answer
shown_function params es answer = by_params params es answer ∙ ap (λ z. z ++ shown answer) (joined_map shown params)

field_is : (f : TyField) → shown_in_field f ≡ record { label = f.label; inside = shown f.ty }
unfolding shown shown_in_field
field_is f = search the_lemmas

abbrev lacks_in : List ShownField → RowTail → List Lack
lacks_in fs tail = flat_map (λ f. f.inside) fs ++ tail_lacks (map (λ f. f.label) fs) tail

by_fields : (r : TyRow) → shown_in_row r ≡ lacks_in (map shown_in_field (out-TyRow r).fields) (out-TyRow r).tail
unfolding shown_in_row shown_in_field
by_fields r = search the_lemmas

by_rolled : (fs : List TyField) (tail : RowTail) → shown_in_row (roll-TyRow (record { fields = fs; tail = tail })) ≡ lacks_in (map shown_in_field fs) tail
unfolding shown_in_row shown_in_field
by_rolled fs tail = search the_lemmas

insides : (fs : List TyField) → flat_map (λ f. f.inside) (map shown_in_field fs) ≡ flat_map (λ f. shown f.ty) fs
insides [] = refl
insides (f ∷ fs) = λ i. (field_is f i).inside ++ insides fs i

labels : (fs : List TyField) → map (λ f. f.label) (map shown_in_field fs) ≡ map (λ f. f.label) fs
labels [] = refl
labels (f ∷ fs) = λ i. (field_is f i).label ∷ labels fs i

pub shown_row : (r : TyRow) → shown_in_row r ≡ flat_map (λ (f : TyField). shown f.ty) (out-TyRow r).fields ++ tail_lacks (map (λ (f : TyField). f.label) (out-TyRow r).fields) (out-TyRow r).tail
shown_row r = by_fields r ∙ (λ i. insides (out-TyRow r).fields i ++ tail_lacks (labels (out-TyRow r).fields i) (out-TyRow r).tail)

pub shown_rolled : (fs : List TyField) (tail : RowTail)
    → shown_in_row (roll-TyRow (record { fields = fs; tail = tail })) ≡ flat_map (λ f. shown f.ty) fs ++ tail_lacks (map (λ f. f.label) fs) tail
shown_rolled fs tail = by_rolled fs tail ∙ (λ i. insides fs i ++ tail_lacks (labels fs i) tail)

-- ---- the variables of a row

each_variables : (fs : List TyField) → joined (map variables_of_field fs) ≡ flat_map (λ f. variables_of f.ty) fs
each_variables [] = refl
each_variables (f ∷ fs) = λ i. variables_field f i ++ each_variables fs i

pub variables_rolled : (fs : List TyField) (tail : RowTail)
    → variables_of_row (roll-TyRow (record { fields = fs; tail = tail })) ≡ before_tail (flat_map (λ f. variables_of f.ty) fs) variable.Row tail
variables_rolled fs tail = by_variables fs tail ∙ ap (λ z. before_tail z variable.Row tail) (each_variables fs)
