-- Which values hold a function, on each form.
use Rattle.std.proofs.Common.{◌≡◌, Bool, true, false, ◌||◌, List, [], ◌∷◌, map, refl, ◌∙◌, ℕ}
use Rattle.std.specs.List.{list_any}
use Rattle.std.specs.Prelude.{⊤}
use Rattle.lk_ast.specs.declared.table.Base.{Base}
use Rattle.lk_ast.specs.declared.value.Field.{Field, fold-Field}
use Rattle.lk_ast.specs.declared.value.FunValue.{FunValue}
use Rattle.lk_ast.specs.declared.value.Value.{Value}
use Rattle.lk_ast.specs.declared.value.Value.TheFolds.{the_lemmas}
use Rattle.lk_ast.specs.declared.value.Value.TheVariants as value
use Rattle.lk_ast.specs.Plain.{holds_function, function_level, function_field}

pub of_base : (base : Base) → holds_function (value.Base base) ≡ false
unfolding holds_function
of_base base = search the_lemmas

pub of_fun : (fun : FunValue) → holds_function (value.Fun fun) ≡ true
unfolding holds_function
of_fun fun = search the_lemmas

pub of_tag : (tag : List ℕ) (held : Value) → holds_function (value.Tag tag held) ≡ holds_function held
unfolding holds_function
of_tag tag held = search the_lemmas

by_elements : (values : List Value) → holds_function (value.List values) ≡ list_any (λ holds. holds) (map holds_function values)
unfolding holds_function
by_elements values = search the_lemmas

at_elements : (values : List Value) → list_any (λ holds. holds) (map holds_function values) ≡ list_any holds_function values
at_elements [] = refl
at_elements (v ∷ values) = λ i. holds_function v || at_elements values i

pub of_list : (values : List Value) → holds_function (value.List values) ≡ list_any holds_function values
of_list values = by_elements values ∙ at_elements values

unfoldable in_field : Field → Bool
in_field = fold-Field Bool Bool ⊤ function_level function_field (λ fun. tt)

at_field : (f : Field) → in_field f ≡ holds_function f.value
unfolding holds_function in_field
at_field f = search the_lemmas

at_fields : (fs : List Field) → list_any (λ holds. holds) (map in_field fs) ≡ list_any (λ f. holds_function f.value) fs
at_fields [] = refl
at_fields (f ∷ fs) = λ i. at_field f i || at_fields fs i

by_fields : (fs : List Field) → holds_function (value.Fields fs) ≡ list_any (λ holds. holds) (map in_field fs)
unfolding holds_function in_field
by_fields fs = search the_lemmas

pub of_fields : (fs : List Field) → holds_function (value.Fields fs) ≡ list_any (λ f. holds_function f.value) fs
of_fields fs = by_fields fs ∙ at_fields fs
