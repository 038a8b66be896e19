-- The variables of types, of equations, of what a substitution puts for a variable.
use Rattle.std.specs.Prelude.{ℕ, ◌==◌, Bool, false, List, [], ◌∷◌, ◌++◌, Option, Some, None, fold, flat_map, if◌then◌else◌}
use Rattle.std.specs.List.{cons_option, list_any}
use Rattle.lk_types.specs.declared.equation.Equation.{Equation}
use Rattle.lk_types.specs.declared.equation.Image.{Image}
use Rattle.lk_types.specs.declared.equation.Image.TheVariants as image
use Rattle.lk_types.specs.declared.ty.Effects.{Effects}
use Rattle.lk_types.specs.declared.ty.RowTail.{RowTail}
use Rattle.lk_types.specs.declared.ty.RowTail.TheVariants.{Closed, Var}
use Rattle.lk_types.specs.declared.ty.Ty.{Ty, fold-Ty}
use Rattle.lk_types.specs.declared.ty.Ty.TheOpen.{Ty-F, TyField-F, TyRow-F}
use Rattle.lk_types.specs.declared.ty.TyField.{TyField, fold-TyField}
use Rattle.lk_types.specs.declared.ty.TyRow.{TyRow, fold-TyRow}
use Rattle.lk_types.specs.declared.ty.Variable.{Variable}
use Rattle.lk_types.specs.declared.ty.Variable.TheVariants as variable

abbrev pub same_variable : Variable → Variable → Bool
same_variable (variable.Plain m) (variable.Plain n) = m == n
same_variable (variable.Row m) (variable.Row n) = m == n
same_variable (variable.Effects m) (variable.Effects n) = m == n
same_variable x y = false

abbrev pub joined : {A : Type 0} → List (List A) → List A
joined = flat_map (λ xs. xs)

-- the variable of a tail, if it has one
abbrev pub tail_variable : (ℕ → Variable) → RowTail → Option Variable
tail_variable kind Closed = None
tail_variable kind (Var n) = Some (kind n)

-- that variable behind others
abbrev pub before_tail : List Variable → (ℕ → Variable) → RowTail → List Variable
before_tail xs kind tail = xs ++ cons_option (tail_variable kind tail) []

abbrev pub effects_variables : Effects → List Variable
effects_variables es = before_tail [] variable.Effects es.tail

-- one level of a type, the variables inside being known already
abbrev pub ty_variables : Ty-F (List Variable) (List Variable) (List Variable) → List Variable
ty_variables (Ty-F.List t) = t
ty_variables (Ty-F.Fields row) = row
ty_variables (Ty-F.Tags row) = row
ty_variables (Ty-F.Fun params es answer) = before_tail (joined params) variable.Effects es.tail ++ answer
ty_variables (Ty-F.Var n) = variable.Plain n ∷ []
ty_variables _ = []

abbrev pub row_variables : TyRow-F (List Variable) (List Variable) (List Variable) → List Variable
row_variables row = before_tail (joined row.fields) variable.Row row.tail

abbrev pub field_variables : TyField-F (List Variable) (List Variable) (List Variable) → List Variable
field_variables f = f.ty

-- each variable where it stands, in the order of the text
unfoldable pub variables_of : Ty → List Variable
variables_of = fold-Ty (List Variable) (List Variable) (List Variable) ty_variables field_variables row_variables

unfoldable pub variables_of_row : TyRow → List Variable
variables_of_row = fold-TyRow (List Variable) (List Variable) (List Variable) ty_variables field_variables row_variables

unfoldable pub variables_of_field : TyField → List Variable
variables_of_field = fold-TyField (List Variable) (List Variable) (List Variable) ty_variables field_variables row_variables

abbrev pub equation_variables : List Equation → List Variable
equation_variables [] = []
equation_variables (e ∷ es) = variables_of e.left ++ (variables_of e.right ++ equation_variables es)

abbrev pub image_variables : Image → List Variable
image_variables (image.Plain t) = variables_of t
image_variables (image.Row row) = variables_of_row row
image_variables (image.Effects es) = effects_variables es

-- one more, unless it is there already
abbrev pub with_variable : List Variable → Variable → List Variable
with_variable seen x = if list_any (same_variable x) seen then seen else seen ++ x ∷ []

-- each variable once, in the order in which they come first
abbrev pub firsts : List Variable → List Variable
firsts = fold with_variable []
