-- Captured values as parameters, which are counted from 1: one for a base, and one for each label of a record.
use Rattle.std.specs.Prelude.{◌≡◌, ℕ, ◌+◌, ◌-◌, true, List, [], ◌∷◌, ◌++◌, Option, Some, None, length, get_or, map}
use Rattle.std.specs.List.{flat_map}
use Rattle.lk_ast.specs.Rows.{row_value}
use Rattle.lk_ast.specs.Tables.{cells_fit, is_of_kind}
use Rattle.lk_ast.specs.declared.table.Base.{Base}
use Rattle.lk_ast.specs.declared.table.BaseKind.{BaseKind}
use Rattle.lk_ast.specs.declared.table.Cell.{Cell}
use Rattle.lk_ast.specs.declared.table.Column.{Column}
use Rattle.lk_ast.specs.declared.table.Row.{Row}
use Rattle.lk_ast.specs.declared.value.Field.{Field}
use Rattle.lk_ast.specs.declared.value.FunValue.{FunValue}
use Rattle.lk_ast.specs.declared.value.Value.{Value, out-Value}
use Rattle.lk_ast.specs.declared.value.Value.TheOpen.{Value-F}
use Rattle.lk_ast.specs.declared.value.Value.TheVariants as value
use Rattle.lk_sql.specs.Operations.{zero_base}
use Rattle.lk_query.specs.Given as given
use Rattle.lk_query.specs.Given.{Values, cell_with, of_base, of_row, row_with}
use Rattle.lk_query.specs.Order.{bind}
use Rattle.lk_query.specs.declared.query.Captured.{Captured}
use Rattle.lk_query.specs.declared.query.Captured.TheVariants as captured

-- ---- numbers

-- what is bound to a number: a base, or a record with these labels
abbrev pub Binding : Type 0
Binding = ℕ × Option (List (List ℕ))

abbrev pub labels_of : Captured → Option (List (List ℕ))
labels_of (captured.Base kind) = None
labels_of (captured.Row columns) = Some (map (λ (column : Column). column.label) columns)

-- what is captured, bound to the numbers from this one on
abbrev pub bindings_from : ℕ → List Captured → List Binding
bindings_from n [] = []
bindings_from n (one ∷ others) = (n, labels_of one) ∷ bindings_from (n + 1) others

-- ---- their values by parameters

abbrev pub parameter : List Base → ℕ → Base
parameter params k = get_or params (k - 1) zero_base

abbrev pub cells_from : List Base → ℕ → List (List ℕ) → List Cell
cells_from params k [] = []
cells_from params k (label ∷ labels) = cell_with label (parameter params k) ∷ cells_from params (k + 1) labels

-- with the parameters from number k on
abbrev pub values_from : List Base → ℕ → List Binding → Values
values_from params k [] = λ n. given.nothing
values_from params k ((n, None) ∷ bound) = bind n (of_base (parameter params k)) (values_from params (k + 1) bound)
values_from params k ((n, Some labels) ∷ bound) = bind n (of_row (row_with (cells_from params k labels))) (values_from params (k + length labels) bound)

-- what stands for what a query captures
abbrev pub query_values : List Captured → List Base → Values
query_values captured params = values_from params 1 (bindings_from 0 captured)

-- what stands for the row that may change, and for what the change captures
abbrev pub change_values : Row → List Captured → List Base → Values
change_values row captured params = bind 0 (of_row row) (values_from params 1 (bindings_from 1 captured))

-- ---- parameters by values

abbrev base_level : Value-F Value Field FunValue → List Base
base_level (Value-F.Base b) = b ∷ []
base_level other = []

abbrev leaves_level : Value-F Value Field FunValue → List Base
leaves_level (Value-F.Base b) = b ∷ []
leaves_level (Value-F.Fields fields) = flat_map (λ (field : Field). base_level (out-Value field.value)) fields
leaves_level other = []

-- the parameters that a captured value is: itself, or what its fields hold
abbrev pub leaves_of : Value → List Base
leaves_of v = leaves_level (out-Value v)

abbrev pub leaves : List Value → List Base
leaves args = flat_map leaves_of args

-- a value of what is captured there
abbrev pub IsCaptured : Captured → Value → Type 0
IsCaptured (captured.Base kind) v = (b : Base) × (v ≡ value.Base b) × (is_of_kind kind b ≡ true)
IsCaptured (captured.Row columns) v = (row : Row) × (v ≡ row_value row) × (cells_fit columns row.cells ≡ true)

abbrev pub AreCaptured : List Captured → List Value → Type 0
AreCaptured [] [] = Unit {0}
AreCaptured (one ∷ others) (v ∷ vs) = IsCaptured one v × AreCaptured others vs
AreCaptured captured vs = ⊥
