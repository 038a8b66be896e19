-- What the code's scopes stand for.
use Rattle.std.specs.Prelude.{ℕ, List, length, map}
use Rattle.lk_ast.specs.declared.table.Column.{Column}
use Rattle.lk_sql.specs.declared.tree.Out.{Out}
use Rattle.lk_sql.specs.declared.tree.Scalar.{Scalar}
use Rattle.lk_sql.specs.declared.tree.Scalar.TheVariants as scalar
use Rattle.lk_query.specs.Captured.{bindings_from}
use Rattle.lk_query.specs.Order.{bind}
use Rattle.lk_query.specs.declared.part.Part.{Part}
use Rattle.lk_query.specs.declared.query.Captured.{Captured}
use Rattle.lk_query.specs.declared.query.Captured.TheVariants as captured
use Rattle.lk_norm.specs.Captured.{names_from, outputs_from}
use Rattle.lk_norm.specs.Normal.{Names, Stands, as_base, as_row, columns_of, norms, nothing}
use Rattle.lk_norm.specs.declared.names.Meant.{Meant}
use Rattle.lk_norm.specs.declared.names.Meant.TheVariants as meant
use Rattle.lk_norm.specs.declared.names.Scope.{Scope}
use Rattle.lk_norm.specs.declared.names.Scope.TheVariants as variant

-- how many parameters a captured value is, and what it stands for as those from number k on
abbrev pub width : Captured → ℕ
width (captured.Base kind) = 1
width (captured.Row columns) = length columns

abbrev pub params_of : ℕ → List Column → List Out
params_of k columns = outputs_from k (map (λ (column : Column). column.label) columns)

abbrev pub of_captured : ℕ → Captured → Stands
of_captured k (captured.Base kind) = as_base (λ n. scalar.Param k)
of_captured k (captured.Row columns) = as_row (λ n. params_of k columns)

module _ (parts : List Part) where
  unfoldable pub names_in : Scope → Names
  names_in (variant.Captured first list) = names_from 1 (bindings_from first list.now)
  names_in (variant.Row' x item count p inner q outer) = bind x (as_row (λ n. (norms parts item (names_in inner)).row count)) (names_in outer)
  names_in (variant.Columns' x generator labels q outer) = bind x (as_row (λ n. columns_of generator labels.now)) (names_in outer)

  abbrev pub stands : Meant → Stands
  stands meant.Nothing = nothing
  stands (meant.Param k) = as_base (λ n. scalar.Param k)
  stands (meant.Params k columns) = as_row (λ n. params_of k columns.now)
  stands (meant.Row item count scope) = as_row (λ n. (norms parts item (names_in scope.now)).row count)
  stands (meant.Columns generator labels) = as_row (λ n. columns_of generator labels.now)

  -- the scalar of a base and the outputs of a record, where so many generators are in scope
  abbrev pub base_in : ℕ → ℕ → Scope → Scalar
  base_in at count scope = (norms parts at (names_in scope)).base count

  abbrev pub row_in : ℕ → ℕ → Scope → List Out
  row_in at count scope = (norms parts at (names_in scope)).row count
