-- What selects give over the rows of tables, with repeats (ISO/IEC 9075-2:2016: query specification, 7.16; UNION ALL, 7.17; EXISTS,
-- 8.10; CASE, 6.12). Which order a database takes the rows in is open there; here the last generator changes first.
use Rattle.std.specs.Prelude.{ℕ, ◌-◌, Bool, true, false, List, [], ◌∷◌, map, get_or, bytes_eq, if◌then◌else◌, ◌==◌}
use Rattle.std.specs.List.{flat_map, filter}
use Rattle.lk_ast.specs.Tables.{Tables}
use Rattle.lk_ast.specs.declared.table.Base.{Base}
use Rattle.lk_ast.specs.declared.table.Base.TheVariants as base
use Rattle.lk_ast.specs.declared.table.Cell.{Cell}
use Rattle.lk_ast.specs.declared.table.Row.{Row}
use Rattle.lk_sql.specs.Operations.{operation, truth, zero_base}
use Rattle.lk_sql.specs.declared.tree.FromItem.{FromItem}
use Rattle.lk_sql.specs.declared.tree.Out.{Out, fold-Out}
use Rattle.lk_sql.specs.declared.tree.Scalar.{Scalar}
use Rattle.lk_sql.specs.declared.tree.Scalar.TheFolds.{fold-Scalar}
use Rattle.lk_sql.specs.declared.tree.Scalar.TheOpen.{Scalar-F, Out-F, Select-F}
use Rattle.lk_sql.specs.declared.tree.Select.{Select, fold-Select}

-- ---- rows

-- the value of the first cell with that label
abbrev pub cell_in : List Cell → List ℕ → Base
cell_in [] label = zero_base
cell_in (cell ∷ cells) label = if bytes_eq cell.label label then cell.value else cell_in cells label

abbrev pub no_cells : Row
no_cells = record { cells = [] }

-- the row of each generator in scope, by its number
abbrev pub Scope : Type 0
Scope = ℕ → Row

abbrev pub no_rows : Scope
no_rows = λ n. no_cells

-- an inner generator hides outer ones of its number
abbrev pub with_row : ℕ → Row → Scope → Scope
with_row n row scope k = if k == n then row else scope k

-- the scopes of all choices of rows
abbrev pub product : Tables → List FromItem → Scope → List Scope
product tables [] scope = scope ∷ []
product tables (from ∷ froms) scope = flat_map (λ row. product tables froms (with_row from.var row scope)) (tables from.table)

-- ---- scalars and selects

-- what a scalar, an output and a select give for the rows in scope
abbrev pub ValueOf : Type 0
ValueOf = Scope → Base

abbrev pub CellOf : Type 0
CellOf = Scope → Cell

abbrev pub RowsOf : Type 0
RowsOf = Scope → List Row

abbrev pub has_row : List (List Row) → Bool
has_row [] = false
has_row ([] ∷ rest) = has_row rest
has_row ((row ∷ rows) ∷ rest) = true

module _ (tables : Tables) (params : List Base) where
  abbrev pub value_level : Scalar-F ValueOf CellOf RowsOf → ValueOf
  value_level (Scalar-F.Lit b) scope = b
  value_level (Scalar-F.Param k) scope = get_or params (k - 1) zero_base
  value_level (Scalar-F.Column n label) scope = cell_in (scope n).cells label
  value_level (Scalar-F.Op o operands) scope = operation o (map (λ operand. operand scope) operands)
  value_level (Scalar-F.Case c a b) scope = if truth (c scope) then a scope else b scope
  value_level (Scalar-F.Exists selects) scope = base.Bool (has_row (map (λ rows. rows scope) selects))

  abbrev pub cell_level : Out-F ValueOf CellOf RowsOf → CellOf
  cell_level out scope = record { label = out.label; value = out.scalar scope }

  abbrev pub rows_level : Select-F ValueOf CellOf RowsOf → RowsOf
  rows_level select scope = map (λ inner. record { cells = map (λ out. out inner) select.outs }) (filter (λ inner. truth (select.cond inner)) (product tables select.froms scope))

  unfoldable pub value : Scalar → ValueOf
  value = fold-Scalar ValueOf CellOf RowsOf value_level cell_level rows_level

  unfoldable pub cell : Out → CellOf
  cell = fold-Out ValueOf CellOf RowsOf value_level cell_level rows_level

  unfoldable pub rows : Select → RowsOf
  rows = fold-Select ValueOf CellOf RowsOf value_level cell_level rows_level

  -- the rows of selects, one behind the other
  abbrev pub all_rows : List Select → RowsOf
  all_rows selects scope = flat_map (λ select. rows select scope) selects
