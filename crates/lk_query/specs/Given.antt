-- What the parts of a query give over tables: a list gives its rows, with repeats (comprehensions: Wadler, Comprehending monads,
-- 1992; Buneman, Libkin, Suciu, Tannen and Wong, Comprehension syntax, 1994). Every part gives something, whatever its own parts are.
use Rattle.std.specs.Prelude.{ℕ, Bool, true, false, List, [], ◌∷◌, ◌++◌, map, bytes_eq, if◌then◌else◌}
use Rattle.std.specs.List.{flat_map}
use Rattle.lk_ast.specs.Tables.{Tables}
use Rattle.lk_ast.specs.declared.table.Base.{Base}
use Rattle.lk_ast.specs.declared.table.Base.TheVariants as base
use Rattle.lk_ast.specs.declared.table.Cell.{Cell}
use Rattle.lk_ast.specs.declared.table.Row.{Row}
use Rattle.lk_sql.specs.Meaning.{cell_in, no_cells}
use Rattle.lk_sql.specs.Operations.{both, equality, operation, truth, zero_base}
use Rattle.lk_query.specs.Order.{bind, filled}
use Rattle.lk_query.specs.declared.part.Labelled.{Labelled}
use Rattle.lk_query.specs.declared.part.Part.{Part}
use Rattle.lk_query.specs.declared.part.Part.TheVariants as part

-- a base, a record or a list of records; the two that it isn't are empty
pub record Given : Type 0 where
  pub base : Base
  pub row : Row
  pub list : List Row

abbrev pub nothing : Given
nothing = record { base = zero_base; row = no_cells; list = [] }

abbrev pub of_base : Base → Given
of_base b = record { base = b; row = no_cells; list = [] }

abbrev pub of_row : Row → Given
of_row r = record { base = zero_base; row = r; list = [] }

abbrev pub of_list : List Row → Given
of_list rows = record { base = zero_base; row = no_cells; list = rows }

-- ---- rows

abbrev pub cell_with : List ℕ → Base → Cell
cell_with label b = record { label = label; value = b }

abbrev pub row_with : List Cell → Row
row_with cells = record { cells = cells }

-- the row with these labels alone
abbrev pub at_labels : List (List ℕ) → Row → Row
at_labels labels row = row_with (map (λ label. cell_with label (cell_in row.cells label)) labels)

-- the value of the first cell with that label, and where there is none, that in the row
abbrev pub cell_or : List Cell → Row → List ℕ → Base
cell_or [] row label = cell_in row.cells label
cell_or (cell ∷ cells) row label = if bytes_eq cell.label label then cell.value else cell_or cells row label

abbrev pub extended : List (List ℕ) → List Cell → Row → Row
extended labels cells row = row_with (map (λ label. cell_with label (cell_or cells row label)) labels)

abbrev pub equal_at : Row → Row → List ℕ → Base
equal_at r s label = equality (cell_in r.cells label) (cell_in s.cells label)

-- also equal at these labels
abbrev pub equal_from : Base → Row → Row → List (List ℕ) → Base
equal_from so_far r s [] = so_far
equal_from so_far r s (label ∷ labels) = equal_from (both so_far (equal_at r s label)) r s labels

abbrev pub equal_rows : List (List ℕ) → Row → Row → Base
equal_rows [] r s = base.Bool true
equal_rows (label ∷ labels) r s = equal_from (equal_at r s label) r s labels

abbrev pub is_empty : List Row → Bool
is_empty [] = true
is_empty (row ∷ rows) = false

-- ---- parts

-- what the names in scope stand for, by their numbers
abbrev pub Values : Type 0
Values = ℕ → Given

abbrev pub Gives : Type 0
Gives = Values → Given

module _ (tables : Tables) (own : ℕ → Gives) where
  -- the cells of the parts of a record
  abbrev pub cells_given : List Labelled → Values → List Cell
  cells_given items values = map (λ item. cell_with item.label (own item.part values).base) items

  -- the part of that number, by what its own parts give
  abbrev pub given_level : ℕ → Part → Gives
  given_level n (part.Lit b) values = of_base b
  given_level n part.Bound values = values n
  given_level n (part.Case c a b) values = of_base (if truth (own c values).base then (own a values).base else (own b values).base)
  given_level n (part.If c a b) values = of_list (if truth (own c values).base then (own a values).list else (own b values).list)
  given_level n (part.IfRow labels c a b) values = of_row (at_labels labels (if truth (own c values).base then (own a values).row else (own b values).row))
  given_level n (part.One o a) values = of_base (operation o ((own a values).base ∷ []))
  given_level n (part.Two o a b) values = of_base (operation o ((own a values).base ∷ (own b values).base ∷ []))
  given_level n (part.EqRows labels a b) values = of_base (equal_rows labels (own a values).row (own b values).row)
  given_level n (part.Empty columns list) values = of_base (base.Bool (is_empty (own list values).list))
  given_level n (part.Record items) values = of_row (row_with (cells_given items values))
  given_level n (part.Extend labels items rest) values = of_row (extended labels (cells_given items values) (own rest values).row)
  given_level n (part.Project a label) values = of_base (cell_in (own a values).row.cells label)
  given_level n (part.Items items) values = of_list (map (λ item. (own item values).row) items)
  given_level n (part.Append a b) values = of_list ((own a values).list ++ (own b values).list)
  given_level n (part.ForList list x body) values = of_list (flat_map (λ row. (own body (bind x (of_row row) values)).list) (own list values).list)
  given_level n (part.Table table labels) values = of_list (map (at_labels labels) (tables table))
  given_level n (part.Where c list) values = of_list (if truth (own c values).base then (own list values).list else [])

-- what the part of each number gives
unfoldable pub gives : Tables → List Part → ℕ → Gives
gives tables parts = filled (given_level tables) (λ values. nothing) parts
