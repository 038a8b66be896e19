-- Tables: which a program declares, which rows one may hold, and the rows of several by name.
use Rattle.std.specs.Prelude.{◌≢◌, ℕ, List, [], ◌∷◌, Bool, true, false, ◌&&◌, bytes_eq, if◌then◌else◌, map}
use Rattle.std.specs.Cmp.Lexicographic.{slice_cmp}
use Rattle.std.specs.FinMap as finite
use Rattle.std.specs.List.{flat_map, list_all}
use Rattle.std.specs.Ordering.{nat_cmp}
use Rattle.lk_ast.specs.declared.declaration.ColumnDecl.{ColumnDecl}
use Rattle.lk_ast.specs.declared.declaration.Decl.{Decl}
use Rattle.lk_ast.specs.declared.declaration.Decl.TheVariants.{Table, Fun, Mutual}
use Rattle.lk_ast.specs.declared.declaration.Program.{Program}
use Rattle.lk_ast.specs.declared.declaration.TableDecl.{TableDecl}
use Rattle.lk_ast.specs.declared.table.Base.{Base}
use Rattle.lk_ast.specs.declared.table.Base.TheVariants as base
use Rattle.lk_ast.specs.declared.table.BaseKind.{BaseKind}
use Rattle.lk_ast.specs.declared.table.BaseKind.TheVariants as kind
use Rattle.lk_ast.specs.declared.table.Cell.{Cell}
use Rattle.lk_ast.specs.declared.table.Column.{Column}
use Rattle.lk_ast.specs.declared.table.Row.{Row}
use Rattle.lk_ast.specs.declared.table.TableDef.{TableDef}
use Rattle.lk_ast.specs.declared.table.TableRows.{TableRows}

-- a value that a column of that kind can hold
abbrev pub is_of_kind : BaseKind → Base → Bool
is_of_kind kind.Int (base.Int n) = true
is_of_kind kind.Bool (base.Bool b) = true
is_of_kind kind.Text (base.Text bytes) = true
is_of_kind k b = false

-- the cells of exactly these columns, each of its kind
abbrev pub cells_fit : List Column → List Cell → Bool
cells_fit [] [] = true
cells_fit (column ∷ columns) (cell ∷ cells) = bytes_eq column.label cell.label && is_of_kind column.kind cell.value && cells_fit columns cells
cells_fit columns cells = false

-- a row that the table may hold; any other is a row of other columns
abbrev pub row_fits : TableDef → Row → Bool
row_fits table row = cells_fit table.columns row.cells

abbrev pub all_fit : TableDef → List Row → Bool
all_fit table rows = list_all (row_fits table) rows

-- the rows of each table by its name, with repeats and in some order; an absent one has none
abbrev pub Tables : Type 0
Tables = List ℕ → List Row

-- the rows by name: of two tables with one name the first counts, and a name that none has stands for no rows
abbrev pub rows_of : List TableRows → Tables
rows_of [] name = []
rows_of (table ∷ tables) name = if bytes_eq name table.name then table.rows else rows_of tables name

-- ---- declarations

abbrev pub tables_in : Decl → List TableDecl
tables_in (Table table) = table ∷ []
tables_in (Fun f) = []
tables_in (Mutual functions) = []

-- the tables that a program declares, in text order
abbrev pub tables_of : Program → List TableDecl
tables_of program = flat_map tables_in program.decls

-- each of these tables has a column
abbrev pub EachHasColumns : List TableDecl → Type 0
EachHasColumns [] = Unit {0}
EachHasColumns (table ∷ tables) = (table.columns ≢ []) × EachHasColumns tables

-- each table of the program has a column, as those of a text have
abbrev pub HaveColumns : Program → Type 0
HaveColumns program = EachHasColumns (tables_of program)

-- the kinds of columns by their labels
abbrev pub kinds : List ColumnDecl → finite.FinMap (slice_cmp nat_cmp) BaseKind
kinds [] = finite.empty
kinds (column ∷ columns) = finite.insert (kinds columns) column.label.text column.kind

-- the definition of a table has its columns in byte order of their labels
abbrev pub table_def : TableDecl → TableDef
table_def table = record { name = table.name.text; columns = map (λ entry. record { label = entry.0; kind = entry.1 }) (finite.entries (kinds table.columns)) }

abbrev pub table_defs : Program → List TableDef
table_defs program = map table_def (tables_of program)
