-- Rows that were read are ones that the table may hold.
use Rattle.std.proofs.Common.{◌≡◌, ℕ, ℤ, List, [], ◌∷◌, Bool, true, false, ◌&&◌, Option, Some, None, option_map, bytes_eq, if◌then◌else◌, refl}
use Rattle.std.specs.Prelude.{option_and_then, IfSome}
use Rattle.std.specs.List.{list_all}
use Rattle.std.proofs.lemmas.Slice.Eq.{bytes_eq-Decides}
use Rattle.std.proofs.lemmas.Bool.{and_from}
use Rattle.serde_json.specs.Data.{Data, Items}
use Rattle.serde_json.specs.Find.{get, as_array, as_number, as_i64, as_bool, as_str}
use Rattle.lk_ast.specs.Tables.{is_of_kind, cells_fit}
use Rattle.lk_ast.specs.declared.table.Base.{Base}
use Rattle.lk_ast.specs.declared.table.Base.TheVariants.{Int, Bool as Truth, Text}
use Rattle.lk_ast.specs.declared.table.BaseKind.{BaseKind}
use Rattle.lk_ast.specs.declared.table.BaseKind.TheVariants as kind
use Rattle.lk_ast.specs.declared.table.Cell.{Cell}
use Rattle.lk_ast.specs.declared.table.Column.{Column}
use Rattle.lk_ast.specs.declared.table.Row.{Row}
use Rattle.lk_tables.specs.Choices.{all_some}
use Rattle.lk_tables.specs.Reading.{elements, base_of, cell_of, row_of, rows_of}

int_fits : (n : Option ℤ) → IfSome (option_map Int n) (λ value. is_of_kind kind.Int value ≡ true)
int_fits None = tt
int_fits (Some n) = refl

truth_fits : (b : Option Bool) → IfSome (option_map Truth b) (λ value. is_of_kind kind.Bool value ≡ true)
truth_fits None = tt
truth_fits (Some b) = refl

text_fits : (t : Option (List ℕ)) → IfSome (option_map Text t) (λ value. is_of_kind kind.Text value ≡ true)
text_fits None = tt
text_fits (Some t) = refl

base_fits : (k : BaseKind) (d : Data) → IfSome (base_of k d) (λ value. is_of_kind k value ≡ true)
base_fits kind.Int d = int_fits (option_and_then as_i64 (as_number d))
base_fits kind.Bool d = truth_fits (as_bool d)
base_fits kind.Text d = text_fits (as_str d)

abbrev IsCellOf : Column → Cell → Type 0
IsCellOf column cell = (bytes_eq column.label cell.label && is_of_kind column.kind cell.value) ≡ true

in_column : (column : Column) (value : Option Base) → IfSome value (λ value. is_of_kind column.kind value ≡ true)
    → IfSome (option_map {U = Cell} (λ value. record { label = column.label; value = value }) value) (IsCellOf column)
in_column column None fits = tt
in_column column (Some value) fits = and_from _ _ ((bytes_eq-Decides column.label column.label).1 refl) fits

read_at : (k : BaseKind) (found : Option Data) → IfSome (option_and_then (base_of k) found) (λ value. is_of_kind k value ≡ true)
read_at k None = tt
read_at k (Some d) = base_fits k d

cell_fits : (d : Data) (column : Column) → IfSome (cell_of d column) (IsCellOf column)
cell_fits d column = in_column column _ (read_at column.kind (get column.label d))

cells_next : (column : Column) (columns : List Column) (cell : Option Cell) (cells : Option (List Cell)) → IfSome cell (IsCellOf column) → IfSome cells (λ cells. cells_fit columns cells ≡ true)
    → IfSome (option_and_then (λ y. option_map (λ ys. y ∷ ys) cells) cell) (λ cells. cells_fit (column ∷ columns) cells ≡ true)
cells_next column columns None cells here later = tt
cells_next column columns (Some cell) None here later = tt
cells_next column columns (Some cell) (Some cells) here later = and_from _ _ here later

cells_fit_of : (d : Data) (columns : List Column) → IfSome (all_some (cell_of d) columns) (λ cells. cells_fit columns cells ≡ true)
cells_fit_of d [] = refl
cells_fit_of d (column ∷ columns) = cells_next column columns _ _ (cell_fits d column) (cells_fit_of d columns)

abbrev IsRowOf : List Column → Row → Type 0
IsRowOf columns row = cells_fit columns row.cells ≡ true

as_row : (columns : List Column) (b : Bool) (cells : Option (List Cell)) → IfSome cells (λ cells. cells_fit columns cells ≡ true)
    → IfSome (if b then option_map {U = Row} (λ cells. record { cells = cells }) cells else None) (IsRowOf columns)
as_row columns false cells fits = tt
as_row columns true None fits = tt
as_row columns true (Some cells) fits = fits

row_fits_of : (columns : List Column) (d : Data) → IfSome (row_of columns d) (IsRowOf columns)
row_fits_of columns d = as_row columns _ _ (cells_fit_of d columns)

abbrev AreRows : List Column → List Row → Type 0
AreRows columns rows = list_all (λ row. cells_fit columns row.cells) rows ≡ true

rows_next : (columns : List Column) (row : Option Row) (rows : Option (List Row)) → IfSome row (IsRowOf columns) → IfSome rows (AreRows columns)
    → IfSome (option_and_then (λ y. option_map (λ ys. y ∷ ys) rows) row) (AreRows columns)
rows_next columns None rows here later = tt
rows_next columns (Some row) None here later = tt
rows_next columns (Some row) (Some rows) here later = and_from _ _ here later

rows_fit_from : (columns : List Column) (ds : List Data) → IfSome (all_some (row_of columns) ds) (AreRows columns)
rows_fit_from columns [] = refl
rows_fit_from columns (d ∷ ds) = rows_next columns _ _ (row_fits_of columns d) (rows_fit_from columns ds)

at_items : (columns : List Column) (items : Option Items) → IfSome (option_and_then (λ items. all_some (row_of columns) (elements items)) items) (AreRows columns)
at_items columns None = tt
at_items columns (Some items) = rows_fit_from columns (elements items)

pub rows_fit : (columns : List Column) (d : Data) → IfSome (rows_of columns d) (AreRows columns)
rows_fit columns d = at_items columns (as_array d)
