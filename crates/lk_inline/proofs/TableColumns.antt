-- The columns of a table and the fields of the rows that they make: these have the same labels, and each is of a base type. Where the
-- table has a column, they have a field.
use Rattle.std.proofs.Common.{◌≡◌, refl, sym, ap, ap₂, ◌∙◌, subst, Bool, true, false, ◌&&◌, List, [], ◌∷◌, map, find, Option, Some, None, is_some, cond, bytes_eq, if◌then◌else◌, pos}
use Rattle.std.specs.FinMap as fin
use Rattle.std.specs.Prelude.{◌≢◌}
use Rattle.lk_ast.specs.Rows.{row_value}
use Rattle.lk_ast.specs.Tables.{EachHasColumns, HaveColumns, cells_fit, is_of_kind, tables_of}
use Rattle.lk_ast.specs.declared.declaration.ColumnDecl.{ColumnDecl}
use Rattle.lk_ast.specs.declared.declaration.Program.{Program}
use Rattle.lk_ast.specs.declared.declaration.TableDecl.{TableDecl}
use Rattle.lk_ast.specs.declared.table.Base.{Base}
use Rattle.lk_ast.specs.declared.table.Base.TheVariants as held
use Rattle.lk_ast.specs.declared.table.BaseKind.{BaseKind}
use Rattle.lk_ast.specs.declared.table.BaseKind.TheVariants as kind
use Rattle.lk_ast.specs.declared.table.Cell.{Cell}
use Rattle.lk_ast.specs.declared.table.Column.{Column}
use Rattle.lk_ast.specs.declared.table.Row.{Row}
use Rattle.lk_ast.specs.declared.table.TableDef.{TableDef}
use Rattle.lk_bodies.specs.Shapes.{columns_of, labels}
use Rattle.lk_types.proofs.Parts.{with_one}
use Rattle.lk_ground_types.specs.Shapes.{is_base, is_there}
use Rattle.lk_inline.proofs.BlockSets.{field_base}
use Rattle.lk_inline.proofs.RecordRules.{got}
use Rattle.lk_inline.proofs.RowLabels.{cell_labels, fields_fit_labels, labels_are}
use Rattle.lk_sound.proofs.FieldRows.{get_among}
use Rattle.lk_sound.proofs.TableRows.{table_found, bytes_itself}
use Rattle.lk_sound.specs.Instances.{Instances}
use Rattle.lk_sound.specs.Tables.{table_at}
use Rattle.lk_sound.specs.Values.{Fits}
use Rattle.lk_types.specs.Each.{OneOf}
use Rattle.lk_types.specs.Rows as rows
use Rattle.lk_types.specs.Rows.{Label, fields_of, no_fields}
use Rattle.lk_types.specs.declared.ground.Ground.{Ground}
use Rattle.lk_typing.specs.Names.{HasRows, IsRowOf, column, proper, row_known}
use Rattle.lk_typing.specs.Types.{base, record_of, with_fields}
use Rattle.lk_typing.specs.Typing.{HasField}

-- ---- a row that a table may hold

abbrev zero_of : BaseKind → Base
zero_of kind.Int = held.Int (pos 0)
zero_of kind.Bool = held.Bool false
zero_of kind.Text = held.Text []

abbrev zero_cells : List Column → List Cell
zero_cells columns = map (λ (column : Column). record { label = column.label; value = zero_of column.kind }) columns

zero_is : (k : BaseKind) → is_of_kind k (zero_of k) ≡ true
zero_is kind.Int = refl
zero_is kind.Bool = refl
zero_is kind.Text = refl

zeros_fit : (columns : List Column) → cells_fit columns (zero_cells columns) ≡ true
zeros_fit [] = refl
zeros_fit (c ∷ columns) = ap₂ (λ a b. a && b) (ap₂ (λ a b. a && b) (bytes_itself c.label) (zero_is c.kind)) (zeros_fit columns)

zeros_labels : (columns : List Column) → cell_labels (zero_cells columns) ≡ labels columns
zeros_labels [] = refl
zeros_labels (c ∷ columns) = ap (λ ls. c.label ∷ ls) (zeros_labels columns)

-- ---- the fields of its rows

pub record HasTable (p : Program) (x : Label) (row : rows.Row) : Type 0 where
  pub def : TableDef
  pub at : table_at p x ≡ Some def
  pub labels : labels (columns_of (record_of row)) ≡ labels def.columns
  pub bases : (l : Label) (t : Ground) → HasField (record_of row) l t → is_base t ≡ true

pub has_table : (p : Program) (i : Instances) (x : Label) (row : rows.Row) → HasRows (tables_of p) x row → HasTable p x row
has_table p i x row has =
    let found = table_found p i x row has in
    let r : Row = record { cells = zero_cells found.0.columns } in
    let fits : Fits p i (row_value r) (record_of row) = found.2 r (zeros_fit found.0.columns) in
    record {
      def = found.0;
      at = found.1;
      labels = labels_are (fields_of row) ∙ sym (fields_fit_labels p i (fields_of row) r fits) ∙ zeros_labels found.0.columns;
      bases = λ l t field. field_base p i row r fits l t field;
    }

-- ---- a field

some_there : {A : Type 0} (P : A → Type 0) (xs : List A) → OneOf P xs → is_there xs ≡ true
some_there P [] one = absurd one
some_there P (x ∷ xs) one = refl

known_there : (columns : List ColumnDecl) → columns ≢ [] → (row : rows.Row) → with_fields (map column columns) no_fields ≡ Some row → is_there (fields_of row) ≡ true
known_there [] some row is = absurd (some refl)
known_there (c ∷ columns) some row is =
    let x = with_one c.label.text (Some (base c.kind)) (with_fields (map column columns) no_fields) row is in
    some_there _ (fields_of row)
    (get_among row c.label.text x.0 (ap (λ r. fin.get r c.label.text) x.5 ∙ got x.1 c.label.text x.0 c.label.text ∙ ap (λ b. cond b (Some x.0) (fin.get x.1 c.label.text)) (bytes_itself c.label.text)))

-- a table whose columns make a row
proper_there : (o : Option TableDecl) → ((table : TableDecl) → o ≡ Some table → table.columns ≢ []) → (row : rows.Row) → IsRowOf (proper o) row → is_there (fields_of row) ≡ true
proper_there None all row has = absurd has
proper_there (Some table) all row has = by_known (is_some (row_known table)) has
  where
    by_known : (b : Bool) → IsRowOf (if b then Some table else None) row → is_there (fields_of row) ≡ true
    by_known true known = known_there table.columns (all table refl) row known
    by_known false known = absurd known

found_there : (x : Label) (tables : List TableDecl) → EachHasColumns tables → (table : TableDecl) → find (λ (table : TableDecl). bytes_eq table.name.text x) tables ≡ Some table → table.columns ≢ []
found_there x [] all table is = let wrong : None ≡ Some table = is in absurd cc
found_there x (t ∷ tables) all table is = by_test (bytes_eq t.name.text x) is (found_there x tables all.1 table)
  where
    by_test : (b : Bool) → (if b then Some t else find (λ (table : TableDecl). bytes_eq table.name.text x) tables) ≡ Some table
        → (find (λ (table : TableDecl). bytes_eq table.name.text x) tables ≡ Some table → table.columns ≢ []) → table.columns ≢ []
    by_test true is later = let same : t ≡ table = cc in subst (λ (table : TableDecl). table.columns ≢ []) same all.0
    by_test false is later = later is

-- where each table has a column, its rows have a field
pub row_there : (p : Program) → HaveColumns p → (x : Label) (row : rows.Row) → HasRows (tables_of p) x row → is_there (fields_of row) ≡ true
row_there p all x row has = proper_there (find (λ (table : TableDecl). bytes_eq table.name.text x) (tables_of p)) (found_there x (tables_of p) all) row has
