-- Rows of tables as values: a table whose columns make a row of types has the rows whose values fit it, and a value of such a
-- record is one of them. So is a value of any flat record a row.
use Rattle.std.proofs.Common.{◌≡◌, refl, sym, ap, ap₂, subst, ◌∙◌, ℕ, ℤ, Bool, true, false, ◌&&◌, List, [], ◌∷◌, map, find, Option, Some, None, is_some, if◌then◌else◌, bytes_eq}
use Rattle.std.proofs.lemmas.List.Elements.{All-nil, All-cons, All-head, All-tail}
use Rattle.std.proofs.lemmas.List.Sorted.{All-permutation}
use Rattle.std.proofs.lemmas.Slice.Eq.{bytes_eq-Decides}
use Rattle.std.specs.Cmp.Lexicographic.{nat_list_cmp_total}
use Rattle.std.specs.FinMap as fin
use Rattle.std.specs.FinMap.Entries.{by_order}
use Rattle.std.specs.List.{All, list_all}
use Rattle.std.specs.Prelude.{IsPermutation}
use Rattle.std.specs.declared.cmp.Ordering.{Ordering}
use Rattle.std.specs.declared.cmp.Ordering.TheVariants.{Less, Equal, Greater}
use Rattle.std.specs.Cmp.{first_so, second_so}
use Rattle.lk_ast.specs.Rows.{row_value}
use Rattle.lk_ast.specs.Tables.{Tables, is_of_kind, cells_fit, row_fits, all_fit, kinds, table_def, table_defs, tables_of}
use Rattle.lk_ast.specs.declared.declaration.ColumnDecl.{ColumnDecl}
use Rattle.lk_ast.specs.declared.declaration.Program.{Program}
use Rattle.lk_ast.specs.declared.declaration.TableDecl.{TableDecl}
use Rattle.lk_ast.specs.declared.table.Base.{Base}
use Rattle.lk_ast.specs.declared.table.Base.TheVariants as held
use Rattle.lk_ast.specs.declared.table.BaseKind.{BaseKind}
use Rattle.lk_ast.specs.declared.table.BaseKind.TheVariants as kind
use Rattle.lk_ast.specs.declared.table.Cell.{Cell}
use Rattle.lk_ast.specs.declared.table.Column.{Column}
use Rattle.lk_ast.specs.declared.table.Row.{Row}
use Rattle.lk_ast.specs.declared.table.TableDef.{TableDef}
use Rattle.lk_ast.specs.declared.value.Field.{Field}
use Rattle.lk_ast.specs.declared.value.Value.{Value}
use Rattle.lk_ast.specs.declared.value.Value.TheVariants as value
use Rattle.lk_ground_types.specs.Shapes.{is_base, is_flat_row}
use Rattle.lk_operators.specs.Values.{int as number, truth, text as words}
use Rattle.lk_sound.proofs.Bindings.{same_bytes}
use Rattle.lk_sound.proofs.FieldRows.{as_fields, no_entries}
use Rattle.lk_sound.proofs.FlatTypes.{base_is, IsFlatRow, flat_row_is}
use Rattle.lk_sound.proofs.Shapes.{IsRecord, fits_fields, int_fits, truth_fits, text_fits}
use Rattle.lk_sound.specs.Instances.{Instances}
use Rattle.lk_sound.specs.Tables.{AreTables, table_at}
use Rattle.lk_sound.specs.Values.{Fits, AllFit, FieldsFit, none, more, no_field, field}
use Rattle.lk_types.proofs.Parts.{same_some}
use Rattle.lk_types.specs.Each.{Each}
use Rattle.lk_types.specs.Rows as rows
use Rattle.lk_types.specs.Rows.{Label, label_order, no_fields, has_label, with_field, fields_of}
use Rattle.lk_types.specs.declared.ground.Ground.{Ground, out-Ground}
use Rattle.lk_types.specs.declared.ground.Ground.TheOpen.{Ground-F}
use Rattle.lk_types.specs.declared.ground.Ground.TheVariants as known
use Rattle.lk_types.specs.declared.ground.GroundField.{GroundField}
use Rattle.lk_typing.specs.Names.{Named, HasRows, IsRowOf, column, proper, row_known}
use Rattle.lk_typing.specs.Types.{base, record_of, with_fields}

-- ---- the columns of a table, and the types of the fields in its rows

-- labels and kinds as columns
abbrev pub as_columns : List (Label × BaseKind) → List Column
as_columns entries = map (λ entry. record { label = entry.0; kind = entry.1 }) entries

-- their types
abbrev pub as_types : List (Label × BaseKind) → Named Ground
as_types entries = map (λ entry. (entry.0, base entry.1)) entries

put_types : (l : Label) (k : BaseKind) (es : List (Label × BaseKind)) → fin.put label_order l (base k) (as_types es) ≡ as_types (fin.put label_order l k es)
put_types l k [] = refl
put_types l k (e ∷ es) = by_place (label_order l e.0) (put_types l k es)
  where
    by_place : (o : Ordering) → fin.put label_order l (base k) (as_types es) ≡ as_types (fin.put label_order l k es)
        → by_order o ((l, base k) ∷ as_types (e ∷ es)) ((e.0, base k) ∷ as_types es) ((e.0, base e.1) ∷ fin.put label_order l (base k) (as_types es)) ≡ as_types (by_order o ((l, k) ∷ e ∷ es) ((e.0, k) ∷ es) (e ∷ fin.put label_order l k es))
    by_place Less behind = refl
    by_place Equal behind = refl
    by_place Greater behind = ap (λ entries. (e.0, base e.1) ∷ entries) behind

-- the row behind the first field
record Behind (l : Label) (t : Ground) (o : Option rows.Row) (row : rows.Row) : Type 0 where
  rest : rows.Row
  there : o ≡ Some rest
  is : row ≡ fin.insert rest l t

behind_first : (l : Label) (t : Ground) (o : Option rows.Row) (row : rows.Row) → with_field l (Some t) o ≡ Some row → Behind l t o row
behind_first l t None row is = let wrong : None ≡ Some row = is in cc
behind_first l t (Some rest) row is = by_test (has_label rest l) is
  where
    by_test : (b : Bool) → (if b then None else Some (fin.insert rest l t)) ≡ Some row → Behind l t (Some rest) row
    by_test true is = let wrong : None ≡ Some row = is in cc
    by_test false is = record { rest = rest; there = refl; is = sym (same_some is) }

-- the row that the columns make has their types, in the order of the table's definition
columns_row : (columns : List ColumnDecl) (row : rows.Row) → with_fields (map column columns) no_fields ≡ Some row → fin.entries row ≡ as_types (fin.entries (kinds columns))
columns_row [] row is = ap fin.entries (sym (same_some is)) ∙ no_entries Ground ∙ sym (ap as_types (no_entries BaseKind))
columns_row (c ∷ columns) row is =
    let behind : Behind c.label.text (base c.kind) (with_fields (map column columns) no_fields) row = behind_first c.label.text (base c.kind) (with_fields (map column columns) no_fields) row is in
    ap fin.entries behind.is
    ∙ fin.entries-insert nat_list_cmp_total behind.rest c.label.text (base c.kind)
    ∙ ap (fin.put label_order c.label.text (base c.kind)) (columns_row columns behind.rest behind.there)
    ∙ put_types c.label.text c.kind (fin.entries (kinds columns))
    ∙ ap as_types (sym (fin.entries-insert nat_list_cmp_total (kinds columns) c.label.text c.kind))

-- ---- the table of a name

record IsTable (o : Option TableDecl) (row : rows.Row) : Type 0 where
  table : TableDecl
  there : o ≡ Some table
  makes : row_known table ≡ Some row

proper_table : (o : Option TableDecl) (row : rows.Row) → IsRowOf (proper o) row → IsTable o row
proper_table None row has = absurd has
proper_table (Some table) row has = by_test (is_some (row_known table)) has
  where
    by_test : (b : Bool) → IsRowOf (if b then Some table else None) row → IsTable (Some table) row
    by_test true has = record { table = table; there = refl; makes = has }
    by_test false has = absurd has

found_def : (x : Label) (tables : List TableDecl) (table : TableDecl) → find (λ (t : TableDecl). bytes_eq t.name.text x) tables ≡ Some table → find (λ (def : TableDef). bytes_eq def.name x) (map table_def tables) ≡ Some (table_def table)
found_def x [] table is = let wrong : None ≡ Some table = is in cc
found_def x (t ∷ tables) table is = by_test (bytes_eq t.name.text x) is (found_def x tables table)
  where
    by_test : (b : Bool) → (if b then Some t else find (λ (t : TableDecl). bytes_eq t.name.text x) tables) ≡ Some table
        → (find (λ (t : TableDecl). bytes_eq t.name.text x) tables ≡ Some table → find (λ (def : TableDef). bytes_eq def.name x) (map table_def tables) ≡ Some (table_def table))
        → (if b then Some (table_def t) else find (λ (def : TableDef). bytes_eq def.name x) (map table_def tables)) ≡ Some (table_def table)
    by_test true is later = ap (λ (t : TableDecl). Some (table_def t)) (same_some is)
    by_test false is later = later is

-- what holds of each element holds of the one that is found, and it passes the test
found_holds : {A : Type 0} (P : A → Type 0) (test : A → Bool) (xs : List A) (x : A) → find test xs ≡ Some x → Each P xs → P x × (test x ≡ true)
found_holds P test [] x is all = let wrong : None ≡ Some x = is in cc
found_holds P test (y ∷ xs) x is all = by_test (test y) refl is (λ later. found_holds P test xs x later all.1)
  where
    by_test : (b : Bool) → test y ≡ b → (if b then Some y else find test xs) ≡ Some x → (find test xs ≡ Some x → P x × (test x ≡ true)) → P x × (test x ≡ true)
    by_test true passes is later = subst (λ z. P z × (test z ≡ true)) (same_some is) (all.0, passes)
    by_test false fails is later = later is

pub bytes_itself : (x : Label) → bytes_eq x x ≡ true
bytes_itself x = (bytes_eq-Decides x x).1 refl

-- cells as the fields of a record
abbrev pub cell_fields : List Cell → List Field
cell_fields cells = map {A = Cell} (λ cell. record { label = cell.label; value = value.Base cell.value }) cells

-- ---- values of base types

module _ (p : Program) (i : Instances) where
  pub base_fits : (k : BaseKind) (b : Base) → is_of_kind k b ≡ true → Fits p i (value.Base b) (base k)
  base_fits kind.Int (held.Int n) is = int_fits p i n
  base_fits kind.Bool (held.Bool b) is = truth_fits p i b
  base_fits kind.Text (held.Text bytes) is = text_fits p i bytes
  base_fits kind.Int (held.Bool b) is = absurd cc
  base_fits kind.Int (held.Text bytes) is = absurd cc
  base_fits kind.Bool (held.Int n) is = absurd cc
  base_fits kind.Bool (held.Text bytes) is = absurd cc
  base_fits kind.Text (held.Int n) is = absurd cc
  base_fits kind.Text (held.Bool b) is = absurd cc

  -- a value of a base type, by the form of the type
  abbrev Shape : Value → Ground-F Ground GroundField → Type 0
  Shape v Ground-F.Int = (n : ℤ) × (v ≡ number n)
  Shape v Ground-F.Bool = (b : Bool) × (v ≡ truth b)
  Shape v Ground-F.Text = (bytes : List ℕ) × (v ≡ words bytes)
  Shape v other = Unit {0}

  shaped : (v : Value) (t u : Ground) (x : Ground-F Ground GroundField) → t ≡ u → out-Ground u ≡ x → Shape v x → Shape v (out-Ground t)
  shaped v t u x is out shape = subst (λ y. Shape v y) (sym (ap out-Ground is ∙ out)) shape

  shape : (v : Value) (t : Ground) → Fits p i v t → Shape v (out-Ground t)
  shape v t (Fits.int n is same) = shaped v t known.Int Ground-F.Int same known.outs-Int (n, is)
  shape v t (Fits.bool b is same) = shaped v t known.Bool Ground-F.Bool same known.outs-Bool (b, is)
  shape v t (Fits.text bytes is same) = shaped v t known.Text Ground-F.Text same known.outs-Text (bytes, is)
  shape v t (Fits.list values a is fit same) = shaped v t _ (Ground-F.List a) same (known.outs-List a) tt
  shape v t (Fits.fields fs gs is fit same) = shaped v t _ (Ground-F.Fields gs) same (known.outs-Fields gs) tt
  shape v t (Fits.tag inner g gs is one fit same) = shaped v t _ (Ground-F.Tags gs) same (known.outs-Tags gs) tt
  shape v t (Fits.function f site ts own b is there listed same) = shaped v t _ (Ground-F.Fun _ _ _) same (known.outs-Fun _ _ _) tt
  shape v t (Fits.lambda f l functions params kept own b inside is no_function there are_kept env named typed fine same) = shaped v t _ (Ground-F.Fun _ _ _) same (known.outs-Fun _ _ _) tt

  pub record IsBaseOf (k : BaseKind) (v : Value) : Type 0 where
    pub base : Base
    pub is : v ≡ value.Base base
    pub of_kind : is_of_kind k base ≡ true

  -- a value of a base type is a base value of its kind
  pub base_of_fits : (k : BaseKind) (v : Value) → Fits p i v (base k) → IsBaseOf k v
  base_of_fits kind.Int v fits = let found : (n : ℤ) × (v ≡ number n) = subst (λ y. Shape v y) known.outs-Int (shape v known.Int fits) in record { base = held.Int found.0; is = found.1; of_kind = refl }
  base_of_fits kind.Bool v fits = let found : (b : Bool) × (v ≡ truth b) = subst (λ y. Shape v y) known.outs-Bool (shape v known.Bool fits) in record { base = held.Bool found.0; is = found.1; of_kind = refl }
  base_of_fits kind.Text v fits = let found : (bytes : List ℕ) × (v ≡ words bytes) = subst (λ y. Shape v y) known.outs-Text (shape v known.Text fits) in record { base = held.Text found.0; is = found.1; of_kind = refl }

  -- ---- cells and fields

  fields_of_cells : (es : List (Label × BaseKind)) (cells : List Cell) → cells_fit (as_columns es) cells ≡ true → FieldsFit p i (cell_fields cells) (as_fields (as_types es))
  fields_of_cells [] [] fit = no_field
  fields_of_cells [] (cell ∷ cells) fit = absurd cc
  fields_of_cells (e ∷ es) [] fit = absurd cc
  fields_of_cells (e ∷ es) (cell ∷ cells) fit =
      let first : (bytes_eq e.0 cell.label && is_of_kind e.1 cell.value) ≡ true = first_so (bytes_eq e.0 cell.label && is_of_kind e.1 cell.value) _ fit in
      field (sym (same_bytes e.0 cell.label (first_so _ _ first))) (base_fits e.1 cell.value (second_so (bytes_eq e.0 cell.label) _ first))
      (fields_of_cells es cells (second_so (bytes_eq e.0 cell.label && is_of_kind e.1 cell.value) _ fit))

  -- cells that are these fields
  record AreCells (fs : List Field) (P : List Cell → Type 0) : Type 0 where
    cells : List Cell
    are : fs ≡ cell_fields cells
    fit : P cells

  both_true : (a b c : Bool) → a ≡ true → b ≡ true → c ≡ true → ((a && b) && c) ≡ true
  both_true true b c first second third = ap (λ x. x && c) second ∙ third
  both_true false b c first second third = absurd cc

  cells_of_fields : (es : List (Label × BaseKind)) (fs : List Field) → FieldsFit p i fs (as_fields (as_types es)) → AreCells fs (λ cells. cells_fit (as_columns es) cells ≡ true)
  cells_of_fields [] [] fits = record { cells = []; are = refl; fit = refl }
  cells_of_fields [] (f ∷ fs) fits = elim fits [ ]
  cells_of_fields (e ∷ es) [] fits = elim fits [ ]
  cells_of_fields (e ∷ es) (f ∷ fs) (field same fit fits) =
      let one : IsBaseOf e.1 f.value = base_of_fits e.1 f.value fit in
      let rest : AreCells fs (λ cells. cells_fit (as_columns es) cells ≡ true) = cells_of_fields es fs fits in
      record {
        cells = record { label = e.0; value = one.base } ∷ rest.cells;
        are = λ j. record { label = same j; value = one.is j } ∷ rest.are j;
        fit = both_true (bytes_eq e.0 e.0) (is_of_kind e.1 one.base) (cells_fit (as_columns es) rest.cells) (bytes_itself e.0) one.of_kind rest.fit;
      }

  -- ---- rows of a table

  abbrev columns_of : TableDecl → List (Label × BaseKind)
  columns_of table = fin.entries (kinds table.columns)

  row_value_fits : (table : TableDecl) (row : rows.Row) → row_known table ≡ Some row → (r : Row) → row_fits (table_def table) r ≡ true → Fits p i (row_value r) (record_of row)
  row_value_fits table row makes r fit =
      Fits.fields (cell_fields r.cells) (fields_of row) refl
      (subst (λ es. FieldsFit p i (cell_fields r.cells) (as_fields es)) (sym (columns_row table.columns row makes)) (fields_of_cells (columns_of table) r.cells fit)) refl

  value_of_row : (table : TableDecl) (row : rows.Row) → row_known table ≡ Some row → (v : Value) → Fits p i v (record_of row) → (r : Row) × (v ≡ row_value r) × (row_fits (table_def table) r ≡ true)
  value_of_row table row makes v fits =
      let inner : IsRecord p i v (fields_of row) = fits_fields p i v (fields_of row) fits in
      let found : AreCells inner.fs (λ cells. cells_fit (as_columns (columns_of table)) cells ≡ true) =
      cells_of_fields (columns_of table) inner.fs (subst (λ es. FieldsFit p i inner.fs (as_fields es)) (columns_row table.columns row makes) inner.fit) in
      (record { cells = found.cells }, inner.is ∙ ap (λ fs. value.Fields fs) found.are, found.fit)

  -- The table of that name: values of its rows have the row's type, and a value of this type is one of them.
  pub table_found : (x : Label) (row : rows.Row) → HasRows (tables_of p) x row → (def : TableDef) × (table_at p x ≡ Some def)
      × ((r : Row) → row_fits def r ≡ true → Fits p i (row_value r) (record_of row))
      × ((v : Value) → Fits p i v (record_of row) → (r : Row) × (v ≡ row_value r) × (row_fits def r ≡ true))
  table_found x row has =
      let one : IsTable (find (λ (table : TableDecl). bytes_eq table.name.text x) (tables_of p)) row = proper_table (find (λ (table : TableDecl). bytes_eq table.name.text x) (tables_of p)) row has in
      (table_def one.table, found_def x (tables_of p) one.table one.there, row_value_fits one.table row one.makes, value_of_row one.table row one.makes)

  rows_fit : (def : TableDef) (t : Ground) → ((r : Row) → row_fits def r ≡ true → Fits p i (row_value r) t) → (rs : List Row) → all_fit def rs ≡ true → AllFit p i (map row_value rs) t
  rows_fit def t fits [] fit = none
  rows_fit def t fits (r ∷ rs) fit = more (fits r (first_so (row_fits def r) _ fit)) (rows_fit def t fits rs (second_so (row_fits def r) _ fit))

  -- the rows of a table, where those of each table fit it
  pub rows_of_table : (tables : Tables) → AreTables p tables → (x : Label) (row : rows.Row) → HasRows (tables_of p) x row → AllFit p i (map row_value (tables x)) (record_of row)
  rows_of_table tables are x row has =
      let found = table_found x row has in
      let holds : (all_fit found.0 (tables found.0.name) ≡ true) × (bytes_eq found.0.name x ≡ true) =
      found_holds (λ (def : TableDef). all_fit def (tables def.name) ≡ true) (λ (def : TableDef). bytes_eq def.name x) (table_defs p) found.0 found.1 are in
      rows_fit found.0 (record_of row) found.2 (tables x) (subst (λ name. all_fit found.0 (tables name) ≡ true) (same_bytes found.0.name x holds.1) holds.0)

  -- ---- flat rows

  cells_of_flat : (gs : List GroundField) → list_all (λ (f : GroundField). is_base f.ty) gs ≡ true → (fs : List Field) → FieldsFit p i fs gs → AreCells fs (λ cells. Unit {0})
  cells_of_flat [] flat [] fits = record { cells = []; are = refl; fit = tt }
  cells_of_flat [] flat (f ∷ fs) fits = elim fits [ ]
  cells_of_flat (g ∷ gs) flat [] fits = elim fits [ ]
  cells_of_flat (g ∷ gs) flat (f ∷ fs) (field same fit fits) =
      let k : (k : BaseKind) × (g.ty ≡ base k) = base_is g.ty (first_so (is_base g.ty) _ flat) in
      let one : IsBaseOf k.0 f.value = base_of_fits k.0 f.value (subst (λ t. Fits p i f.value t) k.1 fit) in
      let rest : AreCells fs (λ cells. Unit {0}) = cells_of_flat gs (second_so (is_base g.ty) _ flat) fs fits in
      record { cells = record { label = f.label; value = one.base } ∷ rest.cells; are = λ j. record { label = f.label; value = one.is j } ∷ rest.are j; fit = tt }

  -- a value of a flat record is a row
  pub flat_row : (a : Ground) → is_flat_row a ≡ true → (v : Value) → Fits p i v a → (r : Row) × (v ≡ row_value r)
  flat_row a flat v fits =
      let is : IsFlatRow a = flat_row_is a flat in
      let inner : IsRecord p i v is.fields = fits_fields p i v is.fields (subst (λ t. Fits p i v t) is.is fits) in
      let found : AreCells inner.fs (λ cells. Unit {0}) = cells_of_flat is.fields is.flat inner.fs inner.fit in
      (record { cells = found.cells }, inner.is ∙ ap (λ fs. value.Fields fs) found.are)

  pub flat_rows : (a : Ground) → is_flat_row a ≡ true → (values : List Value) → AllFit p i values a → (rs : List Row) × (values ≡ map row_value rs)
  flat_rows a flat [] none = ([], refl)
  flat_rows a flat (v ∷ values) (more fits all) =
      let one : (r : Row) × (v ≡ row_value r) = flat_row a flat v fits in
      let rest : (rs : List Row) × (values ≡ map row_value rs) = flat_rows a flat values all in
      (one.0 ∷ rest.0, ap₂ (λ v vs. v ∷ vs) one.1 rest.1)

  -- ---- the same values in another order

  all_of : (a : Ground) (values : List Value) → AllFit p i values a → All (λ v. Fits p i v a) values
  all_of a [] none = All-nil (λ v. Fits p i v a)
  all_of a (v ∷ values) (more fits all) = All-cons (λ v. Fits p i v a) v values fits (all_of a values all)

  of_all : (a : Ground) (values : List Value) → All (λ v. Fits p i v a) values → AllFit p i values a
  of_all a [] all = none
  of_all a (v ∷ values) all = more (All-head (λ v. Fits p i v a) v values all) (of_all a values (All-tail (λ v. Fits p i v a) v values all))

  pub all_fit_permuted : (a : Ground) (values others : List Value) → AllFit p i values a → IsPermutation values others → AllFit p i others a
  all_fit_permuted a values others all permuted = of_all a others (All-permutation (λ v. Fits p i v a) values others permuted (all_of a values all))
