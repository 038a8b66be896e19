-- What fields of records give stands for what they come to, and rows of tables stand for their records.
use Rattle.std.proofs.Common.{◌≡◌, refl, sym, ap, ap₂, subst, ◌∙◌, Bool, true, false, List, [], ◌∷◌, map, find, Some, inl, inr, ◌⊎◌, if◌then◌else◌, bytes_eq}
use Rattle.std.proofs.lemmas.Slice.Eq.{bytes_eq-Decides}
use Rattle.std.specs.FinMap as fin
use Rattle.std.specs.List.{list_all}
use Rattle.std.specs.Option.{option_map}
use Rattle.std.specs.Cmp.{first_so, second_so}
use Rattle.lk_ast.specs.Rows.{row_value, rows_value}
use Rattle.lk_ast.specs.Tables.{Tables, tables_of}
use Rattle.lk_ast.specs.declared.declaration.Program.{Program}
use Rattle.lk_ast.specs.declared.expression.Expr.{Expr}
use Rattle.lk_ast.specs.declared.expression.Node.TheOpen.{Node-F}
use Rattle.lk_ast.specs.declared.place.Word.{Word}
use Rattle.lk_ast.specs.declared.table.Cell.{Cell}
use Rattle.lk_ast.specs.declared.table.Row.{Row}
use Rattle.lk_ast.specs.declared.value.Field.{Field}
use Rattle.lk_ast.specs.declared.value.Value.TheVariants as value
use Rattle.lk_ast.specs.declared.value.Value.{Value}
use Rattle.lk_bag.specs.Bag.{value_of}
use Rattle.lk_bodies.specs.Shapes.{element_columns, labels}
use Rattle.lk_ground_types.specs.Shapes.{are_rows, is_base, is_flat_row, is_there, row_level}
use Rattle.lk_inline.proofs.LabelOrder.{sorted_in_order}
use Rattle.lk_inline.proofs.PutFields.{entry_labels, sorted_distinct}
use Rattle.lk_inline.proofs.RowLabels.{at_own_labels, cell_labels, element_labels_are, field_labels, fields_fit_labels, labels_are}
use Rattle.lk_inline.proofs.Standing.{base_stands, rows_stand}
use Rattle.lk_inline.specs.Stands.{AreDistinct, IsRecord, Stands}
use Rattle.lk_operators.specs.Operators.{operated}
use Rattle.lk_operators.specs.Outcomes.{given}
use Rattle.lk_operators.specs.Records.{value_under}
use Rattle.lk_operators.specs.Values.{fields_in}
use Rattle.lk_operators.specs.declared.outcome.Outcome.TheVariants as outcome
use Rattle.lk_query.specs.Given.{Given, at_labels, of_base, of_list}
use Rattle.lk_sound.proofs.FieldRows.{get_among, get_first}
use Rattle.lk_sound.proofs.Shapes.{fields_shown}
use Rattle.lk_sound.proofs.TableRows.{cell_fields, rows_of_table}
use Rattle.lk_sound.specs.Instances.{Instances}
use Rattle.lk_sound.specs.Tables.{AreTables}
use Rattle.lk_sound.specs.Values.{AllFit, Fits, more}
use Rattle.lk_sql.specs.Good.{are_in_order}
use Rattle.lk_sql.specs.Meaning.{cell_in}
use Rattle.lk_types.specs.Each.{Each, OneOf}
use Rattle.lk_types.specs.Rows as rows
use Rattle.lk_types.specs.Rows.{Label, fields_of}
use Rattle.lk_types.specs.declared.ground.Ground.TheVariants as known
use Rattle.lk_types.specs.declared.ground.Ground.{Ground}
use Rattle.lk_types.specs.declared.ground.GroundField.{GroundField}
use Rattle.lk_typing.specs.Names.{HasRows, Named}
use Rattle.lk_typing.specs.Types.{record_of, with_fields}

-- ---- one field

-- the value under a label that is there
value_there : (cells : List Cell) (l : Label) → OneOf (λ other. other ≡ l) (cell_labels cells) → value_under l (cell_fields cells) ≡ Some (value.Base (cell_in cells l))
value_there [] l one = absurd one
value_there (cell ∷ cells) l one = by_test (bytes_eq cell.label l) refl (value_there cells l) one
  where
    by_test : (b : Bool) → bytes_eq cell.label l ≡ b → (OneOf (λ other. other ≡ l) (cell_labels cells) → value_under l (cell_fields cells) ≡ Some (value.Base (cell_in cells l)))
        → cell.label ≡ l ⊎ OneOf (λ other. other ≡ l) (cell_labels cells)
        → option_map (λ (f : Field). f.value) (if b then Some (record { label = cell.label; value = value.Base cell.value }) else find (λ (f : Field). bytes_eq f.label l) (cell_fields cells)) ≡ Some (value.Base (if b then cell.value else cell_in cells l))
    by_test true is behind one = refl
    by_test false is behind (inl same) = let wrong : true ≡ false = sym ((bytes_eq-Decides cell.label l).1 same) ∙ is in absurd cc
    by_test false is behind (inr one) = behind one

pub label_among : (l : Label) (t : Ground) (gs : List GroundField) → OneOf (λ other. other ≡ record { label = l; ty = t }) gs → OneOf (λ other. other ≡ l) (field_labels gs)
label_among l t [] one = absurd one
label_among l t (g ∷ gs) (inl is) = inl (ap (λ (g : GroundField). g.label) is)
label_among l t (g ∷ gs) (inr one) = inr (label_among l t gs one)

-- a field of a flat record is a base
pub base_among : (l : Label) (t : Ground) (gs : List GroundField) → list_all (λ (f : GroundField). is_base f.ty) gs ≡ true → OneOf (λ other. other ≡ record { label = l; ty = t }) gs → is_base t ≡ true
base_among l t [] flat one = absurd one
base_among l t (g ∷ gs) flat (inl is) = ap (λ (g : GroundField). is_base g.ty) (sym is) ∙ first_so (is_base g.ty) _ flat
base_among l t (g ∷ gs) flat (inr one) = base_among l t gs (second_so (is_base g.ty) _ flat) one

-- each field of a flat record is a base
pub flat_fields : (gs : List GroundField) → is_flat_row (known.Fields gs) ≡ true → list_all (λ (f : GroundField). is_base f.ty) gs ≡ true
flat_fields gs flat = second_so (is_there gs) _ (sym (ap row_level (known.outs-Fields gs)) ∙ flat)

module _ (p : Program) (i : Instances) where
  pub field_stands : (e : Expr) (l : Word) (b : Ground) (gs : List GroundField) → is_flat_row (known.Fields gs) ≡ true → OneOf (λ other. other ≡ record { label = l.text; ty = b }) gs
      → (v : Value) (g : Given) → Fits p i v (known.Fields gs) → Stands (known.Fields gs) v g
      → Stands b (value_of (operated (Node-F.Project e l) (v ∷ []))) (of_base (cell_in g.row.cells l.text))
  field_stands e l b gs flat one v g fits stands =
      let is : v ≡ row_value g.row = stands.row flat in
      let there : OneOf (λ other. other ≡ l.text) (cell_labels g.row.cells) =
      subst (λ ls. OneOf (λ other. other ≡ l.text) ls) (sym (fields_fit_labels p i gs g.row (subst (λ w. Fits p i w (known.Fields gs)) is fits))) (label_among l.text b gs one) in
      base_stands b _ (cell_in g.row.cells l.text) (base_among l.text b gs (flat_fields gs flat) one)
      (ap (λ o. value_of (given (λ fs. given outcome.Value (value_under l.text fs)) o)) (ap fields_in is ∙ fields_shown (cell_fields g.row.cells))
      ∙ ap (λ o. value_of (given outcome.Value o)) (value_there g.row.cells l.text there))

  -- as the rule of a projection says that the label is there
  pub project_stands : (e : Expr) (l : Word) (b : Ground) (other row : rows.Row) → with_fields ((l.text, b) ∷ []) other ≡ Some row → is_flat_row (record_of row) ≡ true
      → (v : Value) (g : Given) → Fits p i v (record_of row) → Stands (record_of row) v g
      → Stands b (value_of (operated (Node-F.Project e l) (v ∷ []))) (of_base (cell_in g.row.cells l.text))
  project_stands e l b other row made flat v g fits stands =
      field_stands e l b (fields_of row) flat (get_among row l.text b (get_first l.text b other row made)) v g fits stands

-- ---- the labels of a row type

entry_fields : (es : Named Ground) → field_labels (map (λ e. record { label = e.0; ty = e.1 }) es) ≡ entry_labels es
entry_fields [] = refl
entry_fields (e ∷ es) = ap (λ ls. e.0 ∷ ls) (entry_fields es)

pub row_distinct : (row : rows.Row) → AreDistinct (field_labels (fields_of row))
row_distinct row = subst AreDistinct (sym (entry_fields (fin.entries row))) (sorted_distinct (fin.entries row) (fin.entries_sorted row))

pub row_in_order : (row : rows.Row) → are_in_order (field_labels (fields_of row)) ≡ true
row_in_order row = ap are_in_order (entry_fields (fin.entries row)) ∙ sorted_in_order (fin.entries row) (fin.entries_sorted row)

-- ---- tables

module _ (p : Program) (i : Instances) where
  -- a row that has the type of a record has no label twice
  pub record_fits : (row : rows.Row) (r : Row) → Fits p i (row_value r) (record_of row) → IsRecord r
  record_fits row r fits = subst AreDistinct (sym (fields_fit_labels p i (fields_of row) r fits)) (row_distinct row)

  all_records : (row : rows.Row) (rs : List Row) → AllFit p i (map row_value rs) (record_of row) → Each IsRecord rs
  all_records row [] fit = tt
  all_records row (r ∷ rs) (more fits fit) = (record_fits row r fits, all_records row rs fit)

  pub all_at_labels : (row : rows.Row) (rs : List Row) → AllFit p i (map row_value rs) (record_of row) → map (at_labels (field_labels (fields_of row))) rs ≡ rs
  all_at_labels row [] fit = refl
  all_at_labels row (r ∷ rs) (more fits fit) =
      ap₂ (λ r rs. r ∷ rs) (at_own_labels (field_labels (fields_of row)) r (fields_fit_labels p i (fields_of row) r fits) (record_fits row r fits)) (all_at_labels row rs fit)

  pub table_stands : (tables : Tables) → AreTables p tables → (x : Label) (row : rows.Row) → HasRows (tables_of p) x row → are_rows (known.List (record_of row)) ≡ true
      → Stands (known.List (record_of row)) (rows_value (tables x)) (of_list (map (at_labels (labels (element_columns (known.List (record_of row))))) (tables x)))
  table_stands tables are x row has flat =
      let fit : AllFit p i (map row_value (tables x)) (record_of row) = rows_of_table p i tables are x row has in
      let same : map (at_labels (labels (element_columns (known.List (record_of row))))) (tables x) ≡ tables x =
      ap (λ ls. map (at_labels ls) (tables x)) (ap labels (element_labels_are (record_of row)) ∙ labels_are (fields_of row)) ∙ all_at_labels row (tables x) fit in
      subst (λ rs. Stands (known.List (record_of row)) (rows_value (tables x)) (of_list rs)) (sym same)
      (rows_stand (known.List (record_of row)) (rows_value (tables x)) (tables x) flat refl (all_records row (tables x) fit))
