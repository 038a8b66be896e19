-- A row of a table fits it behind an update, too: what a column is set to is a value of its kind, whatever the row was.
use Rattle.std.proofs.Common.{◌≡◌, inl, inr, refl, sym, ap, subst, ◌∙◌, Bool, true, false, List, [], ◌∷◌, ◌++◌, map, find, Option, Some, None, if◌then◌else◌, unwrap_or, bytes_eq}
use Rattle.std.specs.FinMap as fin
use Rattle.lk_ast.specs.Children.{exprs_of}
use Rattle.lk_ast.specs.Rows.{row_value}
use Rattle.lk_ast.specs.Tables.{row_fits, all_fit, table_defs, tables_of}
use Rattle.lk_ast.specs.declared.declaration.Program.{Program}
use Rattle.lk_ast.specs.declared.expression.ChangeExpr.{ChangeExpr, out-ChangeExpr}
use Rattle.lk_ast.specs.declared.expression.Expr.{Expr}
use Rattle.lk_ast.specs.declared.expression.PartExpr.{PartExpr}
use Rattle.lk_ast.specs.declared.table.Base.{Base}
use Rattle.lk_ast.specs.declared.table.Base.TheVariants as held
use Rattle.lk_ast.specs.declared.table.Cell.{Cell}
use Rattle.lk_ast.specs.declared.table.Row.{Row}
use Rattle.lk_ast.specs.declared.table.TableDef.{TableDef}
use Rattle.lk_ast.specs.declared.value.Field.{Field}
use Rattle.lk_ast.specs.declared.value.FunValue.{FunValue}
use Rattle.lk_ast.specs.declared.value.Value.{Value, out-Value, roll-Value, roll-out-Value}
use Rattle.lk_ast.specs.declared.value.Value.TheOpen.{Value-F}
use Rattle.lk_ast.specs.declared.value.Value.TheVariants as value
use Rattle.lk_bag.specs.Bag.{gives}
use Rattle.lk_bag.specs.Change.{is_met, updated}
use Rattle.lk_locals.specs.Names.{Names, bind}
use Rattle.lk_names.specs.Programs.{IsBound}
use Rattle.lk_operators.specs.Values.{base_in, fields_in}
use Rattle.lk_sound.proofs.Bags.{bags_fit}
use Rattle.lk_sound.proofs.Bindings.{same_bytes, bound_one}
use Rattle.lk_sound.proofs.FieldRows.{get_first, among_get}
use Rattle.lk_sound.proofs.Shapes.{IsRecord, fits_fields, fields_shown}
use Rattle.lk_sound.proofs.TableRows.{cell_fields, table_found}
use Rattle.lk_sound.specs.Instances.{Instances, IsFlatPart, AreClosed}
use Rattle.lk_sound.specs.Nodes.{TypedNode, change_nodes, nodes_of, each_nodes}
use Rattle.lk_sound.specs.Nodes as nodes
use Rattle.lk_sound.specs.Points.{AreLocals}
use Rattle.lk_sound.specs.Tables.{table_at}
use Rattle.lk_sound.specs.Values.{Fits, FitEach, FieldsFit, no_field, field, one_more}
use Rattle.lk_types.proofs.Parts.{same_some, mapped}
use Rattle.lk_types.specs.Each.{Each, OneOf}
use Rattle.lk_types.specs.Rows as rows
use Rattle.lk_types.specs.Rows.{Label, fields_of, no_effects}
use Rattle.lk_types.specs.declared.ground.Ground.{Ground}
use Rattle.lk_types.specs.declared.ground.GroundField.{GroundField}
use Rattle.lk_typing.proofs.Samples.Types.{same_row}
use Rattle.lk_typing.specs.Names.{Named, Entry}
use Rattle.lk_typing.specs.Types.{record_of, labelled}
use Rattle.lk_typing.specs.Typing.{IsChange, HasField, labels_of, changed}

-- ---- rows are what their values say

pub base_itself : (b : Base) → base_in (value.Base b) ≡ Some b
base_itself b = simp (value.outs-Base)

base_by : (v : Value) (l : Value-F Value Field FunValue) → out-Value v ≡ l → (b : Base) → base_in v ≡ Some b → v ≡ value.Base b
base_by v (Value-F.Base c) out b is =
    let same : v ≡ value.Base c = sym (roll-out-Value v) ∙ ap roll-Value out ∙ value.rolls-Base c in
    same ∙ ap value.Base (same_some (sym (base_itself c) ∙ sym (ap base_in same) ∙ is))
base_by v (Value-F.List values) out b is =
    let same : v ≡ value.List values = sym (roll-out-Value v) ∙ ap roll-Value out ∙ value.rolls-List values in
    let none : base_in (value.List values) ≡ None = simp (value.outs-List) in
    let wrong : None ≡ Some b = sym none ∙ sym (ap base_in same) ∙ is in cc
base_by v (Value-F.Fields fs) out b is =
    let same : v ≡ value.Fields fs = sym (roll-out-Value v) ∙ ap roll-Value out ∙ value.rolls-Fields fs in
    let none : base_in (value.Fields fs) ≡ None = simp (value.outs-Fields) in
    let wrong : None ≡ Some b = sym none ∙ sym (ap base_in same) ∙ is in cc
base_by v (Value-F.Tag l inner) out b is =
    let same : v ≡ value.Tag l inner = sym (roll-out-Value v) ∙ ap roll-Value out ∙ value.rolls-Tag l inner in
    let none : base_in (value.Tag l inner) ≡ None = simp (value.outs-Tag) in
    let wrong : None ≡ Some b = sym none ∙ sym (ap base_in same) ∙ is in cc
base_by v (Value-F.Fun f) out b is =
    let same : v ≡ value.Fun f = sym (roll-out-Value v) ∙ ap roll-Value out ∙ value.rolls-Fun f in
    let none : base_in (value.Fun f) ≡ None = simp (value.outs-Fun) in
    let wrong : None ≡ Some b = sym none ∙ sym (ap base_in same) ∙ is in cc

-- what shows a base value is one
base_shown : (v : Value) (b : Base) → base_in v ≡ Some b → v ≡ value.Base b
base_shown v b is = base_by v (out-Value v) refl b is

abbrev cells_back : List Field → List Cell
cells_back fs = map {A = Field} (λ f. record { label = f.label; value = unwrap_or (base_in f.value) (held.Bool false) }) fs

cells_again : (cells : List Cell) → cells_back (cell_fields cells) ≡ cells
cells_again [] = refl
cells_again (cell ∷ cells) = λ j. record { label = cell.label; value = unwrap_or (base_itself cell.value j) (held.Bool false) } ∷ cells_again cells j

same_cells : (r s : Row) → row_value r ≡ row_value s → r ≡ s
same_cells r s is =
    let fields : cell_fields r.cells ≡ cell_fields s.cells = same_some (sym (fields_shown (cell_fields r.cells)) ∙ ap fields_in is ∙ fields_shown (cell_fields s.cells)) in
    let cells : r.cells ≡ s.cells = sym (cells_again r.cells) ∙ ap cells_back fields ∙ cells_again s.cells in
    λ j. record { cells = cells j }

-- ---- what is set

pub no_rows : (defs : List TableDef) → Each (λ (def : TableDef). all_fit def [] ≡ true) defs
no_rows [] = tt
no_rows (def ∷ defs) = (refl, no_rows defs)

module _ (p : Program) (i : Instances) where
  -- what a part is set to is a value for the column of its label
  record IsSet (row : rows.Row) (give : Expr → Value) (part : PartExpr) : Type 0 where
    type : Ground
    has : HasField (record_of row) part.label.text type
    fits : Fits p i (give part.expr) type

  set_found : (row : rows.Row) (give : Expr → Value) (sets : List PartExpr) (ts : List Ground) (fields : Named Ground) (left : List Ground) → labelled (labels_of sets) ts ≡ Some (fields, left)
      → FitEach p i (map give (exprs_of sets)) ts → Each (λ (set : Label × Ground). HasField (record_of row) set.0 set.1) fields
      → (l : Label) (part : PartExpr) → find (λ (part : PartExpr). bytes_eq part.label.text l) sets ≡ Some part → IsSet row give part
  set_found row give [] ts fields left are fits has l part is = let wrong : None ≡ Some part = is in cc
  set_found row give (set ∷ sets) [] fields left are fits has l part is = elim fits [ ]
  set_found row give (set ∷ sets) (t ∷ ts) fields left are (one_more fit fits) has l part is =
      let found : (x : Named Ground × List Ground) × (labelled (labels_of sets) ts ≡ Some x) × ((fields, left) ≡ ((set.label.text, t) ∷ x.0, x.1)) =
      mapped (λ (x : Named Ground × List Ground). ((set.label.text, t) ∷ x.0, x.1)) (labelled (labels_of sets) ts) (fields, left) are in
      let each : Each (λ (set : Label × Ground). HasField (record_of row) set.0 set.1) ((set.label.text, t) ∷ found.0.0) =
      subst (λ (x : Named Ground × List Ground). Each (λ (set : Label × Ground). HasField (record_of row) set.0 set.1) x.0) found.2 has in
      by_test (bytes_eq set.label.text l) (record { type = t; has = each.0; fits = fit }) is (set_found row give sets ts found.0.0 found.0.1 found.1 fits each.1 l part)
    where
      by_test : (b : Bool) → IsSet row give set → (if b then Some set else find (λ (part : PartExpr). bytes_eq part.label.text l) sets) ≡ Some part
          → (find (λ (part : PartExpr). bytes_eq part.label.text l) sets ≡ Some part → IsSet row give part) → IsSet row give part
      by_test true one is later = subst (λ part. IsSet row give part) (same_some is) one
      by_test false one is later = later is

  -- the value of a column that is set: of two fields of one label in a row each has the same type
  field_type : (row : rows.Row) (l : Label) (a : Ground) (g : GroundField) → HasField (record_of row) l a → OneOf (λ other. other ≡ g) (fields_of row) → l ≡ g.label → a ≡ g.ty
  field_type row l a g (other, whole, same, made) among is =
      same_some (sym (get_first l a other whole made) ∙ ap (λ (r : rows.Row). fin.get r l) (sym (same_row row whole same)) ∙ ap (fin.get row) is ∙ among_get row g among)

  -- a base value in place of another
  set_fits : (v : Value) (old : Base) (t : Ground) → Fits p i v t → Fits p i (value.Base old) t → Fits p i (value.Base (unwrap_or (base_in v) old)) t
  set_fits v old t new was = by_base (base_in v) refl
    where
      by_base : (o : Option Base) → base_in v ≡ o → Fits p i (value.Base (unwrap_or o old)) t
      by_base None missing = was
      by_base (Some b) there = subst (λ w. Fits p i w t) (base_shown v b there) new

  -- cells one by one, each of which keeps its label and gets a value of the same type
  cells_kept : (f : Cell → Cell) (all gs : List GroundField) (cells : List Cell) → FieldsFit p i (cell_fields cells) gs → ((g : GroundField) → OneOf (λ other. other ≡ g) gs → OneOf (λ other. other ≡ g) all)
      → ((cell : Cell) (g : GroundField) → OneOf (λ other. other ≡ g) all → cell.label ≡ g.label → Fits p i (value.Base cell.value) g.ty → ((f cell).label ≡ cell.label) × Fits p i (value.Base (f cell).value) g.ty)
      → FieldsFit p i (cell_fields (map f cells)) gs
  cells_kept f all [] [] no_field among keeps = no_field
  cells_kept f all (g ∷ gs) (cell ∷ cells) (field same fit fits) among keeps =
      let new = keeps cell g (among g (inl refl)) same fit in
      field (new.0 ∙ same) new.1 (cells_kept f all gs cells fits (λ h one. among h (inr one)) keeps)
  cells_kept f all [] (cell ∷ cells) fits among keeps = elim fits [ ]
  cells_kept f all (g ∷ gs) [] fits among keeps = elim fits [ ]

  label_found : (l : Label) (part : PartExpr) (sets : List PartExpr) → find (λ (part : PartExpr). bytes_eq part.label.text l) sets ≡ Some part → part.label.text ≡ l
  label_found l part [] is = let wrong : None ≡ Some part = is in cc
  label_found l part (set ∷ sets) is = by_test (bytes_eq set.label.text l) refl is (label_found l part sets)
    where
      by_test : (b : Bool) → bytes_eq set.label.text l ≡ b → (if b then Some set else find (λ (part : PartExpr). bytes_eq part.label.text l) sets) ≡ Some part
          → (find (λ (part : PartExpr). bytes_eq part.label.text l) sets ≡ Some part → part.label.text ≡ l) → part.label.text ≡ l
      by_test true passes is later = subst (λ (x : PartExpr). x.label.text ≡ l) (same_some is) (same_bytes set.label.text l passes)
      by_test false fails is later = later is

  -- ---- the whole row

  module _ (bound : IsBound p) (closed : AreClosed p i) (functions : Named (Entry Ground)) (locals : Named Ground) (names : Names) (fit : AreLocals p i locals names) (change : ChangeExpr) (row : Row) where
    -- what an expression of the change gives for the row
    abbrev of_row : Expr → Value
    of_row e = gives p (λ name. []) e (bind (out-ChangeExpr change).name.text (row_value row) names)

    -- the cell that the definition makes
    abbrev set_value : Option PartExpr → (PartExpr → Base) → Base → Base
    set_value None value old = old
    set_value (Some part) value old = value part

    abbrev set_in : Label → Option PartExpr
    set_in l = find (λ (part : PartExpr). bytes_eq part.label.text l) (out-ChangeExpr change).sets

    abbrev set_cell : Cell → Cell
    set_cell cell = record { label = cell.label; value = set_value (set_in cell.label) (λ part. unwrap_or (base_in (of_row part.expr)) cell.value) cell.value }

    module _ (type : rows.Row) (was : Fits p i (row_value row) (record_of type)) (sets : (l : Label) (part : PartExpr) → set_in l ≡ Some part → IsSet type of_row part) where
      cell_kept : (cell : Cell) (g : GroundField) → OneOf (λ other. other ≡ g) (fields_of type) → cell.label ≡ g.label → Fits p i (value.Base cell.value) g.ty → Fits p i (value.Base (set_cell cell).value) g.ty
      cell_kept cell g among label old = by_set (set_in cell.label) refl
        where
          by_set : (o : Option PartExpr) → set_in cell.label ≡ o → Fits p i (value.Base (set_value o (λ part. unwrap_or (base_in (of_row part.expr)) cell.value) cell.value)) g.ty
          by_set None missing = old
          by_set (Some part) there =
              let set : IsSet type of_row part = sets cell.label part there in
              let same : set.type ≡ g.ty = field_type type part.label.text set.type g set.has among (label_found cell.label part (out-ChangeExpr change).sets there ∙ label) in
              set_fits (of_row part.expr) cell.value g.ty (subst (λ t. Fits p i (of_row part.expr) t) same set.fits) old

      updated_value : Fits p i (row_value (updated p names change row)) (record_of type)
      updated_value = by_test (is_met p names change row)
        where
          inner : IsRecord p i (row_value row) (fields_of type)
          inner = fits_fields p i (row_value row) (fields_of type) was

          same : inner.fs ≡ cell_fields row.cells
          same = same_some (sym (fields_shown inner.fs) ∙ sym (ap fields_in inner.is) ∙ fields_shown (cell_fields row.cells))

          new_fields : FieldsFit p i (cell_fields (map set_cell row.cells)) (fields_of type)
          new_fields = cells_kept set_cell (fields_of type) (fields_of type) row.cells (subst (λ fs. FieldsFit p i fs (fields_of type)) same inner.fit) (λ g one. one) (λ cell g among label old. (refl, cell_kept cell g among label old))

          by_test : (met : Bool) → Fits p i (row_value (if met then record { cells = map set_cell row.cells } else row)) (record_of type)
          by_test true = Fits.fields (cell_fields (map set_cell row.cells)) (fields_of type) refl new_fields refl
          by_test false = was

change_back : (P : nodes.Part → Type 0) (xs ys : List TypedNode) → Each P (nodes.parts_of (xs ++ ys)) → Each P (nodes.parts_of ys)
change_back P [] ys all = all
change_back P (x ∷ xs) ys all = change_back P xs ys all.1

-- A row that fits its table fits it behind an update by a typed change with flat parts, whose names have values that fit.
pub updated_fits : (p : Program) (i : Instances) → IsBound p → AreClosed p i → (functions : Named (Entry Ground)) (locals : Named Ground) (change : ChangeExpr) (inside : List Ground) (d : IsChange functions (tables_of p) locals change inside)
    → Each (IsFlatPart i.helpers) (nodes.parts_of (change_nodes d)) → (names : Names) → AreLocals p i locals names
    → (def : TableDef) → table_at p (out-ChangeExpr change).table.text ≡ Some def → (row : Row) → row_fits def row ≡ true → row_fits def (updated p names change row) ≡ true
unfolding nodes_of
updated_fits p i bound closed functions locals change _ (changed type sets ts cond rest has holds values named fields) flat names fit def at row fits =
    let found = table_found p i (out-ChangeExpr change).table.text type has in
    let same : found.0 ≡ def = same_some (sym found.1 ∙ at) in
    let was : Fits p i (row_value row) (record_of type) = found.2 row (subst (λ d. row_fits d row ≡ true) (sym same) fits) in
    let given : FitEach p i (map (λ e. gives p (λ name. []) e (bind (out-ChangeExpr change).name.text (row_value row) names)) (exprs_of (out-ChangeExpr change).sets)) ts =
    bags_fit p i bound closed (λ name. []) (no_rows (table_defs p)) functions (((out-ChangeExpr change).name.text, record_of type) ∷ locals) no_effects (exprs_of (out-ChangeExpr change).sets) ts rest values refl refl
    (change_back (IsFlatPart i.helpers) (nodes_of true holds) (each_nodes true values) flat) (bind (out-ChangeExpr change).name.text (row_value row) names)
    (bound_one p i (out-ChangeExpr change).name.text (row_value row) (record_of type) locals names was fit) in
    let now : Fits p i (row_value (updated p names change row)) (record_of type) =
    updated_value p i bound closed functions locals names fit change row type was
    (set_found p i type (λ e. gives p (λ name. []) e (bind (out-ChangeExpr change).name.text (row_value row) names)) (out-ChangeExpr change).sets ts sets [] named given fields) in
    let back = found.3 (row_value (updated p names change row)) now in
    let kept : updated p names change row ≡ back.0 = same_cells (updated p names change row) back.0 back.1 in
    subst (λ r. row_fits def r ≡ true) (sym kept) (subst (λ d. row_fits d back.0 ≡ true) same back.2)
