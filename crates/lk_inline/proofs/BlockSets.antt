-- What a change makes of a row, by its parts: they stand for what its condition and its new values give.
use Rattle.std.proofs.Common.{◌≡◌, refl, sym, ap, ap₂, ◌∙◌, subst, ℕ, Bool, true, false, List, [], ◌∷◌, map, find, Some, None, bytes_eq, if◌then◌else◌}
use Rattle.std.specs.Prelude.{unwrap_or}
use Rattle.lk_ast.specs.Children.{exprs_of}
use Rattle.lk_ast.specs.Rows.{row_value}
use Rattle.lk_ast.specs.declared.declaration.Program.{Program}
use Rattle.lk_ast.specs.declared.expression.Expr.{Expr}
use Rattle.lk_ast.specs.declared.expression.PartExpr.{PartExpr}
use Rattle.lk_ast.specs.declared.table.Base.{Base}
use Rattle.lk_ast.specs.declared.table.Base.TheVariants as base
use Rattle.lk_ast.specs.declared.table.Cell.{Cell}
use Rattle.lk_ast.specs.declared.table.Row.{Row}
use Rattle.lk_ast.specs.declared.value.Value.{Value}
use Rattle.lk_ast.specs.declared.value.Value.TheVariants as value
use Rattle.lk_bag.specs.Change.{is_true, set_value, sets_label}
use Rattle.lk_bodies.specs.Walk.{labelled}
use Rattle.lk_ground_types.specs.Shapes.{base_level, is_base, rows_level}
use Rattle.lk_inline.proofs.RecordRules.{StandEach}
use Rattle.lk_inline.proofs.RowLabels.{cells_fit}
use Rattle.lk_inline.proofs.Standing.{bool_given, bool_is}
use Rattle.lk_inline.specs.Stands.{IsRecord, Stands}
use Rattle.lk_operators.specs.Values.{base_in, bool_in}
use Rattle.lk_query.specs.Changed.{set_to}
use Rattle.lk_query.specs.Given.{Given, Values, cell_with, gives, of_row}
use Rattle.lk_query.specs.declared.part.Part.{Part}
use Rattle.lk_sound.proofs.FieldRows.{get_among, get_first}
use Rattle.lk_types.proofs.Members.{each_in}
use Rattle.lk_sound.proofs.TableRows.{cell_fields}
use Rattle.lk_sound.proofs.UpdatedRows.{base_itself}
use Rattle.lk_sound.specs.Instances.{Instances}
use Rattle.lk_sound.specs.Values.{Fits, FieldsFit, field, no_field}
use Rattle.lk_sql.specs.Operations.{truth}
use Rattle.lk_types.proofs.Parts.{mapped}
use Rattle.lk_types.specs.Each.{Each}
use Rattle.lk_types.specs.Rows as rows
use Rattle.lk_types.specs.Rows.{Label, fields_of}
use Rattle.lk_types.specs.declared.ground.Ground.{Ground}
use Rattle.lk_types.specs.declared.ground.Ground.TheVariants as known
use Rattle.lk_types.specs.declared.ground.GroundField.{GroundField}
use Rattle.lk_typing.specs.Names.{Named}
use Rattle.lk_typing.specs.Types as types
use Rattle.lk_typing.specs.Types.{record_of}
use Rattle.lk_typing.specs.Typing.{HasField, labels_of}

-- ---- the row that may change

-- it stands for its record, whatever its columns are
pub row_stands_for : (row : rows.Row) (r : Row) → IsRecord r → Stands (record_of row) (row_value r) (of_row r)
row_stands_for row r is = record {
  base = λ also. absurd (let wrong : false ≡ true = sym (ap base_level (known.outs-Fields (fields_of row))) ∙ also in cc);
  row = λ also. refl;
  rows = λ also. absurd (let wrong : false ≡ true = sym (ap rows_level (known.outs-Fields (fields_of row))) ∙ also in cc);
  record_of = λ also. is;
  records_of = λ also. absurd (let wrong : false ≡ true = sym (ap rows_level (known.outs-Fields (fields_of row))) ∙ also in cc);
}

-- ---- columns have base types

-- no other value is a base
other_value : (v w : Value) (b : Base) → v ≡ value.Base b → v ≡ w → base_in w ≡ None → ⊥
other_value v w b same is none = let wrong : None ≡ Some b = sym none ∙ ap base_in (sym is ∙ same) ∙ base_itself b in cc

module _ (p : Program) (i : Instances) where
  base_typed : (v : Value) (b : Base) (t : Ground) → v ≡ value.Base b → Fits p i v t → is_base t ≡ true
  base_typed v b t same (Fits.int n is type) = ap is_base type ∙ ap base_level known.outs-Int
  base_typed v b t same (Fits.bool c is type) = ap is_base type ∙ ap base_level known.outs-Bool
  base_typed v b t same (Fits.text bytes is type) = ap is_base type ∙ ap base_level known.outs-Text
  base_typed v b t same (Fits.list values a is fit type) = absurd (other_value v _ b same is (let none : base_in (value.List values) ≡ None = simp (value.outs-List) in none))
  base_typed v b t same (Fits.fields fs gs is fit type) = absurd (other_value v _ b same is (let none : base_in (value.Fields fs) ≡ None = simp (value.outs-Fields) in none))
  base_typed v b t same (Fits.tag inner g gs is one fit type) = absurd (other_value v _ b same is (let none : base_in (value.Tag g.label inner) ≡ None = simp (value.outs-Tag) in none))
  base_typed v b t same (Fits.function f site ts own a is there listed type) = absurd (other_value v _ b same is (let none : base_in (value.Fun (record { site = site; env = [] })) ≡ None = simp (value.outs-Fun) in none))
  base_typed v b t same (Fits.lambda f l functions params kept own a inside is no_function there are_kept env named typed fine type) = absurd (other_value v _ b same is (let none : base_in (value.Fun f) ≡ None = simp (value.outs-Fun) in none))

  cells_base : (cells : List Cell) (gs : List GroundField) → FieldsFit p i (cell_fields cells) gs → Each (λ (g : GroundField). is_base g.ty ≡ true) gs
  cells_base [] [] no_field = tt
  cells_base [] (g ∷ gs) fit = elim fit [ ]
  cells_base (cell ∷ cells) [] fit = tt
  cells_base (cell ∷ cells) (g ∷ gs) (field same one fit) = (base_typed (value.Base cell.value) cell.value g.ty refl one, cells_base cells gs fit)

  -- a field of the type that a row has
  pub field_base : (row : rows.Row) (r : Row) → Fits p i (row_value r) (record_of row) → (l : Label) (t : Ground) → HasField (record_of row) l t → is_base t ≡ true
  field_base row r fits l t (other, whole, same, made) =
      each_in (λ (g : GroundField). is_base g.ty ≡ true) (fields_of whole) (record { label = l; ty = t }) (get_among whole l t (get_first l t other whole made))
      (cells_base r.cells (fields_of whole) (cells_fit p i (fields_of whole) r (subst (Fits p i (row_value r)) same fits)))

  -- ---- the condition

  bool_shown : (b : Bool) → bool_in (value.Base (base.Bool b)) ≡ Some b
  bool_shown b = simp (value.outs-Base)

  true_itself : (b : Bool) → b ≡ is_true (Some b)
  true_itself true = refl
  true_itself false = refl

  pub test_same : (v : Value) (g : Given) → Fits p i v known.Bool → Stands known.Bool v g → truth g.base ≡ is_true (bool_in v)
  test_same v g fits stands =
      let found : (b : Bool) × (g.base ≡ base.Bool b) = bool_given p i v g fits stands in
      let is : bool_in v ≡ Some found.0 = ap bool_in (stands.base bool_is ∙ ap value.Base found.1) ∙ bool_shown found.0 in
      ap truth found.1 ∙ true_itself found.0 ∙ ap is_true (sym is)

  -- ---- new values

  module _ (give : Expr → Value) (parts : List Part) (values : Values) (row : rows.Row) (r : Row) (fits : Fits p i (row_value r) (record_of row)) where
    abbrev alone : ℕ → Given
    alone k = gives (λ name. []) parts k values

    -- what a column is set to by the text
    abbrev text_value : Label → Base → List PartExpr → Base
    text_value l old sets = set_value (find (sets_label l) sets) (λ part. unwrap_or (base_in (give part.expr)) old) old

    pub set_same : (sets : List PartExpr) (ts : List Ground) (numbers : List ℕ) (fields : Named Ground) (left : List Ground) → types.labelled (labels_of sets) ts ≡ Some (fields, left)
        → Each (λ (set : Label × Ground). HasField (record_of row) set.0 set.1) fields → StandEach ts (map give (exprs_of sets)) (map alone numbers)
        → (l : Label) (old : Base) → set_to parts values (labelled (labels_of sets) numbers) l old ≡ text_value l old sets
    set_same [] ts numbers fields left are has stand l old = refl
    set_same (set ∷ sets) [] numbers fields left are has stand l old = absurd stand
    set_same (set ∷ sets) (t ∷ ts) [] fields left are has stand l old = absurd stand
    set_same (set ∷ sets) (t ∷ ts) (k ∷ numbers) fields left are has stand l old =
        let found : (x : Named Ground × List Ground) × (types.labelled (labels_of sets) ts ≡ Some x) × ((fields, left) ≡ ((set.label.text, t) ∷ x.0, x.1)) =
        mapped (λ (x : Named Ground × List Ground). ((set.label.text, t) ∷ x.0, x.1)) (types.labelled (labels_of sets) ts) (fields, left) are in
        let each : Each (λ (set : Label × Ground). HasField (record_of row) set.0 set.1) ((set.label.text, t) ∷ found.0.0) =
        subst (λ (x : Named Ground × List Ground). Each (λ (set : Label × Ground). HasField (record_of row) set.0 set.1) x.0) found.2 has in
        let of_base : is_base t ≡ true = field_base row r fits set.label.text t each.0 in
        let shown : base_in (give set.expr) ≡ Some (alone k).base = ap base_in (stand.0.base of_base) ∙ base_itself (alone k).base in
        by_test (bytes_eq set.label.text l) (sym (ap (λ o. unwrap_or o old) shown)) (set_same sets ts numbers found.0.0 found.0.1 found.1 each.1 stand.1 l old)
      where
        by_test : (b : Bool) → (alone k).base ≡ unwrap_or (base_in (give set.expr)) old → set_to parts values (labelled (labels_of sets) numbers) l old ≡ text_value l old sets
            → (if b then (alone k).base else set_to parts values (labelled (labels_of sets) numbers) l old) ≡ set_value (if b then Some set else find (sets_label l) sets) (λ part. unwrap_or (base_in (give part.expr)) old) old
        by_test true one later = one
        by_test false one later = later

    pub cells_same : (sets : List PartExpr) (ts : List Ground) (numbers : List ℕ) (fields : Named Ground) → types.labelled (labels_of sets) ts ≡ Some (fields, [])
        → Each (λ (set : Label × Ground). HasField (record_of row) set.0 set.1) fields → StandEach ts (map give (exprs_of sets)) (map alone numbers)
        → (cells : List Cell) → map (λ (cell : Cell). cell_with cell.label (set_to parts values (labelled (labels_of sets) numbers) cell.label cell.value)) cells ≡ map (λ (cell : Cell). cell_with cell.label (text_value cell.label cell.value sets)) cells
    cells_same sets ts numbers fields are has stand [] = refl
    cells_same sets ts numbers fields are has stand (cell ∷ cells) =
        ap₂ (λ b cs. cell_with cell.label b ∷ cs) (set_same sets ts numbers fields [] are has stand cell.label cell.value) (cells_same sets ts numbers fields are has stand cells)
