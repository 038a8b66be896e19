-- The labels of records: those of a flat record type, in its order, and a record at its own labels is itself.
use Rattle.std.proofs.Common.{◌≡◌, refl, sym, ap, ap₂, subst, ◌∙◌, Bool, true, false, List, [], ◌∷◌, map, Some, inl, inr, if◌then◌else◌, bytes_eq}
use Rattle.std.proofs.lemmas.Slice.Eq.{bytes_eq-Decides}
use Rattle.lk_ast.specs.Rows.{row_value}
use Rattle.lk_ast.specs.declared.declaration.Program.{Program}
use Rattle.lk_ast.specs.declared.table.Cell.{Cell}
use Rattle.lk_ast.specs.declared.table.Row.{Row}
use Rattle.lk_ast.specs.declared.value.Field.{Field}
use Rattle.lk_ast.specs.declared.value.Value.TheVariants as value
use Rattle.lk_ast.specs.declared.value.Value.{Value}
use Rattle.lk_bodies.specs.Shapes.{column, columns_level, columns_of, element_columns, element_level, labels}
use Rattle.lk_ground_types.specs.Shapes.{is_flat_row}
use Rattle.lk_inline.specs.Stands.{AreDistinct, IsRecord, row_labels}
use Rattle.lk_operators.specs.Values.{fields_in}
use Rattle.lk_query.specs.Given.{at_labels, cell_with, row_with}
use Rattle.lk_sound.proofs.FlatTypes.{IsFlatRow, flat_row_is}
use Rattle.lk_sound.proofs.Shapes as shapes
use Rattle.lk_sound.proofs.Shapes.{fields_shown, fits_fields}
use Rattle.lk_sound.proofs.TableRows.{cell_fields, bytes_itself}
use Rattle.lk_sound.specs.Instances.{Instances}
use Rattle.lk_sound.specs.Values.{Fits, FieldsFit, no_field, field}
use Rattle.lk_sql.specs.Meaning.{cell_in}
use Rattle.lk_types.specs.Each.{OneOf}
use Rattle.lk_types.specs.Rows.{Label}
use Rattle.lk_types.specs.declared.ground.Ground.TheVariants as known
use Rattle.lk_types.specs.declared.ground.Ground.{Ground}
use Rattle.lk_types.specs.declared.ground.GroundField.{GroundField}

-- ---- tests of labels

pub bytes_other : (x y : Label) → (x ≡ y → ⊥) → bytes_eq x y ≡ false
bytes_other x y apart = by_test (bytes_eq x y) refl
  where
    by_test : (b : Bool) → bytes_eq x y ≡ b → b ≡ false
    by_test true is = absurd (apart ((bytes_eq-Decides x y).0 is))
    by_test false is = refl

-- ---- the labels of a type

abbrev pub field_labels : List GroundField → List Label
field_labels gs = map (λ (g : GroundField). g.label) gs

abbrev pub cell_labels : List Cell → List Label
cell_labels cells = map (λ (cell : Cell). cell.label) cells

columns_labels : (gs : List GroundField) → labels (map column gs) ≡ field_labels gs
columns_labels [] = refl
columns_labels (g ∷ gs) = ap (λ ls. g.label ∷ ls) (columns_labels gs)

-- those of its fields
pub labels_are : (gs : List GroundField) → labels (columns_of (known.Fields gs)) ≡ field_labels gs
labels_are gs = ap (λ l. labels (columns_level l)) (known.outs-Fields gs) ∙ columns_labels gs

pub element_labels_are : (a : Ground) → element_columns (known.List a) ≡ columns_of a
element_labels_are a = ap element_level (known.outs-List a)

same_cells : (cells : List Cell) → map (λ (f : Field). f.label) (cell_fields cells) ≡ cell_labels cells
same_cells [] = refl
same_cells (cell ∷ cells) = ap (λ ls. cell.label ∷ ls) (same_cells cells)

pub same_fields_in : (fs gs : List Field) → value.Fields fs ≡ value.Fields gs → fs ≡ gs
same_fields_in fs gs is = let found : Some fs ≡ Some gs = sym (fields_shown fs) ∙ ap fields_in is ∙ fields_shown gs in cc

module _ (p : Program) (i : Instances) where
  pub fields_labels : (fs : List Field) (gs : List GroundField) → FieldsFit p i fs gs → map (λ (f : Field). f.label) fs ≡ field_labels gs
  fields_labels [] [] no_field = refl
  fields_labels [] (g ∷ gs) fit = elim fit [ ]
  fields_labels (f ∷ fs) [] fit = elim fit [ ]
  fields_labels (f ∷ fs) (g ∷ gs) (field same fit fits) = ap₂ (λ l ls. l ∷ ls) same (fields_labels fs gs fits)

  -- the cells of a record that fits fit its fields
  pub cells_fit : (gs : List GroundField) (r : Row) → Fits p i (row_value r) (known.Fields gs) → FieldsFit p i (cell_fields r.cells) gs
  cells_fit gs r fits =
      let found : shapes.IsRecord p i (row_value r) gs = fits_fields p i (row_value r) gs fits in
      subst (λ fs. FieldsFit p i fs gs) (sym (same_fields_in (cell_fields r.cells) found.fs found.is)) found.fit

  -- a record that fits has the labels of its type
  pub fields_fit_labels : (gs : List GroundField) (r : Row) → Fits p i (row_value r) (known.Fields gs) → row_labels r ≡ field_labels gs
  fields_fit_labels gs r fits = sym (same_cells r.cells) ∙ fields_labels (cell_fields r.cells) gs (cells_fit gs r fits)

  pub row_fits_labels : (t : Ground) → is_flat_row t ≡ true → (v : Value) (r : Row) → Fits p i v t → v ≡ row_value r → row_labels r ≡ labels (columns_of t)
  row_fits_labels t is v r fits same =
      let flat : IsFlatRow t = flat_row_is t is in
      let fit : Fits p i (row_value r) (known.Fields flat.fields) = subst (Fits p i (row_value r)) flat.is (subst (λ w. Fits p i w t) same fits) in
      fields_fit_labels flat.fields r fit ∙ sym (ap (λ t. labels (columns_of t)) flat.is ∙ labels_are flat.fields)

-- ---- a record at its own labels

-- a cell that has none of these labels says nothing at them
pub cell_skipped : (cell : Cell) (cells : List Cell) (l : Label) → (cell.label ≡ l → ⊥) → cell_in (cell ∷ cells) l ≡ cell_in cells l
cell_skipped cell cells l apart = ap (λ b. if b then cell.value else cell_in cells l) (bytes_other cell.label l apart)

pub all_skipped : (cell : Cell) (cells : List Cell) (ls : List Label) → (OneOf (λ other. other ≡ cell.label) ls → ⊥)
    → map (λ l. cell_with l (cell_in (cell ∷ cells) l)) ls ≡ map (λ l. cell_with l (cell_in cells l)) ls
all_skipped cell cells [] apart = refl
all_skipped cell cells (l ∷ ls) apart =
    ap₂ (λ c cs. c ∷ cs) (ap (cell_with l) (cell_skipped cell cells l (λ same. apart (inl (sym same))))) (all_skipped cell cells ls (λ among. apart (inr among)))

cells_at : (cells : List Cell) → AreDistinct (cell_labels cells) → map (λ l. cell_with l (cell_in cells l)) (cell_labels cells) ≡ cells
cells_at [] distinct = refl
cells_at (cell ∷ cells) distinct =
    ap₂ (λ c cs. c ∷ cs) (ap (λ b. cell_with cell.label (if b then cell.value else cell_in cells cell.label)) (bytes_itself cell.label))
    (all_skipped cell cells (cell_labels cells) distinct.0 ∙ cells_at cells distinct.1)

pub at_own_labels : (ls : List Label) (r : Row) → row_labels r ≡ ls → IsRecord r → at_labels ls r ≡ r
at_own_labels ls r same distinct = ap (λ ls. at_labels ls r) (sym same) ∙ ap row_with (cells_at r.cells distinct)
