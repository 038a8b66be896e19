-- Values of flat types as captured ones: each is of the kind that is told of its type, field by field.
use Rattle.std.proofs.Common.{◌≡◌, inl, inr, refl, sym, ap, ap₂, ◌∙◌, subst, Bool, true, false, ◌&&◌, ◌||◌, List, [], ◌∷◌, map, Some, bytes_eq, if◌then◌else◌}
use Rattle.std.specs.Cmp.Lexicographic.{bytes_decides}
use Rattle.std.specs.List.{list_all}
use Rattle.std.specs.Cmp.{first_so, second_so}
use Rattle.lk_ast.specs.Tables.{cells_fit, is_of_kind}
use Rattle.lk_ast.specs.declared.declaration.Program.{Program}
use Rattle.lk_ast.specs.declared.table.BaseKind.{BaseKind}
use Rattle.lk_ast.specs.declared.table.Cell.{Cell}
use Rattle.lk_ast.specs.declared.value.Field.{Field}
use Rattle.lk_ast.specs.declared.value.Value.{Value}
use Rattle.lk_ast.specs.declared.value.Value.TheVariants as value
use Rattle.lk_bodies.specs.Captured.{captured_as}
use Rattle.lk_bodies.specs.Shapes.{column, columns_of, kind_of}
use Rattle.lk_ground_types.specs.Shapes.{is_base, is_flat, is_flat_row}
use Rattle.lk_inline.proofs.BlockValues.{columns_are, kind_same}
use Rattle.lk_locals.specs.Names.{Names, lookup, lookup_all, with_value}
use Rattle.lk_query.specs.Captured.{AreCaptured, IsCaptured}
use Rattle.lk_query.specs.Given.{cell_with, row_with}
use Rattle.lk_query.specs.declared.query.Captured.TheVariants as captured
use Rattle.lk_sound.proofs.FlatTypes.{IsFlatRow, base_is, flat_row_is}
use Rattle.lk_sound.proofs.Names.{IsAmong}
use Rattle.lk_sound.proofs.Shapes.{IsRecord, fits_fields}
use Rattle.lk_sound.proofs.TableRows.{IsBaseOf, base_of_fits, cell_fields}
use Rattle.lk_sound.specs.Instances.{Instances}
use Rattle.lk_sound.specs.Values.{Fits, FieldsFit, field}
use Rattle.lk_types.specs.Each.{Each}
use Rattle.lk_types.specs.Rows.{Label}
use Rattle.lk_types.specs.declared.ground.Ground.{Ground}
use Rattle.lk_types.specs.declared.ground.GroundField.{GroundField}
use Rattle.lk_typing.specs.Names.{Named, named, names_of, types_of}
use Rattle.lk_typing.specs.Types as types

all_hold : (a b c : Bool) → a ≡ true → b ≡ true → c ≡ true → ((a && b) && c) ≡ true
all_hold true b c first second third = ap (λ x. x && c) second ∙ third
all_hold false b c first second third = absurd cc

-- each of these names that has a type has a value of it
abbrev pub HaveTheirs : Program → Instances → Named Ground → Names → List Label → Type 0
HaveTheirs p i locals names xs = (x : Label) → IsAmong x xs → (t : Ground) → named x locals ≡ Some t → (v : Value) × (lookup names x ≡ Some v) × Fits p i v t

module _ (p : Program) (i : Instances) where
  -- ---- one value

  base_captured : (t : Ground) (v : Value) → is_base t ≡ true → Fits p i v t → IsCaptured (captured.Base (kind_of t)) v
  base_captured t v is fits =
      let k : (k : BaseKind) × (t ≡ types.base k) = base_is t is in
      let held : IsBaseOf p i k.0 v = base_of_fits p i k.0 v (subst (λ u. Fits p i v u) k.1 fits) in
      (held.base, held.is, subst (λ kind. is_of_kind kind held.base ≡ true) (sym (ap kind_of k.1 ∙ kind_same k.0)) held.of_kind)

  -- the fields are cells of these columns
  record AreCells (gs : List GroundField) (fs : List Field) : Type 0 where
    cells : List Cell
    are : fs ≡ cell_fields cells
    fit : cells_fit (map column gs) cells ≡ true

  fields_captured : (gs : List GroundField) → list_all (λ (g : GroundField). is_base g.ty) gs ≡ true → (fs : List Field) → FieldsFit p i fs gs → AreCells gs fs
  fields_captured [] flat [] fits = record { cells = []; are = refl; fit = refl }
  fields_captured [] flat (f ∷ fs) fits = elim fits [ ]
  fields_captured (g ∷ gs) flat [] fits = elim fits [ ]
  fields_captured (g ∷ gs) flat (f ∷ fs) (field same fit fits) =
      let one : IsCaptured (captured.Base (kind_of g.ty)) f.value = base_captured g.ty f.value (first_so (is_base g.ty) _ flat) fit in
      let rest : AreCells gs fs = fields_captured gs (second_so (is_base g.ty) _ flat) fs fits in
      record {
        cells = cell_with g.label one.0 ∷ rest.cells;
        are = λ j. record { label = same j; value = one.1 j } ∷ rest.are j;
        fit = all_hold (bytes_eq g.label g.label) (is_of_kind (kind_of g.ty) one.0) (cells_fit (map column gs) rest.cells) ((bytes_decides g.label g.label).1 refl) one.2 rest.fit;
      }

  row_captured : (t : Ground) (v : Value) → is_flat_row t ≡ true → Fits p i v t → IsCaptured (captured.Row (columns_of t)) v
  row_captured t v is fits =
      let flat : IsFlatRow t = flat_row_is t is in
      let inner : IsRecord p i v flat.fields = fits_fields p i v flat.fields (subst (λ u. Fits p i v u) flat.is fits) in
      let found : AreCells flat.fields inner.fs = fields_captured flat.fields flat.flat inner.fs inner.fit in
      let columns : columns_of t ≡ map column flat.fields = ap columns_of flat.is ∙ columns_are flat.fields in
      (row_with found.cells, inner.is ∙ ap (λ fs. value.Fields fs) found.are, subst (λ cs. cells_fit cs found.cells ≡ true) (sym columns) found.fit)

  flat_captured : (t : Ground) (v : Value) → is_flat t ≡ true → Fits p i v t → IsCaptured (captured_as t) v
  flat_captured t v flat fits = by_base (is_base t) refl flat
    where
      by_base : (b : Bool) → is_base t ≡ b → (b || is_flat_row t) ≡ true → IsCaptured (if b then captured.Base (kind_of t) else captured.Row (columns_of t)) v
      by_base true is flat = base_captured t v is fits
      by_base false is flat = row_captured t v flat fits

  -- ---- the values of names

  -- these have values, each of the kind that is told of its type
  pub record HaveValues (names : Names) (kept : Named Ground) : Type 0 where
    pub args : List Value
    pub found : lookup_all names (names_of kept) ≡ Some args
    pub are : AreCaptured (map captured_as (types_of kept)) args

  -- where each of them has a value of its type
  pub values_captured : (locals : Named Ground) (names : Names) (kept : Named Ground) → HaveTheirs p i locals names (names_of kept) → Each (λ (e : Label × Ground). named e.0 locals ≡ Some e.1) kept → Each (λ t. is_flat t ≡ true) (types_of kept) → HaveValues names kept
  values_captured locals names [] fit entries flat = record { args = []; found = refl; are = tt }
  values_captured locals names (e ∷ kept) fit entries flat =
      let one : (v : Value) × (lookup names e.0 ≡ Some v) × Fits p i v e.1 = fit e.0 (inl refl) e.1 entries.0 in
      let rest : HaveValues names kept = values_captured locals names kept (λ x among. fit x (inr among)) entries.1 flat.1 in
      record { args = one.0 ∷ rest.args; found = ap₂ with_value one.1 rest.found; are = (flat_captured e.1 one.0 flat.0 one.2, rest.are) }
