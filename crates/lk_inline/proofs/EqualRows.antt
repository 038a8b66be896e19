-- That records are equal at each label stands for that they are the same.
use Rattle.std.proofs.Common.{◌≡◌, refl, sym, ap, ap₂, subst, ◌∙◌, Bool, true, false, ◌&&◌, List, [], ◌∷◌, map, Option, Some, None, inl, inr, if◌then◌else◌, bytes_eq}
use Rattle.std.specs.Bool.{⊤}
use Rattle.std.specs.List.{list_all}
use Rattle.std.specs.Ordering.{is_eq}
use Rattle.std.specs.Cmp.{first_so, second_so}
use Rattle.lk_ast.specs.BaseOrder.{base_cmp}
use Rattle.lk_ast.specs.Rows.{row_value}
use Rattle.lk_ast.specs.declared.declaration.Program.{Program}
use Rattle.lk_ast.specs.declared.expression.Expr.{Expr}
use Rattle.lk_ast.specs.declared.expression.Node.TheOpen.{Node-F}
use Rattle.lk_ast.specs.declared.table.Base.TheVariants as base
use Rattle.lk_ast.specs.declared.table.Base.{Base}
use Rattle.lk_ast.specs.declared.table.Cell.{Cell}
use Rattle.lk_ast.specs.declared.table.Row.{Row}
use Rattle.lk_ast.specs.declared.value.Field.{Field, fold-Field, fold_out-Field}
use Rattle.lk_ast.specs.declared.value.Value.TheFolds.{fold-roll-Value}
use Rattle.lk_ast.specs.declared.value.Value.TheOpen.{Field-F, Value-F}
use Rattle.lk_ast.specs.declared.value.Value.TheVariants as value
use Rattle.lk_ast.specs.declared.value.Value.{Value, roll-Value}
use Rattle.lk_bag.specs.Bag.{value_of}
use Rattle.lk_bodies.specs.Shapes.{columns_of, labels}
use Rattle.lk_ground_types.specs.Shapes.{is_base, is_flat_row}
use Rattle.lk_inline.proofs.OperatorValues.{same_bases}
use Rattle.lk_inline.proofs.RowLabels.{cell_labels, cell_skipped, cells_fit, row_fits_labels}
use Rattle.lk_inline.proofs.Standing.{base_stands, bool_is}
use Rattle.lk_inline.specs.Stands.{AreDistinct, Stands, row_labels}
use Rattle.lk_operators.specs.Operators.{operated}
use Rattle.lk_operators.specs.Order.{all_pass, in_order, same, same_fields}
use Rattle.lk_operators.specs.Values.{base_in, fields_in, list_in, tag_in}
use Rattle.lk_query.specs.Given.{Given, equal_from, equal_rows, of_base}
use Rattle.lk_sound.proofs.FlatTypes.{IsFlatRow, flat_row_is}
use Rattle.lk_sound.proofs.Shapes.{fields_shown}
use Rattle.lk_sound.proofs.TableRows.{cell_fields, bytes_itself}
use Rattle.lk_sound.specs.Instances.{Instances}
use Rattle.lk_sound.specs.Values.{Fits, FieldsFit, field}
use Rattle.lk_sql.specs.Meaning.{cell_in}
use Rattle.lk_types.specs.Each.{OneOf}
use Rattle.lk_types.specs.Rows.{Label}
use Rattle.lk_types.specs.declared.ground.Ground.TheVariants as known
use Rattle.lk_types.specs.declared.ground.Ground.{Ground}
use Rattle.lk_types.specs.declared.ground.GroundField.{GroundField}

-- ---- records are the same where their fields are

abbrev passes : {A : Type 0} → (A → Bool) → Option A → Bool
passes test None = false
passes test (Some x) = test x

abbrev level : Value-F (Value → Bool) (Field → Bool) ⊤ → Value → Bool
level (Value-F.Base b) v = passes (in_order is_eq b) (base_in v)
level (Value-F.List parts) v = passes (all_pass parts) (list_in v)
level (Value-F.Fields parts) v = passes (all_pass parts) (fields_in v)
level (Value-F.Tag t part) v = passes (λ (x : Label × Value). bytes_eq t x.0 && part x.1) (tag_in v)
level (Value-F.Fun fun) v = false

abbrev field_level : Field-F (Value → Bool) (Field → Bool) ⊤ → Field → Bool
field_level f g = bytes_eq f.label g.label && f.value g.value

abbrev of_field : Field → Field → Bool
of_field = fold-Field (Value → Bool) (Field → Bool) ⊤ level field_level (λ fun. tt)

all_fields : (fs : List Field) → map of_field fs ≡ map same_fields fs
all_fields [] = refl
all_fields (f ∷ fs) = ap₂ (λ a b. a ∷ b) (fold_out-Field (Value → Bool) (Field → Bool) ⊤ level field_level (λ fun. tt) f) (all_fields fs)

same_records : (fs gs : List Field) → same (value.Fields fs) (value.Fields gs) ≡ all_pass (map same_fields fs) gs
same_records fs gs =
    let w : Value = value.Fields gs in
    let first : same (value.Fields fs) w ≡ same (roll-Value (Value-F.Fields fs)) w = sym (ap (λ v. same v w) (value.rolls-Fields fs)) in
    let second : same (roll-Value (Value-F.Fields fs)) w ≡ passes (all_pass (map of_field fs)) (fields_in w) = ap (λ f. f w) (fold-roll-Value (Value → Bool) (Field → Bool) ⊤ level field_level (λ fun. tt) (Value-F.Fields fs)) in
    first ∙ second ∙ ap₂ (λ tests found. passes (all_pass tests) found) (all_fields fs) (fields_shown gs)

-- the first cells have the same value, and so on
abbrev all_equal : List Cell → List Cell → Bool
all_equal [] [] = true
all_equal (c ∷ cs) (d ∷ ds) = is_eq (base_cmp c.value d.value) && all_equal cs ds
all_equal cs ds = false

module _ (p : Program) (i : Instances) where
  fields_equal : (gs : List GroundField) → list_all (λ (f : GroundField). is_base f.ty) gs ≡ true → (cs ds : List Cell) → FieldsFit p i (cell_fields cs) gs → FieldsFit p i (cell_fields ds) gs
      → all_pass (map same_fields (cell_fields cs)) (cell_fields ds) ≡ all_equal cs ds
  fields_equal [] flat [] [] one other = refl
  fields_equal [] flat [] (d ∷ ds) one other = elim other [ ]
  fields_equal [] flat (c ∷ cs) ds one other = elim one [ ]
  fields_equal (g ∷ gs) flat [] ds one other = elim one [ ]
  fields_equal (g ∷ gs) flat (c ∷ cs) [] one other = elim other [ ]
  fields_equal (g ∷ gs) flat (c ∷ cs) (d ∷ ds) (field first fits one) (field second also other) =
      let labelled : bytes_eq c.label d.label ≡ true = ap (bytes_eq c.label) (second ∙ sym first) ∙ bytes_itself c.label in
      let held_same : same (value.Base c.value) (value.Base d.value) ≡ is_eq (base_cmp c.value d.value) = same_bases p i g.ty (first_so (is_base g.ty) _ flat) _ _ c.value d.value fits also refl refl in
      ap₂ (λ x y. (x && y) && all_pass (map same_fields (cell_fields cs)) (cell_fields ds)) labelled held_same
      ∙ ap (λ x. is_eq (base_cmp c.value d.value) && x) (fields_equal gs (second_so (is_base g.ty) _ flat) cs ds one other)

-- ---- equal at each label

abbrev all_at : List Cell → List Cell → List Label → Bool
all_at cs ds [] = true
all_at cs ds (l ∷ ls) = is_eq (base_cmp (cell_in cs l) (cell_in ds l)) && all_at cs ds ls

with_true : (b : Bool) → b ≡ (b && true)
with_true true = refl
with_true false = refl

grouped : (a b c : Bool) → ((a && b) && c) ≡ (a && (b && c))
grouped true b c = refl
grouped false b c = refl

equal_from_is : (b : Bool) (r s : Row) (ls : List Label) → equal_from (base.Bool b) r s ls ≡ base.Bool (b && all_at r.cells s.cells ls)
equal_from_is b r s [] = ap base.Bool (with_true b)
equal_from_is b r s (l ∷ ls) =
    let here : Bool = is_eq (base_cmp (cell_in r.cells l) (cell_in s.cells l)) in
    equal_from_is (b && here) r s ls ∙ ap base.Bool (grouped b here (all_at r.cells s.cells ls))

equal_rows_is : (r s : Row) (ls : List Label) → equal_rows ls r s ≡ base.Bool (all_at r.cells s.cells ls)
equal_rows_is r s [] = refl
equal_rows_is r s (l ∷ ls) = equal_from_is (is_eq (base_cmp (cell_in r.cells l) (cell_in s.cells l))) r s ls

cell_here : (cell : Cell) (cells : List Cell) (l : Label) → cell.label ≡ l → cell_in (cell ∷ cells) l ≡ cell.value
cell_here cell cells l is = ap (λ b. if b then cell.value else cell_in cells l) (ap (λ k. bytes_eq k l) is ∙ bytes_itself l)

-- first cells with a label that is none of these say nothing
both_skipped : (l : Label) (c d : Cell) (cs ds : List Cell) (ls : List Label) → c.label ≡ l → d.label ≡ l → (OneOf (λ other. other ≡ l) ls → ⊥) → all_at (c ∷ cs) (d ∷ ds) ls ≡ all_at cs ds ls
both_skipped l c d cs ds [] first second apart = refl
both_skipped l c d cs ds (k ∷ ls) first second apart =
    ap₂ (λ x y. x && y)
    (ap₂ (λ x y. is_eq (base_cmp x y)) (cell_skipped c cs k (λ same. apart (inl (sym same ∙ first)))) (cell_skipped d ds k (λ same. apart (inl (sym same ∙ second)))))
    (both_skipped l c d cs ds ls first second (λ among. apart (inr among)))

cells_equal : (ls : List Label) → AreDistinct ls → (cs ds : List Cell) → cell_labels cs ≡ ls → cell_labels ds ≡ ls → all_at cs ds ls ≡ all_equal cs ds
cells_equal [] distinct [] [] one other = refl
cells_equal [] distinct [] (d ∷ ds) one other = absurd cc
cells_equal [] distinct (c ∷ cs) ds one other = absurd cc
cells_equal (l ∷ ls) distinct [] ds one other = absurd cc
cells_equal (l ∷ ls) distinct (c ∷ cs) [] one other = absurd cc
cells_equal (l ∷ ls) distinct (c ∷ cs) (d ∷ ds) one other =
    let first : c.label ≡ l = cc in
    let second : d.label ≡ l = cc in
    let left : cell_labels cs ≡ ls = cc in
    let right : cell_labels ds ≡ ls = cc in
    ap₂ (λ x y. x && y) (ap₂ (λ x y. is_eq (base_cmp x y)) (cell_here c cs l first) (cell_here d ds l second)) (both_skipped l c d cs ds ls first second distinct.0 ∙ cells_equal ls distinct.1 cs ds left right)

module _ (p : Program) (i : Instances) where
  -- two records of a flat type are the same where they are equal at each label
  rows_same : (t : Ground) → is_flat_row t ≡ true → (v w : Value) (g h : Given) → Fits p i v t → Fits p i w t → Stands t v g → Stands t w h
      → base.Bool (same v w) ≡ equal_rows (labels (columns_of t)) g.row h.row
  rows_same t is v w g h one other first second =
      let flat : IsFlatRow t = flat_row_is t is in
      let ls : List Label = labels (columns_of t) in
      let left : row_labels g.row ≡ ls = row_fits_labels p i t is v g.row one (first.row is) in
      let right : row_labels h.row ≡ ls = row_fits_labels p i t is w h.row other (second.row is) in
      let distinct : AreDistinct ls = subst AreDistinct left (first.record_of is) in
      let fits : Fits p i (row_value g.row) (known.Fields flat.fields) = subst (Fits p i (row_value g.row)) flat.is (subst (λ x. Fits p i x t) (first.row is) one) in
      let also : Fits p i (row_value h.row) (known.Fields flat.fields) = subst (Fits p i (row_value h.row)) flat.is (subst (λ x. Fits p i x t) (second.row is) other) in
      let by_fields : same v w ≡ all_equal g.row.cells h.row.cells =
      ap₂ same (first.row is) (second.row is) ∙ same_records (cell_fields g.row.cells) (cell_fields h.row.cells)
      ∙ fields_equal p i flat.fields flat.flat g.row.cells h.row.cells (cells_fit p i flat.fields g.row fits) (cells_fit p i flat.fields h.row also) in
      ap base.Bool (by_fields ∙ sym (cells_equal ls distinct g.row.cells h.row.cells left right)) ∙ sym (equal_rows_is g.row h.row ls)

  pub equal_rows_stand : (a b : Expr) (t : Ground) → is_flat_row t ≡ true → (v w : Value) (g h : Given) → Fits p i v t → Fits p i w t → Stands t v g → Stands t w h
      → Stands known.Bool (value_of (operated (Node-F.Eq a b) (v ∷ w ∷ []))) (of_base (equal_rows (labels (columns_of t)) g.row h.row))
  equal_rows_stand a b t is v w g h one other first second =
      base_stands known.Bool _ (equal_rows (labels (columns_of t)) g.row h.row) bool_is (ap value.Base (rows_same t is v w g h one other first second))
