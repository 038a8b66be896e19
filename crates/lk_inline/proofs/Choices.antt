-- What choices give stands for what is chosen.
use Rattle.std.proofs.Common.{◌≡◌, refl, sym, ap, subst, ◌∙◌, Bool, true, false, ◌&&◌, ◌||◌, List, [], ◌∷◌, Option, Some, if◌then◌else◌}
use Rattle.lk_ast.specs.Rows.{row_value, rows_value}
use Rattle.lk_ast.specs.declared.declaration.Program.{Program}
use Rattle.lk_ast.specs.declared.table.Base.TheVariants as base
use Rattle.lk_ast.specs.declared.table.Base.{Base}
use Rattle.lk_ast.specs.declared.table.Row.{Row}
use Rattle.lk_ast.specs.declared.value.Value.TheVariants as value
use Rattle.lk_ast.specs.declared.value.Value.{Value}
use Rattle.lk_bag.specs.Bag.{chosen}
use Rattle.lk_bodies.specs.Shapes.{columns_of, labels}
use Rattle.lk_ground_types.specs.Shapes.{are_rows, is_base, is_flat_row}
use Rattle.lk_inline.proofs.OperatorValues.{bool_in_given}
use Rattle.lk_inline.proofs.RowLabels.{at_own_labels, row_fits_labels}
use Rattle.lk_inline.proofs.Standing.{base_stands, bool_given, bool_is, row_stands, rows_stand}
use Rattle.lk_inline.specs.Stands.{IsRecord, Stands, row_labels}
use Rattle.lk_operators.specs.Values as held
use Rattle.lk_operators.specs.Values.{bool_in}
use Rattle.lk_query.specs.Given.{Given, at_labels, of_base, of_list, of_row}
use Rattle.lk_sound.specs.Instances.{Instances}
use Rattle.lk_sound.specs.Values.{Fits}
use Rattle.lk_sql.specs.Operations.{operation, truth}
use Rattle.lk_sql.specs.declared.tree.SqlOp.TheVariants as op
use Rattle.lk_types.specs.Each.{Each}
use Rattle.lk_types.specs.declared.ground.Ground.TheVariants as known
use Rattle.lk_types.specs.declared.ground.Ground.{Ground}

-- a choice of things is that of what they are made of
pub chosen_is : {A : Type 0} (f : A → Value) (o : Option Bool) (b : Bool) (v w : Value) (x y : A) → o ≡ Some b → v ≡ f x → w ≡ f y → chosen o v w ≡ f (if b then x else y)
chosen_is f o b v w x y is first second = ap (λ o. chosen o v w) is ∙ by_test b
  where
    by_test : (b : Bool) → chosen (Some b) v w ≡ f (if b then x else y)
    by_test true = first
    by_test false = second

either : {A : Type 0} (P : A → Type 0) (b : Bool) (x y : A) → P x → P y → P (if b then x else y)
either P true x y first second = first
either P false x y first second = second

module _ (p : Program) (i : Instances) where
  -- ---- truth values

  truth_shown : (v : Value) (g : Given) → Fits p i v known.Bool → Stands known.Bool v g → v ≡ held.truth (truth g.base)
  truth_shown v g fits stands =
      let found : (b : Bool) × (g.base ≡ base.Bool b) = bool_given p i v g fits stands in
      stands.base bool_is ∙ ap value.Base found.1 ∙ ap (λ b. held.truth (truth b)) (sym found.1)

  and_is : (b c : Bool) → (if b then c else false) ≡ (b && c)
  and_is true c = refl
  and_is false c = refl

  or_is : (b c : Bool) → (if b then true else c) ≡ (b || c)
  or_is true c = refl
  or_is false c = refl

  pub and_stands : (v w : Value) (g h : Given) → Fits p i v known.Bool → Fits p i w known.Bool → Stands known.Bool v g → Stands known.Bool w h
      → Stands known.Bool (chosen (bool_in v) w (held.truth false)) (of_base (operation op.And (g.base ∷ h.base ∷ [])))
  and_stands v w g h one other first second =
      base_stands known.Bool _ (base.Bool (truth g.base && truth h.base)) bool_is
      (chosen_is held.truth (bool_in v) (truth g.base) w (held.truth false) (truth h.base) false (bool_in_given p i v g one first) (truth_shown w h other second) refl
      ∙ ap held.truth (and_is (truth g.base) (truth h.base)))

  pub or_stands : (v w : Value) (g h : Given) → Fits p i v known.Bool → Fits p i w known.Bool → Stands known.Bool v g → Stands known.Bool w h
      → Stands known.Bool (chosen (bool_in v) (held.truth true) w) (of_base (operation op.Or (g.base ∷ h.base ∷ [])))
  or_stands v w g h one other first second =
      base_stands known.Bool _ (base.Bool (truth g.base || truth h.base)) bool_is
      (chosen_is held.truth (bool_in v) (truth g.base) (held.truth true) w true (truth h.base) (bool_in_given p i v g one first) refl (truth_shown w h other second)
      ∙ ap held.truth (or_is (truth g.base) (truth h.base)))

  -- ---- choices by the type of what is chosen

  pub choice_base_stands : (t : Ground) → is_base t ≡ true → (c v w : Value) (gc g h : Given) → Fits p i c known.Bool → Stands known.Bool c gc → Stands t v g → Stands t w h
      → Stands t (chosen (bool_in c) v w) (of_base (if truth gc.base then g.base else h.base))
  choice_base_stands t is c v w gc g h fits test first second =
      base_stands t _ (if truth gc.base then g.base else h.base) is (chosen_is value.Base (bool_in c) (truth gc.base) v w g.base h.base (bool_in_given p i c gc fits test) (first.base is) (second.base is))

  pub choice_rows_stand : (t : Ground) → are_rows t ≡ true → (c v w : Value) (gc g h : Given) → Fits p i c known.Bool → Stands known.Bool c gc → Stands t v g → Stands t w h
      → Stands t (chosen (bool_in c) v w) (of_list (if truth gc.base then g.list else h.list))
  choice_rows_stand t are c v w gc g h fits test first second =
      rows_stand t _ (if truth gc.base then g.list else h.list) are
      (chosen_is rows_value (bool_in c) (truth gc.base) v w g.list h.list (bool_in_given p i c gc fits test) (first.rows are) (second.rows are))
      (either (Each IsRecord) (truth gc.base) g.list h.list (first.records_of are) (second.records_of are))

  pub choice_row_stands : (t : Ground) → is_flat_row t ≡ true → (c v w : Value) (gc g h : Given) → Fits p i c known.Bool → Fits p i v t → Fits p i w t → Stands known.Bool c gc → Stands t v g → Stands t w h
      → Stands t (chosen (bool_in c) v w) (of_row (at_labels (labels (columns_of t)) (if truth gc.base then g.row else h.row)))
  choice_row_stands t is c v w gc g h fits one other test first second =
      let row : Row = if truth gc.base then g.row else h.row in
      let has : IsRecord row = either IsRecord (truth gc.base) g.row h.row (first.record_of is) (second.record_of is) in
      let labelled : row_labels row ≡ labels (columns_of t) = either (λ r. row_labels r ≡ labels (columns_of t)) (truth gc.base) g.row h.row (row_fits_labels p i t is v g.row one (first.row is)) (row_fits_labels p i t is w h.row other (second.row is)) in
      subst (λ r. Stands t (chosen (bool_in c) v w) (of_row r)) (sym (at_own_labels (labels (columns_of t)) row labelled has))
      (row_stands t _ row is (chosen_is row_value (bool_in c) (truth gc.base) v w g.row h.row (bool_in_given p i c gc fits test) (first.row is) (second.row is)) has)

  -- a list only where a condition holds
  pub where_stands : (a : Ground) → are_rows (known.List a) ≡ true → (c v : Value) (gc g : Given) → Fits p i c known.Bool → Stands known.Bool c gc → Stands (known.List a) v g
      → Stands (known.List a) (chosen (bool_in c) v (value.List [])) (of_list (if truth gc.base then g.list else []))
  where_stands a are c v gc g fits test first =
      rows_stand (known.List a) _ (if truth gc.base then g.list else []) are
      (chosen_is rows_value (bool_in c) (truth gc.base) v (value.List []) g.list [] (bool_in_given p i c gc fits test) (first.rows are) refl)
      (either (Each IsRecord) (truth gc.base) g.list [] (first.records_of are) tt)
