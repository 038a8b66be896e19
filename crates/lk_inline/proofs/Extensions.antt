-- What records with more fields give stands for what they come to.
use Rattle.std.proofs.Common.{◌≡◌, refl, sym, ap, ap₂, subst, ◌∙◌, ℕ, ◌==◌, Bool, true, false, List, [], ◌∷◌, ◌++◌, map, length, drop, if◌then◌else◌, arith}
use Rattle.std.proofs.lemmas.Bool.Decides.{Decides-eqb}
use Rattle.std.proofs.lemmas.List.{append-nil}
use Rattle.std.specs.FinMap as fin
use Rattle.std.specs.Option.{option_or}
use Rattle.lk_ast.specs.Rows.{row_value}
use Rattle.lk_ast.specs.Tables.{Tables}
use Rattle.lk_ast.specs.declared.declaration.Program.{Program}
use Rattle.lk_ast.specs.declared.expression.Expr.{Expr}
use Rattle.lk_ast.specs.declared.expression.Node.TheOpen.{Node-F}
use Rattle.lk_ast.specs.declared.expression.PartExpr.{PartExpr}
use Rattle.lk_ast.specs.declared.table.Cell.{Cell}
use Rattle.lk_ast.specs.declared.value.Field.{Field}
use Rattle.lk_ast.specs.declared.value.Value.TheVariants as value
use Rattle.lk_ast.specs.declared.value.Value.{Value}
use Rattle.lk_bag.specs.Bag.{value_of}
use Rattle.lk_bodies.specs.Shapes.{columns_of, labels}
use Rattle.lk_bodies.specs.Walk as walk
use Rattle.lk_ground_types.specs.Shapes.{is_flat_row, row_level}
use Rattle.lk_inline.proofs.PutFields.{AreNew, each_found, fields_by, found_by, got_new, or_none, put_both, sorted_distinct, split_new}
use Rattle.lk_inline.proofs.RowLabels.{cell_labels, row_fits_labels, same_fields_in}
use Rattle.lk_inline.proofs.Standing.{row_stands}
use Rattle.lk_inline.specs.Stands.{AreDistinct, IsRecord, Stands}
use Rattle.lk_operators.specs.Operators.{operated}
use Rattle.lk_operators.specs.Outcomes.{given, only}
use Rattle.lk_operators.specs.Records as made
use Rattle.lk_operators.specs.Records.{Entries, entries_of, fields_in_order, value_under}
use Rattle.lk_operators.specs.Values as values
use Rattle.lk_operators.specs.Values.{fields_in}
use Rattle.lk_operators.specs.declared.outcome.Outcome.TheVariants as outcome
use Rattle.lk_query.specs.Given.{Given, Gives, Values, cell_or, cell_with, cells_given, extended, of_row, row_with}
use Rattle.lk_sound.proofs.FlatTypes.{IsFlatRow, flat_row_is}
use Rattle.lk_sound.proofs.Shapes as shapes
use Rattle.lk_sound.proofs.Shapes.{fields_shown, fits_fields}
use Rattle.lk_sound.proofs.TableRows.{cell_fields}
use Rattle.lk_sound.specs.Instances.{Instances}
use Rattle.lk_sound.specs.Values.{FieldsFit, Fits}
use Rattle.lk_sql.specs.Meaning.{no_cells}
use Rattle.lk_types.specs.Rows.{Label, label_order}
use Rattle.lk_types.specs.declared.ground.Ground.TheVariants as known
use Rattle.lk_types.specs.declared.ground.Ground.{Ground}
use Rattle.lk_types.specs.declared.ground.GroundField.{GroundField}

-- ---- cells of labels with bases

-- the first label with the first base, and so on
abbrev pub cells_under : List Label → List Given → List Cell
cells_under [] gs = []
cells_under (l ∷ ls) [] = []
cells_under (l ∷ ls) (g ∷ gs) = cell_with l g.base ∷ cells_under ls gs

pub cells_are : (tables : Tables) (own : ℕ → Gives) (names : Values) (ls : List Label) (numbers : List ℕ)
    → cells_given tables own (walk.labelled ls numbers) names ≡ cells_under ls (map (λ n. own n names) numbers)
cells_are tables own names [] numbers = refl
cells_are tables own names (l ∷ ls) [] = refl
cells_are tables own names (l ∷ ls) (n ∷ numbers) = ap (λ cells. cell_with l (own n names).base ∷ cells) (cells_are tables own names ls numbers)

abbrev pub part_labels : List PartExpr → List Label
part_labels parts = map (λ (part : PartExpr). part.label.text) parts

-- values are the bases that are given, one by one
abbrev pub AreBases : List Value → List Given → Type 0
AreBases [] [] = Unit {0}
AreBases (v ∷ vs) (g ∷ gs) = (v ≡ value.Base g.base) × AreBases vs gs
AreBases vs gs = ⊥

labelled_none : (vs : List Value) → made.labelled [] vs ≡ []
labelled_none [] = refl
labelled_none (v ∷ vs) = refl

labelled_cells : (parts : List PartExpr) (vs more : List Value) (gs : List Given) → length parts ≡ length vs → AreBases vs gs → made.labelled parts (vs ++ more) ≡ cell_fields (cells_under (part_labels parts) gs)
labelled_cells [] [] more gs many are = labelled_none more
labelled_cells [] (v ∷ vs) more gs many are = absurd (omega arith)
labelled_cells (part ∷ parts) [] more gs many are = absurd (omega arith)
labelled_cells (part ∷ parts) (v ∷ vs) more [] many are = absurd are
labelled_cells (part ∷ parts) (v ∷ vs) more (g ∷ gs) many are =
    ap₂ (λ v fs. values.field part.label.text v ∷ fs) are.0 (labelled_cells parts vs more gs (omega arith) are.1)

behind_all : (parts : List PartExpr) (vs : List Value) (w : Value) → length parts ≡ length vs → drop (length parts) (vs ++ w ∷ []) ≡ w ∷ []
behind_all [] [] w many = refl
behind_all [] (v ∷ vs) w many = absurd (omega arith)
behind_all (part ∷ parts) [] w many = absurd (omega arith)
behind_all (part ∷ parts) (v ∷ vs) w many = behind_all parts vs w (omega arith)

-- ---- a record of all fields

labels_at : (cell_at : Label → Cell) → ((l : Label) → (cell_at l).label ≡ l) → (ls : List Label) → cell_labels (map cell_at ls) ≡ ls
labels_at cell_at same [] = refl
labels_at cell_at same (l ∷ ls) = ap₂ (λ l ls. l ∷ ls) (same l) (labels_at cell_at same ls)

module _ (p : Program) (i : Instances) where
  -- the unit value is in no flat record type
  no_fields_left : (gs : List GroundField) → is_flat_row (known.Fields gs) ≡ true → FieldsFit p i [] gs → ⊥
  no_fields_left [] is fit = let wrong : false ≡ true = sym (ap row_level (known.outs-Fields [])) ∙ is in cc
  no_fields_left (g ∷ gs) is fit = elim fit [ ]

  unit_no_row : (t : Ground) → is_flat_row t ≡ true → Fits p i values.unit t → ⊥
  unit_no_row t is fits =
      let flat : IsFlatRow t = flat_row_is t is in
      let found : shapes.IsRecord p i values.unit flat.fields = fits_fields p i values.unit flat.fields (subst (Fits p i values.unit) flat.is fits) in
      no_fields_left flat.fields (subst (λ t. is_flat_row t ≡ true) flat.is is) (subst (λ fs. FieldsFit p i fs flat.fields) (sym (same_fields_in [] found.fs found.is)) found.fit)

  -- where a record comes out, no label was there twice
  made_is : (fs : List Field) (t : Ground) → is_flat_row t ≡ true → Fits p i (value_of (made.record_of fs)) t → AreNew fin.empty fs × (value_of (made.record_of fs) ≡ value.Fields (fields_in_order (entries_of fs)))
  made_is fs t is fits = by_test (fin.len (entries_of fs) == length fs) refl fits
    where
      by_test : (b : Bool) → (fin.len (entries_of fs) == length fs) ≡ b → Fits p i (value_of (if b then outcome.Value (values.fields (fields_in_order (entries_of fs))) else outcome.NoRule)) t
          → AreNew fin.empty fs × (value_of (if b then outcome.Value (values.fields (fields_in_order (entries_of fs))) else outcome.NoRule) ≡ value.Fields (fields_in_order (entries_of fs)))
      by_test true many fits =
          let same : fin.len (entries_of fs) ≡ length fs = (Decides-eqb (fin.len (entries_of fs)) (length fs)).0 many in
          let none : fin.len (fin.empty {X = Value} {R = label_order}) ≡ 0 = fin.len-empty label_order Value in
          (omega arith, refl)
      by_test false many fits = absurd (unit_no_row t is fits)

  -- fields of a record with bases under more labels
  built_row : (cells rest : List Cell) (t : Ground) → is_flat_row t ≡ true → Fits p i (value_of (made.record_of (cell_fields rest ++ cell_fields cells))) t
      → (value_of (made.record_of (cell_fields rest ++ cell_fields cells)) ≡ row_value (extended (labels (columns_of t)) cells (row_with rest))) × IsRecord (extended (labels (columns_of t)) cells (row_with rest))
  built_row cells rest t is fits =
      let v : Value = value_of (made.record_of (cell_fields rest ++ cell_fields cells)) in
      let m : Entries = entries_of (cell_fields rest ++ cell_fields cells) in
      let found : AreNew fin.empty (cell_fields rest ++ cell_fields cells) × (v ≡ value.Fields (fields_in_order m)) = made_is (cell_fields rest ++ cell_fields cells) t is fits in
      let halves : AreNew fin.empty (cell_fields rest) × AreNew (entries_of (cell_fields rest)) (cell_fields cells) = split_new fin.empty (cell_fields rest) (cell_fields cells) found.0 in
      let got : (l : Label) → fin.get m l ≡ option_or (value_under l (cell_fields cells)) (value_under l (cell_fields rest)) =
      λ l. ap (λ m. fin.get m l) (put_both fin.empty (cell_fields rest) (cell_fields cells))
      ∙ got_new (entries_of (cell_fields rest)) (cell_fields cells) l halves.1
      ∙ ap (option_or (value_under l (cell_fields cells))) (got_new fin.empty (cell_fields rest) l halves.0 ∙ ap (option_or (value_under l (cell_fields rest))) (fin.get-empty {X = Value} label_order l) ∙ or_none (value_under l (cell_fields rest))) in
      let cell_at : Label → Cell = λ l. cell_with l (cell_or cells (row_with rest) l) in
      let keys : List Label = map (λ (e : Label × Value). e.0) (fin.entries m) in
      let are : fields_in_order m ≡ cell_fields (map cell_at keys) =
      fields_by m cell_at (fin.entries m) (each_found (fin.entries m) (fin.entries_sorted m)) (λ l w there. ap (values.field l) (found_by cells rest l w (sym (got l) ∙ there))) in
      let own : cell_labels (map cell_at keys) ≡ keys = labels_at cell_at (λ l. refl) keys in
      let same : keys ≡ labels (columns_of t) = sym own ∙ row_fits_labels p i t is v (row_with (map cell_at keys)) fits (found.1 ∙ ap value.Fields are) in
      let distinct : AreDistinct keys = sorted_distinct (fin.entries m) (fin.entries_sorted m) in (
        found.1 ∙ ap value.Fields are ∙ ap (λ ls. row_value (row_with (map cell_at ls))) same,
        subst AreDistinct (same ∙ sym (labels_at cell_at (λ l. refl) (labels (columns_of t)))) distinct,
      )

  pub extend_stands : (parts : List PartExpr) (e : Expr) (t : Ground) → is_flat_row t ≡ true → (vs : List Value) (w : Value) (gs : List Given) (g : Given) → length parts ≡ length vs → AreBases vs gs → w ≡ row_value g.row
      → Fits p i (value_of (operated (Node-F.Extend parts e) (vs ++ w ∷ []))) t
      → Stands t (value_of (operated (Node-F.Extend parts e) (vs ++ w ∷ []))) (of_row (extended (labels (columns_of t)) (cells_under (part_labels parts) gs) g.row))
  extend_stands parts e t is vs w gs g many are same fits =
      let cells : List Cell = cells_under (part_labels parts) gs in
      let made_so : made.extended parts (vs ++ w ∷ []) ≡ made.record_of (cell_fields g.row.cells ++ cell_fields cells) =
      ap (λ ws. given (λ r. given (λ fs. made.record_of (fs ++ made.labelled parts (vs ++ w ∷ []))) (fields_in r)) (only ws)) (behind_all parts vs w many)
      ∙ ap (given (λ fs. made.record_of (fs ++ made.labelled parts (vs ++ w ∷ [])))) (ap fields_in same ∙ fields_shown (cell_fields g.row.cells))
      ∙ ap (λ fs. made.record_of (cell_fields g.row.cells ++ fs)) (labelled_cells parts vs (w ∷ []) gs many are) in
      let built = built_row cells g.row.cells t is (subst (λ o. Fits p i (value_of o) t) made_so fits) in
      row_stands t _ (extended (labels (columns_of t)) cells g.row) is (ap value_of made_so ∙ built.0) built.1

  -- a record extends an empty one
  pub record_stands : (parts : List PartExpr) (t : Ground) → is_flat_row t ≡ true → (vs : List Value) (gs : List Given) → length parts ≡ length vs → AreBases vs gs
      → Fits p i (value_of (operated (Node-F.Record parts) vs)) t
      → Stands t (value_of (operated (Node-F.Record parts) vs)) (of_row (extended (labels (columns_of t)) (cells_under (part_labels parts) gs) no_cells))
  record_stands parts t is vs gs many are fits =
      let cells : List Cell = cells_under (part_labels parts) gs in
      let labelled_so : made.labelled parts vs ≡ cell_fields cells = ap (made.labelled parts) (sym (append-nil vs)) ∙ labelled_cells parts vs [] gs many are in
      let made_so : made.new_record parts vs ≡ made.record_of (cell_fields cells) =
      ap (λ b. if b then made.record_of (made.labelled parts vs) else outcome.NoRule) ((Decides-eqb (length parts) (length vs)).1 many) ∙ ap made.record_of labelled_so in
      let built = built_row cells [] t is (subst (λ o. Fits p i (value_of o) t) made_so fits) in
      row_stands t _ (extended (labels (columns_of t)) cells no_cells) is (ap value_of made_so ∙ built.0) built.1
