-- The values that a block captures: the parameters that they are stand for them, and they have the types of the names.
use Rattle.std.proofs.Common.{◌≡◌, refl, sym, ap, ap₂, ◌∙◌, subst, arith, ℕ, suc, ◌+◌, ◌-◌, ◌≤◌, ◌<◌, Bool, true, false, ◌&&◌, ◌||◌, List, [], ◌∷◌, ◌++◌, length, map, flat_map, inl, inr, Some, None, get_or, cond, if◌then◌else◌, bytes_eq, lt_irrefl}
use Rattle.std.proofs.lemmas.List.{length-append}
use Rattle.std.specs.Cmp.Lexicographic.{slice_cmp}
use Rattle.std.specs.FinMap as finite
use Rattle.std.specs.List.{list_all}
use Rattle.std.specs.Option.{option_or}
use Rattle.std.specs.Ordering.{nat_cmp}
use Rattle.std.specs.Cmp.{first_so, second_so}
use Rattle.lk_ast.specs.Rows.{row_value}
use Rattle.lk_ast.specs.Tables.{cells_fit, is_of_kind}
use Rattle.lk_ast.specs.declared.declaration.Program.{Program}
use Rattle.lk_ast.specs.declared.table.Base.{Base}
use Rattle.lk_ast.specs.declared.table.BaseKind.TheVariants as kind
use Rattle.lk_ast.specs.declared.table.BaseKind.{BaseKind}
use Rattle.lk_ast.specs.declared.table.Cell.{Cell}
use Rattle.lk_ast.specs.declared.table.Column.{Column}
use Rattle.lk_ast.specs.declared.table.Row.{Row}
use Rattle.lk_ast.specs.declared.value.Field.{Field}
use Rattle.lk_ast.specs.declared.value.FunValue.{FunValue}
use Rattle.lk_ast.specs.declared.value.Value.TheOpen.{Value-F}
use Rattle.lk_ast.specs.declared.value.Value.TheVariants as value
use Rattle.lk_ast.specs.declared.value.Value.{Value, out-Value}
use Rattle.lk_bodies.specs.Captured.{captured_as, numbered}
use Rattle.lk_bodies.specs.Shapes.{column, columns_level, columns_of, kind_level, kind_of, labels}
use Rattle.lk_ground_types.specs.Shapes.{is_base, is_flat, is_flat_row}
use Rattle.lk_inline.proofs.Adding.{append_assoc}
use Rattle.lk_inline.proofs.PutFields.{or_none}
use Rattle.lk_inline.proofs.Standing.{base_stands, row_stands}
use Rattle.lk_inline.specs.Stands.{AreDistinct, Stands, row_labels}
use Rattle.lk_locals.specs.Names.{Names, bind, bind_each, lookup, no_names}
use Rattle.lk_query.proofs.Parts.{bind-here, bind-other}
use Rattle.lk_query.specs.Captured.{AreCaptured, Binding, IsCaptured, bindings_from, cells_from, labels_of, leaves, leaves_of, parameter, values_from}
use Rattle.lk_query.specs.Given.{Given, Values, cell_with, of_base, of_row, row_with}
use Rattle.lk_query.specs.Order as order
use Rattle.lk_query.specs.declared.query.Captured.TheVariants as captured
use Rattle.lk_query.specs.declared.query.Captured.{Captured}
use Rattle.lk_sound.proofs.Bindings.{lookup_bound, same_bytes}
use Rattle.lk_sound.proofs.FlatTypes.{IsFlatRow, base_is, flat_row_is}
use Rattle.lk_sound.proofs.Names as names
use Rattle.lk_sound.proofs.Names.{IsAmong}
use Rattle.lk_sound.proofs.TableRows.{base_fits, cell_fields}
use Rattle.lk_sound.specs.Instances.{Instances}
use Rattle.lk_sound.specs.Values.{Fits, FieldsFit, FitEach, field, no_field, none_left, one_more}
use Rattle.lk_sql.specs.Operations.{zero_base}
use Rattle.lk_types.specs.Each.{Each}
use Rattle.lk_types.specs.Rows.{Label}
use Rattle.lk_types.specs.declared.ground.Ground.TheVariants as known
use Rattle.lk_types.specs.declared.ground.Ground.{Ground}
use Rattle.lk_types.specs.declared.ground.GroundField.{GroundField}
use Rattle.lk_typing.specs.Names.{Named, named, names_of, types_of}
use Rattle.lk_typing.specs.Types as types

-- a base, or a record that has no label twice
abbrev pub IsProper : Captured → Type 0
IsProper (captured.Base kind) = Unit {0}
IsProper (captured.Row columns) = AreDistinct (labels columns)

-- ---- lists of parameters

parameter_at : (before : List Base) (b : Base) (rest : List Base) (k : ℕ) → k ≡ length before + 1 → parameter (before ++ (b ∷ rest)) k ≡ b
parameter_at before b rest k is = ap (λ n. get_or (before ++ (b ∷ rest)) n zero_base) (let less : k - 1 ≡ length before = omega (arith, is) in less) ∙ there before
  where
    there : (xs : List Base) → get_or (xs ++ (b ∷ rest)) (length xs) zero_base ≡ b
    there [] = refl
    there (x ∷ xs) = there xs

-- ---- the cells of a row

abbrev cell_values : List Cell → List Base
cell_values cells = map (λ (cell : Cell). cell.value) cells

pub fit_labels : (columns : List Column) (cells : List Cell) → cells_fit columns cells ≡ true → map (λ (cell : Cell). cell.label) cells ≡ labels columns
fit_labels [] [] fit = refl
fit_labels [] (cell ∷ cells) fit = absurd cc
fit_labels (c ∷ columns) [] fit = absurd cc
fit_labels (c ∷ columns) (cell ∷ cells) fit =
    let first : (bytes_eq c.label cell.label && is_of_kind c.kind cell.value) ≡ true = first_so (bytes_eq c.label cell.label && is_of_kind c.kind cell.value) _ fit in
    ap₂ (λ l ls. l ∷ ls) (sym (same_bytes c.label cell.label (first_so _ _ first))) (fit_labels columns cells (second_so (bytes_eq c.label cell.label && is_of_kind c.kind cell.value) _ fit))

cells_at : (cells : List Cell) (before rest : List Base) (k : ℕ) → k ≡ length before + 1 → cells_from (before ++ (cell_values cells ++ rest)) k (map (λ (cell : Cell). cell.label) cells) ≡ cells
cells_at [] before rest k is = refl
cells_at (cell ∷ cells) before rest k is =
    let longer : length (before ++ cell.value ∷ []) ≡ length before + 1 = length-append before (cell.value ∷ []) in
    let there : parameter (before ++ (cell.value ∷ (cell_values cells ++ rest))) k ≡ cell.value = parameter_at before cell.value (cell_values cells ++ rest) k is in
    ap₂ (λ b cs. cell_with cell.label b ∷ cs) there
    (ap (λ params. cells_from params (k + 1) (map (λ (cell : Cell). cell.label) cells)) (sym (append_assoc before (cell.value ∷ []) (cell_values cells ++ rest)))
    ∙ cells_at cells (before ++ cell.value ∷ []) rest (k + 1) (omega (arith, is, longer)))

-- ---- the parameters of a value

abbrev base_level : Value-F Value Field FunValue → List Base
base_level (Value-F.Base b) = b ∷ []
base_level other = []

base_leaves : (b : Base) → leaves_of (value.Base b) ≡ b ∷ []
base_leaves b = simp (value.outs-Base)

fields_leaves : (cells : List Cell) → flat_map (λ (f : Field). base_level (out-Value f.value)) (cell_fields cells) ≡ cell_values cells
fields_leaves [] = refl
fields_leaves (cell ∷ cells) = ap₂ (λ xs ys. xs ++ ys) (ap base_level (value.outs-Base cell.value)) (fields_leaves cells)

shown_fields : (fs : List Field) → leaves_of (value.Fields fs) ≡ flat_map (λ (f : Field). base_level (out-Value f.value)) fs
shown_fields fs = simp (value.outs-Fields)

row_leaves : (row : Row) → leaves_of (row_value row) ≡ cell_values row.cells
row_leaves row = shown_fields (cell_fields row.cells) ∙ fields_leaves row.cells

-- what stands for the first of several values, and what is left for the others
record IsFirst (t : Ground) (v : Value) (c : Captured) : Type 0 where
  given : Given
  stands : Stands t v given
  is : (before rest : List Base) (k n : ℕ) (bound : List Binding) → k ≡ length before + 1
      → values_from (before ++ (leaves_of v ++ rest)) k ((n, labels_of c) ∷ bound) ≡ order.bind n given (values_from ((before ++ leaves_of v) ++ rest) (length (before ++ leaves_of v) + 1) bound)

first_base : (t : Ground) (v : Value) (b : Base) (k : BaseKind) → is_base t ≡ true → v ≡ value.Base b → IsFirst t v (captured.Base k)
first_base t v b kind is same = record {
  given = of_base b;
  stands = base_stands t v b is same;
  is = λ before rest k n bound here.
      let left : leaves_of v ≡ b ∷ [] = ap leaves_of same ∙ base_leaves b in
      let there : parameter (before ++ (leaves_of v ++ rest)) k ≡ b = ap (λ xs. parameter (before ++ (xs ++ rest)) k) left ∙ parameter_at before b rest k here in
      let many : length (before ++ leaves_of v) ≡ length before + length (leaves_of v) = length-append before (leaves_of v) in
      let one : length (leaves_of v) ≡ 1 = ap length left in
      ap₂ (λ x rest. order.bind n (of_base x) rest) there
      (ap₂ (λ params j. values_from params j bound) (sym (append_assoc before (leaves_of v) rest)) (omega (arith, here, many, one)));
}

first_row : (t : Ground) (v : Value) (row : Row) (columns : List Column) → is_flat_row t ≡ true → v ≡ row_value row → cells_fit columns row.cells ≡ true → AreDistinct (labels columns) → IsFirst t v (captured.Row columns)
first_row t v row columns is same fit distinct = record {
  given = of_row row;
  stands = row_stands t v row is same (subst AreDistinct (sym labels_are) distinct);
  is = λ before rest k n bound here.
      let left : leaves_of v ≡ cell_values row.cells = ap leaves_of same ∙ row_leaves row in
      let cells : cells_from (before ++ (leaves_of v ++ rest)) k (labels columns) ≡ row.cells =
      ap₂ (λ xs ls. cells_from (before ++ (xs ++ rest)) k ls) left (sym labels_are) ∙ cells_at row.cells before rest k here in
      let many : length (before ++ leaves_of v) ≡ length before + length (leaves_of v) = length-append before (leaves_of v) in
      let some : length (leaves_of v) ≡ length (labels columns) = ap length left ∙ length_values row.cells ∙ ap length labels_are in
      ap₂ (λ cells rest. order.bind n (of_row (row_with cells)) rest) cells
      (ap₂ (λ params j. values_from params j bound) (sym (append_assoc before (leaves_of v) rest)) (omega (arith, here, many, some)));
}
  where
    labels_are : row_labels row ≡ labels columns
    labels_are = fit_labels columns row.cells fit

    length_values : (cells : List Cell) → length (cell_values cells) ≡ length (map (λ (cell : Cell). cell.label) cells)
    length_values [] = refl
    length_values (cell ∷ cells) = ap suc (length_values cells)

by_type : (t : Ground) (v : Value) → is_flat t ≡ true → IsProper (captured_as t) → IsCaptured (captured_as t) v → IsFirst t v (captured_as t)
by_type t v flat proper captured_so = by_base (is_base t) refl flat proper captured_so
  where
    by_base : (b : Bool) → is_base t ≡ b → (b || is_flat_row t) ≡ true → IsProper (if b then captured.Base (kind_of t) else captured.Row (columns_of t)) → IsCaptured (if b then captured.Base (kind_of t) else captured.Row (columns_of t)) v
        → IsFirst t v (if b then captured.Base (kind_of t) else captured.Row (columns_of t))
    by_base true is flat proper (b, same, kind_is) = first_base t v b (kind_of t) is same
    by_base false is flat proper (row, same, fit) = first_row t v row (columns_of t) flat same fit proper

-- ---- values under names

abbrev pub paired : List Label → List Value → Named Value
paired [] vs = []
paired (x ∷ xs) [] = []
paired (x ∷ xs) (v ∷ vs) = (x, v) ∷ paired xs vs

not_paired : (xs : List Label) (vs : List Value) (y : Label) → (IsAmong y xs → ⊥) → named y (paired xs vs) ≡ None
not_paired [] vs y apart = refl
not_paired (x ∷ xs) [] y apart = refl
not_paired (x ∷ xs) (v ∷ vs) y apart = by_test (bytes_eq x y) refl (not_paired xs vs y (λ among. apart (inr among)))
  where
    by_test : (b : Bool) → bytes_eq x y ≡ b → named y (paired xs vs) ≡ None → (if b then Some v else named y (paired xs vs)) ≡ None
    by_test true is later = absurd (apart (inl (same_bytes x y is)))
    by_test false is later = later

lookup_each : (outer : Names) (xs : List Label) (vs : List Value) → names.AreDistinct xs → (y : Label) → lookup (bind_each outer xs vs) y ≡ option_or (named y (paired xs vs)) (lookup outer y)
lookup_each outer [] vs distinct y = refl
lookup_each outer (x ∷ xs) [] distinct y = refl
lookup_each outer (x ∷ xs) (v ∷ vs) (apart, distinct) y =
    lookup_each (bind x v outer) xs vs distinct y ∙ ap (option_or (named y (paired xs vs))) (lookup_bound x v outer y) ∙ by_test (bytes_eq x y) refl
  where
    by_test : (b : Bool) → bytes_eq x y ≡ b → option_or (named y (paired xs vs)) (cond b (Some v) (lookup outer y)) ≡ option_or (if b then Some v else named y (paired xs vs)) (lookup outer y)
    by_test true is = ap (λ o. option_or o (Some v)) (not_paired xs vs y (subst (λ z. IsAmong z xs → ⊥) (same_bytes x y is) apart))
    by_test false is = refl

-- what stands for a name is the value beside it
pub lookup_paired : (xs : List Label) (vs : List Value) → names.AreDistinct xs → (y : Label) → lookup (bind_each no_names xs vs) y ≡ named y (paired xs vs)
lookup_paired xs vs distinct y = lookup_each no_names xs vs distinct y ∙ ap (option_or (named y (paired xs vs))) (finite.get-empty (slice_cmp nat_cmp) y) ∙ or_none (named y (paired xs vs))

-- ---- numbers

-- numbers from n on
pub numbered_within : (xs : List Label) (n : ℕ) (y : Label) (k : ℕ) → named y (numbered n xs) ≡ Some k → (n ≤ k) × (k < n + length xs)
numbered_within [] n y k is = let wrong : None ≡ Some k = is in absurd cc
numbered_within (x ∷ xs) n y k is = by_test (bytes_eq x y) (numbered_within xs (n + 1) y k) is
  where
    by_test : (b : Bool) → (named y (numbered (n + 1) xs) ≡ Some k → (n + 1 ≤ k) × (k < (n + 1) + length xs)) → (if b then Some n else named y (numbered (n + 1) xs)) ≡ Some k → (n ≤ k) × (k < n + suc (length xs))
    by_test true later is = let same : n ≡ k = cc in (omega (arith, same), omega (arith, same))
    by_test false later is = let found = later is in (omega (arith, found.0), omega (arith, found.1))

-- ---- all of them

-- each captured value is stood for, by the number of its name
pub captured_stand : (kept : Named Ground) (args : List Value) → Each (λ t. is_flat t ≡ true) (types_of kept) → Each IsProper (map captured_as (types_of kept)) → AreCaptured (map captured_as (types_of kept)) args
    → (before : List Base) (n k : ℕ) → k ≡ length before + 1
    → (y : Label) (t : Ground) (j : ℕ) (v : Value) → named y kept ≡ Some t → named y (numbered n (names_of kept)) ≡ Some j → named y (paired (names_of kept) args) ≡ Some v
    → Stands t v (values_from (before ++ leaves args) k (bindings_from n (map captured_as (types_of kept))) j)
captured_stand [] args flat proper are before n k here y t j v is at value_is = let wrong : None ≡ Some t = is in absurd cc
captured_stand (e ∷ kept) [] flat proper are before n k here y t j v is at value_is = absurd are
captured_stand (e ∷ kept) (w ∷ args) flat proper are before n k here y t j v is at value_is =
    by_test (bytes_eq e.0 y) (captured_stand kept args flat.1 proper.1 are.1 (before ++ leaves_of w) (n + 1) (length (before ++ leaves_of w) + 1) refl y t j v) is at value_is
  where
    first : IsFirst e.1 w (captured_as e.1)
    first = by_type e.1 w flat.0 proper.0 are.0

    later : Values
    later = values_from ((before ++ leaves_of w) ++ leaves args) (length (before ++ leaves_of w) + 1) (bindings_from (n + 1) (map captured_as (types_of kept)))

    same : values_from (before ++ (leaves_of w ++ leaves args)) k (bindings_from n (captured_as e.1 ∷ map captured_as (types_of kept))) ≡ order.bind n first.given later
    same = first.is before (leaves args) k n (bindings_from (n + 1) (map captured_as (types_of kept))) here

    by_test : (b : Bool) → (named y kept ≡ Some t → named y (numbered (n + 1) (names_of kept)) ≡ Some j → named y (paired (names_of kept) args) ≡ Some v → Stands t v (later j))
        → (if b then Some e.1 else named y kept) ≡ Some t → (if b then Some n else named y (numbered (n + 1) (names_of kept))) ≡ Some j → (if b then Some w else named y (paired (names_of kept) args)) ≡ Some v
        → Stands t v (values_from (before ++ (leaves_of w ++ leaves args)) k (bindings_from n (captured_as e.1 ∷ map captured_as (types_of kept))) j)
    by_test true rest is at value_is =
        let type_is : e.1 ≡ t = cc in
        let number_is : n ≡ j = cc in
        let value_same : w ≡ v = cc in
        let here : order.bind n first.given later j ≡ first.given = ap (λ m. order.bind n first.given later m) (sym number_is) ∙ bind-here n first.given later in
        subst (λ g. Stands t v g) (sym (ap (λ f. f j) same ∙ here)) (subst (λ u. Stands u v first.given) type_is (subst (λ x. Stands e.1 x first.given) value_same first.stands))
    by_test false rest is at value_is =
        let within = numbered_within (names_of kept) (n + 1) y j at in
        let other : order.bind n first.given later j ≡ later j = bind-other n j first.given later (λ e. lt_irrefl n (omega (arith, within.0, e))) in
        subst (λ g. Stands t v g) (sym (ap (λ f. f j) same ∙ other)) (rest is at value_is)

-- ---- their types

pub kind_same : (k : BaseKind) → kind_of (types.base k) ≡ k
kind_same kind.Int = ap kind_level known.outs-Int
kind_same kind.Bool = ap kind_level known.outs-Bool
kind_same kind.Text = ap kind_level known.outs-Text

pub columns_are : (gs : List GroundField) → columns_of (known.Fields gs) ≡ map column gs
columns_are gs = ap columns_level (known.outs-Fields gs)

module _ (p : Program) (i : Instances) where
  base_fits_type : (t : Ground) (v : Value) (b : Base) → is_base t ≡ true → v ≡ value.Base b → is_of_kind (kind_of t) b ≡ true → Fits p i v t
  base_fits_type t v b is same of_kind =
      let k : (k : BaseKind) × (t ≡ types.base k) = base_is t is in
      let right : is_of_kind k.0 b ≡ true = subst (λ k. is_of_kind k b ≡ true) (ap kind_of k.1 ∙ kind_same k.0) of_kind in
      subst (λ w. Fits p i w t) (sym same) (subst (Fits p i (value.Base b)) (sym k.1) (base_fits p i k.0 b right))

  cells_fit_fields : (gs : List GroundField) (cells : List Cell) → list_all (λ (f : GroundField). is_base f.ty) gs ≡ true → cells_fit (map column gs) cells ≡ true → FieldsFit p i (cell_fields cells) gs
  cells_fit_fields [] [] flat fit = no_field
  cells_fit_fields [] (cell ∷ cells) flat fit = absurd cc
  cells_fit_fields (g ∷ gs) [] flat fit = absurd cc
  cells_fit_fields (g ∷ gs) (cell ∷ cells) flat fit =
      let first : (bytes_eq g.label cell.label && is_of_kind (kind_of g.ty) cell.value) ≡ true = first_so (bytes_eq g.label cell.label && is_of_kind (kind_of g.ty) cell.value) _ fit in
      field (sym (same_bytes g.label cell.label (first_so _ _ first)))
      (base_fits_type g.ty (value.Base cell.value) cell.value (first_so (is_base g.ty) _ flat) refl (second_so (bytes_eq g.label cell.label) _ first))
      (cells_fit_fields gs cells (second_so (is_base g.ty) _ flat) (second_so (bytes_eq g.label cell.label && is_of_kind (kind_of g.ty) cell.value) _ fit))

  row_fits_type : (t : Ground) (v : Value) (row : Row) → is_flat_row t ≡ true → v ≡ row_value row → cells_fit (columns_of t) row.cells ≡ true → Fits p i v t
  row_fits_type t v row is same fit =
      let flat : IsFlatRow t = flat_row_is t is in
      Fits.fields (cell_fields row.cells) flat.fields same (cells_fit_fields flat.fields row.cells flat.flat (subst (λ cs. cells_fit cs row.cells ≡ true) (ap columns_of flat.is ∙ columns_are flat.fields) fit)) flat.is

  one_fits : (t : Ground) (v : Value) → is_flat t ≡ true → IsCaptured (captured_as t) v → Fits p i v t
  one_fits t v flat captured_so = by_base (is_base t) refl flat captured_so
    where
      by_base : (b : Bool) → is_base t ≡ b → (b || is_flat_row t) ≡ true → IsCaptured (if b then captured.Base (kind_of t) else captured.Row (columns_of t)) v → Fits p i v t
      by_base true is flat (b, same, of_kind) = base_fits_type t v b is same of_kind
      by_base false is flat (row, same, fit) = row_fits_type t v row flat same fit

  pub captured_fit : (ts : List Ground) (args : List Value) → Each (λ t. is_flat t ≡ true) ts → AreCaptured (map captured_as ts) args → FitEach p i args ts
  captured_fit [] [] flat are = none_left
  captured_fit [] (v ∷ args) flat are = absurd are
  captured_fit (t ∷ ts) [] flat are = absurd are
  captured_fit (t ∷ ts) (v ∷ args) flat are = one_more (one_fits t v flat.0 are.0) (captured_fit ts args flat.1 are.1)
