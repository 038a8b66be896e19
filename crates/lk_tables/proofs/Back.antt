-- Rows that are printed are read back.
use Rattle.std.proofs.Common.{◌≡◌, ℕ, pos, negsuc, List, [], ◌∷◌, map, length, Bool, true, false, ◌&&◌, ◌==◌, if◌then◌else◌, bytes_eq, Option, Some, None, option_map, set, get_or, refl, sym, ap, ap₂, ◌∙◌, subst, true≢false, arith}
use Rattle.std.specs.Prelude.{option_and_then, IsPermutation}
use Rattle.std.specs.List.{list_all, swap, All}
use Rattle.std.specs.List.Sorted.{apply_swaps, SwapsInRange}
use Rattle.std.proofs.lemmas.Bool.Decides.{nat_tests}
use Rattle.std.proofs.Math.ListN.{get_or-map}
use Rattle.std.proofs.lemmas.List.{length-map, map-set}
use Rattle.std.proofs.lemmas.List.Elements.{All-tail}
use Rattle.std.proofs.lemmas.List.Sorted.{All-permutation}
use Rattle.std.proofs.lemmas.Slice.Eq.{bytes_eq-Decides}
use Rattle.std.specs.Cmp.{first_so, second_so}
use Rattle.std.proofs.lemmas.Bool.{not-true}
use Rattle.serde_json.specs.Data.{Data, array, object, Members, no_members, put}
use Rattle.serde_json.specs.Find.{get}
use Rattle.serde_json.specs.View.{items_of}
use Rattle.lk_ast.specs.JsonText.{base_data}
use Rattle.lk_ast.specs.Tables.{is_of_kind, cells_fit}
use Rattle.lk_ast.specs.declared.table.Base.{Base}
use Rattle.lk_ast.specs.declared.table.Base.TheVariants.{Int, Bool as Truth, Text}
use Rattle.lk_ast.specs.declared.table.BaseKind.{BaseKind}
use Rattle.lk_ast.specs.declared.table.BaseKind.TheVariants as kind
use Rattle.lk_ast.specs.declared.table.Cell.{Cell}
use Rattle.lk_ast.specs.declared.table.Column.{Column}
use Rattle.lk_ast.specs.declared.table.Row.{Row}
use Rattle.lk_tables.specs.Choices.{all_some}
use Rattle.lk_tables.specs.Law.{are_distinct}
use Rattle.lk_tables.specs.Words.{fits_word, cells_fit_words}
use Rattle.lk_tables.specs.Printing.{cell_entry, row_data}
use Rattle.lk_tables.specs.Reading.{elements, base_of, cell_of, row_of, rows_of}
use Rattle.lk_tables.proofs.Puts.{put_all, key_of, get_put_first, len_of_all}

never : {X : Type 0} → false ≡ true → X
never e = absurd (true≢false (sym e))

base_back : (k : BaseKind) (value : Base) → is_of_kind k value ≡ true → fits_word value ≡ true → base_of k (base_data value) ≡ Some value
base_back kind.Int (Int (pos n)) is low = ap (λ b. option_map Int (if b then Some (pos n) else None)) low
base_back kind.Int (Int (negsuc n)) is low = refl
base_back kind.Int (Truth b) is low = never is
base_back kind.Int (Text t) is low = never is
base_back kind.Bool (Int n) is low = never is
base_back kind.Bool (Truth b) is low = refl
base_back kind.Bool (Text t) is low = never is
base_back kind.Text (Int n) is low = never is
base_back kind.Text (Truth b) is low = never is
base_back kind.Text (Text t) is low = refl

abbrev of_column : Column → Base → Cell
of_column column value = record { label = column.label; value = value }

abbrev some_cell : Base → List ℕ → Option Cell
some_cell value label = Some (record { label = label; value = value })

cell_back : (d : Data) (column : Column) (cell : Cell) → column.label ≡ cell.label → get column.label d ≡ Some (base_data cell.value) → is_of_kind column.kind cell.value ≡ true → fits_word cell.value ≡ true
    → cell_of d column ≡ Some cell
cell_back d column cell same found is low =
    ap (λ o. option_map (of_column column) (option_and_then (base_of column.kind) o)) found
    ∙ ap (option_map (of_column column)) (base_back column.kind cell.value is low)
    ∙ ap (some_cell cell.value) same

-- one answer more
pub some_more : {Y : Type 0} (first : Option Y) (rest : Option (List Y)) (y : Y) (ys : List Y) → first ≡ Some y → rest ≡ Some ys → option_and_then (λ y. option_map (λ ys. y ∷ ys) rest) first ≡ Some (y ∷ ys)
some_more first rest y ys p q = ap₂ (λ first rest. option_and_then (λ y. option_map (λ ys. y ∷ ys) rest) first) p q

abbrev label_of : Column → List ℕ
label_of column = column.label

same_label : (column : Column) (cell : Cell) (rest : Bool) → ((bytes_eq column.label cell.label && is_of_kind column.kind cell.value) && rest) ≡ true → column.label ≡ cell.label
same_label column cell rest fit = (bytes_eq-Decides column.label cell.label).0 (first_so _ _ (first_so _ _ fit))

-- the cells have the labels of the columns
same_labels : (columns : List Column) (cells : List Cell) → cells_fit columns cells ≡ true → map key_of (map cell_entry cells) ≡ map label_of columns
same_labels [] [] fit = refl
same_labels [] (cell ∷ cells) fit = never fit
same_labels (column ∷ columns) [] fit = never fit
same_labels (column ∷ columns) (cell ∷ cells) fit = ap₂ (λ l ls. l ∷ ls) (sym (same_label column cell _ fit)) (same_labels columns cells (second_so _ _ fit))

cells_back : (now : Members) (columns : List Column) (cells : List Cell) → cells_fit columns cells ≡ true → list_all (λ cell. fits_word cell.value) cells ≡ true → are_distinct (map key_of (map cell_entry cells)) ≡ true
    → all_some (cell_of (object (put_all now (map cell_entry cells)))) columns ≡ Some cells
cells_back now [] [] fit low distinct = refl
cells_back now [] (cell ∷ cells) fit low distinct = never fit
cells_back now (column ∷ columns) [] fit low distinct = never fit
cells_back now (column ∷ columns) (cell ∷ cells) fit low distinct =
    let same : column.label ≡ cell.label = same_label column cell _ fit in
    let found = get_put_first cell.label (base_data cell.value) now (map cell_entry cells) (not-true _ (first_so _ _ distinct)) in
    let members = put_all now (map cell_entry (cell ∷ cells)) in
    let here = cell_back (object members) column cell same (ap (λ (l : List ℕ). get l (object members)) same ∙ found) (second_so _ _ (first_so _ _ fit)) (first_so _ _ low) in
    some_more _ _ cell cells here (cells_back (put cell.label (base_data cell.value) now) columns cells (second_so _ _ fit) (second_so _ _ low) (second_so _ _ distinct))

same_test : (m n : ℕ) → m ≡ n → (m == n) ≡ true
same_test m n e = grind (arith, nat_tests)

row_at : (b : Bool) (cells : Option (List Cell)) (row : Row) → b ≡ true → cells ≡ Some row.cells → (if b then option_map {U = Row} (λ cells. record { cells = cells }) cells else None) ≡ Some row
row_at true cells row e is = ap (option_map (λ cells. record { cells = cells })) is
row_at false cells row e is = never e

row_back : (columns : List Column) (row : Row) → are_distinct (map label_of columns) ≡ true → cells_fit columns row.cells ≡ true → cells_fit_words row ≡ true → row_of columns (row_data row) ≡ Some row
row_back columns row distinct fit low =
    let labels = same_labels columns row.cells fit in
    let apart : are_distinct (map key_of (map cell_entry row.cells)) ≡ true = ap are_distinct labels ∙ distinct in
    let long : length (map cell_entry row.cells) ≡ length columns = sym (length-map (map cell_entry row.cells) key_of) ∙ ap length labels ∙ length-map columns label_of in
    row_at _ _ row (same_test _ _ (len_of_all (map cell_entry row.cells) apart ∙ long)) (cells_back no_members columns row.cells fit low apart)

-- a row that the columns have, each integer in its bounds
abbrev pub IsGood : List Column → Row → Type 0
IsGood columns row = (cells_fit columns row.cells ≡ true) × (cells_fit_words row ≡ true)

rows_back : (columns : List Column) (rows : List Row) → are_distinct (map label_of columns) ≡ true → All (IsGood columns) rows → all_some (row_of columns) (map row_data rows) ≡ Some rows
rows_back columns [] distinct good = refl
rows_back columns (row ∷ rows) distinct good =
    let here = good 0 row (omega arith) in
    some_more _ _ row rows (row_back columns row distinct here.0 here.1) (rows_back columns rows distinct (All-tail (IsGood columns) row rows good))

elements_of : (ds : List Data) → elements (items_of ds) ≡ ds
elements_of [] = refl
elements_of (d ∷ ds) = ap (λ ds. d ∷ ds) (elements_of ds)

-- ---- in another order

map-swap : {X Y : Type 0} (f : X → Y) (xs : List X) (i j : ℕ) → map f (swap xs i j) ≡ swap (map f xs) i j
map-swap f [] i j = refl
map-swap f (d ∷ ys) i j =
    map-set f (set (d ∷ ys) i (get_or (d ∷ ys) j d)) j (get_or (d ∷ ys) i d)
    ∙ (λ k. set ((map-set f (d ∷ ys) i (get_or (d ∷ ys) j d) ∙ ap (set (map f (d ∷ ys)) i) (sym (get_or-map f (d ∷ ys) j d))) k) j (sym (get_or-map f (d ∷ ys) i d) k))

map-swaps : {X Y : Type 0} (f : X → Y) (xs : List X) (ps : List (ℕ × ℕ)) → map f (apply_swaps xs ps) ≡ apply_swaps (map f xs) ps
map-swaps f xs [] = refl
map-swaps f xs (p ∷ ps) = map-swap f (apply_swaps xs ps) p.0 p.1 ∙ ap (λ l. swap l p.0 p.1) (map-swaps f xs ps)

-- what is read of the rows, in whatever order they were printed
pub record AreBack (columns : List Column) (rows : List Row) (d : Data) : Type 0 where
  pub read : List Row
  pub is : rows_of columns d ≡ Some read
  pub same : IsPermutation rows read

pub sorted_back : (columns : List Column) (rows : List Row) (sorted : List Data) → are_distinct (map label_of columns) ≡ true → All (IsGood columns) rows → IsPermutation (map row_data rows) sorted → AreBack columns rows (array (items_of sorted))
sorted_back columns rows sorted distinct good moved =
    let read = apply_swaps rows moved.moves in
    let same : IsPermutation rows read = record { moves = moved.moves; below = subst (λ (n : ℕ). SwapsInRange n moved.moves) (length-map rows row_data) moved.below; is = refl } in
    let is : sorted ≡ map row_data read = moved.is ∙ sym (map-swaps row_data rows moved.moves) in
    record {
      read = read;
      is = ap (all_some (row_of columns)) (elements_of sorted ∙ is) ∙ rows_back columns read distinct (All-permutation (IsGood columns) rows read same good);
      same = same;
    }
