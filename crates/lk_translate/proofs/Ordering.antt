-- Rows with the same labels are sorted by keys in SQL as they are in the program.
use Rattle.std.proofs.Common.{◌≡◌, Bool, true, false, ◌&&◌, ◌||◌, List, [], ◌∷◌, find, map, Some, refl, sym, ◌∙◌, ap, ap₂, bytes_eq, if◌then◌else◌}
use Rattle.std.specs.Ordering.{is_eq}
use Rattle.std.specs.declared.cmp.Ordering.{Ordering}
use Rattle.lk_ast.specs.BaseOrder.{base_cmp}
use Rattle.lk_ast.specs.declared.expression.SortKey.{SortKey}
use Rattle.lk_ast.specs.declared.table.Cell.{Cell}
use Rattle.lk_ast.specs.declared.table.Row.{Row}
use Rattle.lk_bag.specs.Legal as legal
use Rattle.lk_inline.specs.Inlined.{key_of}
use Rattle.lk_inline.specs.Stands.{row_labels}
use Rattle.lk_sql.specs.Keys as sql
use Rattle.lk_sql.specs.Meaning.{cell_in}
use Rattle.lk_types.specs.Each.{Each}
use Rattle.lk_types.specs.Rows.{Label}

abbrev cell_labels : List Cell → List Label
cell_labels cells = map (λ (cell : Cell). cell.label) cells

-- what stands under one label
compared_same : (label : Label) (cells others : List Cell) → cell_labels cells ≡ cell_labels others
    → base_cmp (cell_in cells label) (cell_in others label) ≡ legal.compared (find (legal.has_label label) cells) (find (legal.has_label label) others)
compared_same label [] [] same = refl
compared_same label [] (d ∷ others) same = absurd cc
compared_same label (c ∷ cells) [] same = absurd cc
compared_same label (c ∷ cells) (d ∷ others) same =
    let first : c.label ≡ d.label = cc in
    let rest : cell_labels cells ≡ cell_labels others = cc in
    by_test (bytes_eq c.label label) (bytes_eq d.label label) (ap (λ l. bytes_eq l label) first) (compared_same label cells others rest)
  where
    by_test : (b e : Bool) → b ≡ e → base_cmp (cell_in cells label) (cell_in others label) ≡ legal.compared (find (legal.has_label label) cells) (find (legal.has_label label) others)
        → base_cmp (if b then c.value else cell_in cells label) (if e then d.value else cell_in others label)
        ≡ legal.compared (if b then Some c else find (legal.has_label label) cells) (if e then Some d else find (legal.has_label label) others)
    by_test true true is behind = refl
    by_test true false is behind = absurd cc
    by_test false true is behind = absurd cc
    by_test false false is behind = behind

goes_same : (falls : Bool) (order : Ordering) → sql.goes_before falls order ≡ legal.goes_before falls order
goes_same true order = refl
goes_same false order = refl

before_same : (keys : List SortKey) (r s : Row) → row_labels r ≡ row_labels s → sql.may_stand_before (map key_of keys) r s ≡ legal.may_stand_before keys r s
before_same [] r s same = refl
before_same (key ∷ keys) r s same =
    ap₂ (λ order rest. sql.goes_before key.desc order || (is_eq order && rest)) (compared_same key.label.text r.cells s.cells same) (before_same keys r s same)
    ∙ ap (λ before. before || (is_eq (legal.compared (legal.at_key key r) (legal.at_key key s)) && legal.may_stand_before keys r s)) (goes_same key.desc (legal.compared (legal.at_key key r) (legal.at_key key s)))

-- all rows have these labels
abbrev pub HaveLabels : List Label → List Row → Type 0
HaveLabels labels rows = Each (λ row. row_labels row ≡ labels) rows

pub sorted_same : (keys : List SortKey) (labels : List Label) (rows : List Row) → HaveLabels labels rows → sql.AreSorted (map key_of keys) rows → legal.AreSorted keys rows
sorted_same keys labels [] have sorted = tt
sorted_same keys labels (r ∷ []) have sorted = tt
sorted_same keys labels (r ∷ s ∷ rows) have sorted = (sym (before_same keys r s (have.0 ∙ sym have.1.0)) ∙ sorted.0, sorted_same keys labels (s ∷ rows) have.1 sorted.1)

-- and as they are in the program in SQL
pub sorted_back : (keys : List SortKey) (labels : List Label) (rows : List Row) → HaveLabels labels rows → legal.AreSorted keys rows → sql.AreSorted (map key_of keys) rows
sorted_back keys labels [] have sorted = tt
sorted_back keys labels (r ∷ []) have sorted = tt
sorted_back keys labels (r ∷ s ∷ rows) have sorted = (before_same keys r s (have.0 ∙ sym have.1.0) ∙ sorted.0, sorted_back keys labels (s ∷ rows) have.1 sorted.1)
