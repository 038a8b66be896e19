-- The SQL of updates and deletions: what it makes of a row.
use Rattle.std.proofs.Common.{◌≡◌, ℕ, ◌==◌, if◌then◌else◌, Bool, true, false, not, ◌&&◌, ◌||◌, List, [], ◌∷◌, map, bytes_eq, refl, sym, ◌∙◌, ap, ap₂, arith, true≢false}
use Rattle.std.specs.Cmp.Lexicographic.{bytes_decides}
use Rattle.lk_ast.specs.Tables.{Tables, cells_fit, is_of_kind}
use Rattle.lk_ast.specs.declared.table.Base.{Base}
use Rattle.lk_ast.specs.declared.table.Cell.{Cell}
use Rattle.lk_ast.specs.declared.table.Column.{Column}
use Rattle.lk_ast.specs.declared.table.Row.{Row}
use Rattle.lk_sql.specs.Change as sql
use Rattle.lk_sql.specs.Good.{are_distinct, are_in_order, is_there}
use Rattle.lk_sql.specs.Meaning.{Scope, cell_in, no_rows, value, with_row}
use Rattle.lk_sql.specs.Operations.{truth}
use Rattle.lk_sql.specs.declared.tree.Out.{Out}
use Rattle.lk_query.specs.Captured.{bindings_from, change_values, values_from}
use Rattle.lk_query.specs.Changed as inlined
use Rattle.lk_query.specs.Given.{at_labels, cell_with, gives, of_row, row_with}
use Rattle.lk_query.specs.declared.part.Labelled.{Labelled}
use Rattle.lk_query.specs.declared.query.Captured.{Captured}
use Rattle.lk_query.specs.declared.query.InlinedChange.{InlinedChange}
use Rattle.lk_sql.proofs.Labels.{distinct-in_order}
use Rattle.lk_query.proofs.Reading.{gives-same}
use Rattle.lk_norm.specs.Captured.{names_from}
use Rattle.lk_norm.specs.Law.{ChangeLaw, ChangeOverLaw, ConditionLaw, HasColumns, SetsLaw}
use Rattle.lk_norm.specs.Normal.{as_row, columns_of, norms, output}
use Rattle.lk_norm.specs.Sql.{change_names, change_sql}
use Rattle.lk_norm.proofs.Bases.{row-columns}
use Rattle.lk_norm.proofs.Follows.{follows}
use Rattle.lk_norm.proofs.Params.{captured-show}
use Rattle.lk_norm.proofs.Shows.{ShowAll, Shows, Shows-more, shows_row}

-- ---- a row with these columns

abbrev labels_of : List Cell → List (List ℕ)
labels_of cells = map (λ (cell : Cell). cell.label) cells

-- a first cell is not looked at under other labels
others : (cell : Cell) (cells : List Cell) (labels : List (List ℕ)) → is_there labels cell.label ≡ false → map (λ label. cell_with label (cell_in (cell ∷ cells) label)) labels ≡ map (λ label. cell_with label (cell_in cells label)) labels
others cell cells [] e = refl
others cell cells (label ∷ labels) e = step (bytes_eq cell.label label) e (λ f. others cell cells labels f)
  where
    step :
        (b : Bool) → b || is_there labels cell.label ≡ false →
        (is_there labels cell.label ≡ false → map (λ label. cell_with label (cell_in (cell ∷ cells) label)) labels ≡ map (λ label. cell_with label (cell_in cells label)) labels) →
        cell_with label (if b then cell.value else cell_in cells label) ∷ map (λ label. cell_with label (cell_in (cell ∷ cells) label)) labels ≡ cell_with label (cell_in cells label) ∷ map (λ label. cell_with label (cell_in cells label)) labels
    step true e f = absurd (true≢false e)
    step false e f = ap (λ cells'. cell_with label (cell_in cells label) ∷ cells') (f e)

-- a row is what it has at its labels
at_own : (cells : List Cell) → are_distinct (labels_of cells) ≡ true → map (λ label. cell_with label (cell_in cells label)) (labels_of cells) ≡ cells
at_own [] e = refl
at_own (cell ∷ cells) e = by_tests (is_there (labels_of cells) cell.label) (are_distinct (labels_of cells)) refl refl e (λ distinct. at_own cells distinct)
  where
    first : cell_in (cell ∷ cells) cell.label ≡ cell.value
    first = ap (λ b. if b then cell.value else cell_in cells cell.label) ((bytes_decides cell.label cell.label).1 refl)

    by_tests :
        (b c : Bool) → is_there (labels_of cells) cell.label ≡ b → are_distinct (labels_of cells) ≡ c → not b && c ≡ true → (are_distinct (labels_of cells) ≡ true → map (λ label. cell_with label (cell_in cells label)) (labels_of cells) ≡ cells) →
        cell_with cell.label (cell_in (cell ∷ cells) cell.label) ∷ map (λ label. cell_with label (cell_in (cell ∷ cells) label)) (labels_of cells) ≡ cell ∷ cells
    by_tests false true is distinct e f = ap₂ (λ b cells'. cell_with cell.label b ∷ cells') first (others cell cells (labels_of cells) is ∙ f distinct)
    by_tests false false is distinct e f = absurd (true≢false (sym e))
    by_tests true c is distinct e f = absurd (true≢false (sym e))

at_columns : (labels : List (List ℕ)) (row : Row) → HasColumns labels row → at_labels labels row ≡ row
at_columns labels row has = ap row_with (ap (λ labels. map (λ label. cell_with label (cell_in row.cells label)) labels) (sym has.0) ∙ at_own row.cells (ap are_distinct has.0 ∙ has.1))

-- ---- what the SQL gives for a row

module _ (tables : Tables) (params : List Base) where
  -- the row that may change, and what is captured
  row-shows : (labels : List (List ℕ)) (captured : List Captured) → ShowAll tables params 1 (change_names labels captured) (λ k s. change_values (at_labels labels (s 1)) captured params k)
  row-shows labels captured k = step (k == 0)
    where
      step : (b : Bool) → Shows tables params 1 (if b then as_row (λ scope. columns_of 1 labels) else names_from 1 (bindings_from 1 captured) k) (λ s. if b then of_row (at_labels labels (s 1)) else values_from params 1 (bindings_from 1 captured) k)
      step true = shows_row tables params 1 (λ scope. columns_of 1 labels) (λ s. at_labels labels (s 1)) (λ m l s. row-columns tables params 1 labels s) (λ s t a. ap (at_labels labels) (a 1 (omega arith)))
      step false = Shows-more tables params 0 1 (names_from 1 (bindings_from 1 captured) k) (λ s. values_from params 1 (bindings_from 1 captured) k) (omega arith) (captured-show tables params 1 (bindings_from 1 captured) k)

  part-gives :
      (change : InlinedChange) (n : ℕ) (row : Row) (scope : Scope) → HasColumns change.labels row →
      value tables params ((norms change.parts n (change_names change.labels change.captured)).base 1) (with_row 1 row scope) ≡ (gives tables change.parts n (change_values row change.captured params)).base
  part-gives change n row scope has =
      (follows tables params change.parts n 1 (change_names change.labels change.captured) (λ k s. change_values (at_labels change.labels (s 1)) change.captured params k) (row-shows change.labels change.captured)).base 1 (omega arith) (with_row 1 row scope)
      ∙ ap (λ r. (gives tables change.parts n (change_values r change.captured params)).base) (at_columns change.labels row has)

pub condition : ConditionLaw
condition change tables params row scope has = part-gives tables params change change.cond row scope has

pub sets : SetsLaw
sets change tables params row scope has = each change.sets
  where
    each : (items : List Labelled) →
        map (λ (set : Out). cell_with set.label (value tables params set.scalar (with_row 1 row scope))) (map (λ (item : Labelled). output item.label ((norms change.parts item.part (change_names change.labels change.captured)).base 1)) items)
        ≡ map (λ (item : Labelled). cell_with item.label (gives tables change.parts item.part (change_values row change.captured params)).base) items
    each [] = refl
    each (item ∷ items) = ap₂ (λ b cells. cell_with item.label b ∷ cells) (part-gives tables params change item.part row scope has) (each items)

-- ---- what becomes of a row

module _ (tables : Tables) (change : InlinedChange) (reads : gives tables change.parts ≡ gives (λ name. []) change.parts) (params : List Base) (row : Row) (has : HasColumns change.labels row) where
  -- a part gives what it does where no table has rows
  part-alone : (n : ℕ) → value tables params ((norms change.parts n (change_names change.labels change.captured)).base 1) (with_row 1 row no_rows) ≡ inlined.given_alone change.parts n (change_values row change.captured params)
  part-alone n = part-gives tables params change n row no_rows has ∙ ap (λ g. (g n (change_values row change.captured params)).base) reads

  same-test : sql.is_changed tables params (change_sql change) row ≡ inlined.is_changed change params row
  same-test = ap truth (part-alone change.cond)

  same-set :
      (items : List Labelled) (label : List ℕ) (old : Base) →
      sql.set_to tables params row (map (λ (item : Labelled). output item.label ((norms change.parts item.part (change_names change.labels change.captured)).base 1)) items) label old
      ≡ inlined.set_to change.parts (change_values row change.captured params) items label old
  same-set [] label old = refl
  same-set (item ∷ items) label old = ap₂ (λ b c. if bytes_eq item.label label then b else c) (part-alone item.part) (same-set items label old)

  same-cells :
      (cells : List Cell) →
      map (λ (cell : Cell). cell_with cell.label (sql.set_to tables params row (change_sql change).sets cell.label cell.value)) cells
      ≡ map (λ (cell : Cell). cell_with cell.label (inlined.set_to change.parts (change_values row change.captured params) change.sets cell.label cell.value)) cells
  same-cells [] = refl
  same-cells (cell ∷ cells) = ap₂ (λ b cells'. cell_with cell.label b ∷ cells') (same-set change.sets cell.label cell.value) (same-cells cells)

  same-row : sql.changed tables params (change_sql change) row ≡ inlined.changed change params row
  same-row = ap₂ (λ b cells. if b then row_with cells else row) same-test (same-cells row.cells)

pub changed : ChangeLaw
changed change params row has = (same-test (λ name. []) change refl params row has, same-row (λ name. []) change refl params row has)

pub changed_over : ChangeOverLaw
changed_over change tables none params row has =
    let reads = gives-same tables (λ name. []) change.parts none in
    (same-test tables change reads params row has, same-row tables change reads params row has)
