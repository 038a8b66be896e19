-- What the code's walks of lists make: selects of branches, each as long as bytes are left for its text.
use Rattle.std.specs.Prelude.{◌≡◌, ℕ, ◌+◌, Bool, List, [], ◌∷◌, ◌++◌, map, length, Option, Some, None, Result, Ok, Err, if◌then◌else◌}
use Rattle.std.specs.List.{flat_map}
use Rattle.lk_ast.specs.declared.table.Column.{Column}
use Rattle.lk_sql.specs.Text.{from_text, key_text, name_text, select_text}
use Rattle.lk_sql.specs.declared.tree.FromItem.{FromItem}
use Rattle.lk_sql.specs.declared.tree.Key.{Key}
use Rattle.lk_sql.specs.declared.tree.Out.{Out}
use Rattle.lk_sql.specs.declared.tree.Scalar.{Scalar}
use Rattle.lk_sql.specs.declared.tree.Select.{Select}
use Rattle.lk_sql.specs.declared.tree.Sql.{Sql}
use Rattle.lk_query.specs.Order.{bind}
use Rattle.lk_query.specs.declared.part.Part.{Part}
use Rattle.lk_query.specs.declared.query.Captured.{Captured}
use Rattle.lk_norm.specs.Made.{MakesBy, StopsFor, behind, paid, taken}
use Rattle.lk_norm.specs.Normal.{Branch, Stands, always, as_row, both, branch, columns_of, conjunction, generator, is_always, negation, no_select, norms, output, select, selects}
use Rattle.lk_norm.specs.Scopes.{base_in, names_in, row_in}
use Rattle.lk_norm.specs.Sql.{query_names}
use Rattle.lk_norm.specs.declared.names.Scope.{Scope}
use Rattle.lk_norm.specs.declared.places.Froms.{Froms}
use Rattle.lk_norm.specs.declared.places.Froms.TheVariants as froms
use Rattle.lk_norm.specs.declared.places.Place.{Place}
use Rattle.lk_norm.specs.declared.places.Row.{Row}
use Rattle.lk_norm.specs.declared.places.Row.TheVariants as row
use Rattle.lk_norm.specs.declared.places.Tests.{Tests}
use Rattle.lk_norm.specs.declared.places.Tests.TheVariants as tests
use Rattle.lk_norm.specs.declared.places.Then.{Then}
use Rattle.lk_norm.specs.declared.places.Then.TheVariants as then
use Rattle.lk_norm.specs.declared.stop.Stop.{Stop}

-- ---- places

unfoldable pub froms_in : Froms → List FromItem
froms_in froms.Nothing = []
froms_in (froms.More' p before n table) = froms_in before ++ generator n table.now ∷ []

-- the branches of a list, behind this condition
abbrev pub list_at : Place → Stands → Scalar → List Branch
list_at place stands cond = stands.list place.outer (froms_in place.froms.now) cond

module _ (parts : List Part) where
  abbrev pub row_of : Row → List Out
  row_of (row.Part item count scope) = row_in parts item count scope.now
  row_of (row.Columns n labels) = columns_of n labels.now

  abbrev pub test_in : ℕ → Bool → ℕ → Scope → Scalar
  test_in c negated count scope = if negated then negation (base_in parts c count scope) else base_in parts c count scope

  unfoldable pub tests_in : Tests → Scalar
  tests_in tests.Nothing = always
  tests_in (tests.More' p before c negated count scope) = conjunction (tests_in before) (test_in c negated count scope.now)

  unfoldable pub then_in : Then → ℕ → Branch → List Select
  then_in then.Select outer = λ b. select b ∷ []
  then_in (then.Body' body x scope p rest) outer =
      λ b. flat_map (then_in rest outer) ((norms parts body (bind x (as_row (λ n. b.outs)) (names_in parts scope.now))).list outer b.froms b.cond)

  -- a branch with that row
  abbrev pub branch_at : Row → Place → Branch
  branch_at row place = branch (froms_in place.froms.now) (tests_in place.tests.now) (row_of row)

  abbrev pub branches_at : ℕ → Place → Scope → List Branch
  branches_at at place scope = list_at place (norms parts at (names_in parts scope)) (tests_in place.tests.now)

  -- those behind one test more
  abbrev pub tested_at : ℕ → Bool → ℕ → Place → Scope → List Branch
  tested_at c negated at place scope = list_at place (norms parts at (names_in parts scope)) (conjunction (tests_in place.tests.now) (test_in c negated (place.outer + length (froms_in place.froms.now)) scope))

  -- the branches of these records
  abbrev pub items_at : List ℕ → Place → Scope → List Branch
  items_at items place scope = map (λ item. branch (froms_in place.froms.now) (tests_in place.tests.now) (row_in parts item (place.outer + length (froms_in place.froms.now)) scope)) items

  -- those of a select, or of a query, which stand behind nothing
  abbrev pub branches_of : ℕ → ℕ → Scope → List Branch
  branches_of at outer scope = (norms parts at (names_in parts scope)).list outer [] always

  abbrev pub then_at : Place → Branch → List Select
  then_at place = then_in place.then.now place.outer

-- ---- rows

-- an output for each label
abbrev pub labelled : (List ℕ → Scalar) → List (List ℕ) → List Out
labelled f labels = map (λ label. output label (f label)) labels

-- what is left behind a label: ` AS "l"`, and `, ` before the next output
abbrev pub label_paid : List ℕ → ℕ → Option ℕ
label_paid label left = behind (taken 6 left) (taken (length (name_text label)))

abbrev pub outs_paid : List Out → ℕ → Option ℕ
outs_paid [] left = Some left
outs_paid (out ∷ outs) left = behind (paid out.scalar left) (λ l. behind (label_paid out.label l) (outs_paid outs))

abbrev pub MakesOuts : Result (List Out) Stop → ℕ → List Out → ℕ → Type 0
MakesOuts result after outs before = MakesBy result after outs (outs_paid outs before)

-- ---- conditions, of which TRUE is left out

abbrev pub cond_of : Scalar → Option Scalar
cond_of s = if is_always s then None else Some s

abbrev pub cond_paid : Scalar → ℕ → Option ℕ
cond_paid s left = if is_always s then Some left else paid s left

abbrev pub joined : Option Scalar → Option Scalar → Option Scalar
joined None next = next
joined (Some s) None = Some s
joined (Some s) (Some t) = Some (both s t)

-- what is left behind ` AND ` and brackets
abbrev pub joined_paid : Option Scalar → Option Scalar → ℕ → Option ℕ
joined_paid (Some s) (Some t) left = taken 7 left
joined_paid cond next left = Some left

-- with TRUE where there is none
abbrev pub whole : Option Scalar → Scalar
whole None = always
whole (Some s) = s

abbrev pub whole_paid : Option Scalar → ℕ → Option ℕ
whole_paid None left = taken 4 left
whole_paid (Some s) left = Some left

-- ---- selects

-- of these texts, each with so many bytes before it
abbrev pub total : {X : Type 0} → ℕ → (X → List ℕ) → List X → ℕ
total between f [] = 0
total between f (x ∷ xs) = between + length (f x) + total between f xs

-- of generators, each with `, `, or with what ` FROM ` is longer by left out
abbrev pub froms_length : List FromItem → ℕ
froms_length froms = total 2 from_text froms

-- of the words around generators and outputs
abbrev pub words_length : List FromItem → List Out → ℕ
words_length [] [] = 14
words_length [] (out ∷ outs) = 12
words_length (from ∷ froms) [] = 18
words_length (from ∷ froms) (out ∷ outs) = 16

unfoldable pub select_paid : Select → ℕ → Option ℕ
select_paid s left = taken (length (select_text s)) left

-- what is left behind selects, each with ` UNION ALL `
abbrev pub all_paid : List Select → ℕ → Option ℕ
all_paid [] left = Some left
all_paid (s ∷ selects) left = behind (taken 11 left) (λ l. behind (select_paid s l) (all_paid selects))

-- one where there is none
abbrev pub or_none : List Column → List Select → List Select
or_none columns [] = no_select columns ∷ []
or_none columns (s ∷ selects) = s ∷ selects

-- what is left behind the one that stands where there is none
abbrev pub or_none_paid : List Column → List Select → ℕ → Option ℕ
or_none_paid columns [] left = all_paid (no_select columns ∷ []) left
or_none_paid columns (s ∷ selects) left = Some left

-- the code adds these selects, and this is what is left
abbrev pub Adds : {X : Type 0} → Result X Stop → List Select → List Select → ℕ → List Select → ℕ → Type 0
Adds (Ok x) old new after more before = (new ≡ old ++ more) × (all_paid more before ≡ Some after)
Adds (Err why) old new after more before = StopsFor why (all_paid more before)

-- ---- queries

abbrev pub keys_words : List Key → ℕ
keys_words [] = 0
keys_words (key ∷ keys) = 8

abbrev pub keys_length : List Key → ℕ
keys_length keys = keys_words keys + total 2 key_text keys

-- the SQL of the part with that number
abbrev pub sql_over : List Part → ℕ → List Captured → List Column → List Key → Sql
sql_over parts root captured columns keys = record { selects = selects columns ((norms parts root (query_names captured)).list 0 [] always); keys = keys }

-- what is left behind keys and selects, each with ` UNION ALL `
abbrev pub sql_paid : Sql → ℕ → Option ℕ
sql_paid sql left = behind (taken (keys_length sql.keys) left) (all_paid sql.selects)
