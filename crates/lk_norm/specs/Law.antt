-- The laws of the normal form: it gives the same bag as the query (Cheney, Lindley and Wadler, A practical theory of
-- language-integrated query, ICFP 2013), how many branches it has is known without it, and a change in it does the same to rows.
use Rattle.std.specs.Prelude.{◌≡◌, ℕ, Bool, true, List, [], length, map, IsPermutation}
use Rattle.lk_ast.specs.Tables.{Tables}
use Rattle.lk_ast.specs.declared.table.Base.{Base}
use Rattle.lk_ast.specs.declared.table.Cell.{Cell}
use Rattle.lk_ast.specs.declared.table.Column.{Column}
use Rattle.lk_ast.specs.declared.table.Row.{Row}
use Rattle.lk_sql.specs.Bags.{SameBag}
use Rattle.lk_sql.specs.Change as sql
use Rattle.lk_sql.specs.Good.{are_distinct, is_good_change, is_good_sql}
use Rattle.lk_sql.specs.Meaning.{Scope, all_rows, no_rows, value, with_row}
use Rattle.lk_sql.specs.declared.tree.FromItem.{FromItem}
use Rattle.lk_sql.specs.declared.tree.Out.{Out}
use Rattle.lk_sql.specs.declared.tree.Scalar.{Scalar}
use Rattle.lk_query.specs.Branches.{counts}
use Rattle.lk_query.specs.Captured.{Binding, change_values, query_values, values_from}
use Rattle.lk_query.specs.Changed as inlined
use Rattle.lk_query.specs.Changed.{ReadNoTable}
use Rattle.lk_query.specs.Given.{cell_with, gives}
use Rattle.lk_query.specs.Kinds.{IsTyped, IsTypedChange, Kind}
use Rattle.lk_query.specs.Order.{AreOrdered}
use Rattle.lk_query.specs.declared.part.Labelled.{Labelled}
use Rattle.lk_query.specs.declared.part.Part.{Part}
use Rattle.lk_query.specs.declared.query.InlinedChange.{InlinedChange}
use Rattle.lk_query.specs.declared.query.Query.{Query}
use Rattle.lk_norm.specs.Captured.{names_from}
use Rattle.lk_norm.specs.Normal.{Names, StandsFor, always, norms, selects}
use Rattle.lk_norm.specs.Sql.{change_sql, query_sql}

abbrev pub NormalFormLaw : Type 0
NormalFormLaw = (parts : List Part) (root : ℕ) (columns : List Column) (captured : List Binding) (tables : Tables) (params : List Base) (scope : Scope)
    → SameBag (all_rows tables params (selects columns ((norms parts root (names_from 1 captured)).list 0 [] always)) scope) (gives tables parts root (values_from params 1 captured)).list

-- the rows of the SQL of a query are those that it gives, in some order
abbrev pub PermutedLaw : Type 0
PermutedLaw = (query : Query) (tables : Tables) (params : List Base)
    → IsPermutation (all_rows tables params (query_sql query).selects no_rows) (gives tables query.parts query.root (query_values query.captured params)).list

-- no name stands for a list
abbrev pub NoLists : Names → Type 0
NoLists names = (n outer : ℕ) (froms : List FromItem) (cond : Scalar) → (names n).list outer froms cond ≡ []

-- so many branches, behind whatever stands before them
abbrev pub HasBranches : StandsFor → ℕ → Type 0
HasBranches stands count = (names : Names) → NoLists names → (outer : ℕ) (froms : List FromItem) (cond : Scalar) → length ((stands names).list outer froms cond) ≡ count

abbrev pub CountLaw : Type 0
CountLaw = (parts : List Part) (n : ℕ) → HasBranches (norms parts n) (counts parts n)

-- ---- well-formed SQL

-- the SQL of a query or of a change is well formed, where each of its parts gives a thing of its kind
abbrev pub GoodLaw : Type 0
GoodLaw = (query : Query) (kinds : ℕ → Kind) (scopes : ℕ → ℕ → Bool) → AreOrdered query.parts → IsTyped kinds scopes query → is_good_sql (query_sql query) ≡ true

abbrev pub GoodChangeLaw : Type 0
GoodChangeLaw = (change : InlinedChange) (kinds : ℕ → Kind) (scopes : ℕ → ℕ → Bool) → AreOrdered change.parts → IsTypedChange kinds scopes change → is_good_change (change_sql change) ≡ true

-- ---- changes

-- the row has these columns, none of them twice
abbrev pub HasColumns : List (List ℕ) → Row → Type 0
HasColumns labels row = (map (λ (cell : Cell). cell.label) row.cells ≡ labels) × (are_distinct labels ≡ true)

-- the condition and what is set, of a row under whatever else is in scope
abbrev pub ConditionLaw : Type 0
ConditionLaw = (change : InlinedChange) (tables : Tables) (params : List Base) (row : Row) (scope : Scope) → HasColumns change.labels row
    → value tables params (change_sql change).cond (with_row 1 row scope) ≡ (gives tables change.parts change.cond (change_values row change.captured params)).base

abbrev pub SetsLaw : Type 0
SetsLaw = (change : InlinedChange) (tables : Tables) (params : List Base) (row : Row) (scope : Scope) → HasColumns change.labels row
    → map (λ (set : Out). cell_with set.label (value tables params set.scalar (with_row 1 row scope))) (change_sql change).sets
    ≡ map (λ (item : Labelled). cell_with item.label (gives tables change.parts item.part (change_values row change.captured params)).base) change.sets

-- the SQL of a change makes of a row what the change does: where no table has rows, and over any tables where the change reads none
abbrev pub MakesSame : InlinedChange → Tables → Type 0
MakesSame change tables = (params : List Base) (row : Row) → HasColumns change.labels row
    → (sql.is_changed tables params (change_sql change) row ≡ inlined.is_changed change params row)
    × (sql.changed tables params (change_sql change) row ≡ inlined.changed change params row)

abbrev pub ChangeLaw : Type 0
ChangeLaw = (change : InlinedChange) → MakesSame change (λ name. [])

abbrev pub ChangeOverLaw : Type 0
ChangeOverLaw = (change : InlinedChange) (tables : Tables) → ReadNoTable change.parts → MakesSame change tables
