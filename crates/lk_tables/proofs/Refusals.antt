-- Why values are refused as rows.
use Rattle.std.proofs.Common.{◌≡◌, ℕ, List, map, length, nat_lt, Bool, true, false, Option, Some, None, is_some, refl, sym, ap, ◌∙◌, subst, true≢false, if◌then◌else◌}
use Rattle.std.specs.Prelude.{IfSome}
use Rattle.std.specs.Bool.{then_some}
use Rattle.std.specs.List.{list_all}
use Rattle.std.proofs.lemmas.List.{length-map}
use Rattle.std.proofs.lemmas.List.Folds.{list_all-map}
use Rattle.serde_json.specs.Data.{Data}
use Rattle.serde_json.specs.Find.{as_array}
use Rattle.serde_json.specs.View.{view, items_view}
use Rattle.serde_json.specs.declared.value.Value.{Value}
use Rattle.lk_ast.specs.Limits.{most_rows}
use Rattle.lk_ast.specs.declared.table.Column.{Column}
use Rattle.lk_ast.specs.declared.table.Row.{Row}
use Rattle.lk_tables.specs.declared.error.TablesError.TheVariants.{BadRows, TooManyRows}
use Rattle.lk_tables.specs.Choices.{all_some}
use Rattle.lk_tables.specs.Reading.{row_of, rows_of, rows_refusal}
use Rattle.lk_tables.proofs.Lists.{some_of_all, as_many}
use Rattle.lk_tables.proofs.Members.{rows_of_array}

-- whether each of an array's elements is a row says whether it has rows
has_rows : (columns : List Column) (vs : List Value) (d : Data) (b : Bool) → Some (items_view vs) ≡ as_array d → b ≡ list_all (λ v. is_some (row_of columns (view v))) vs → is_some (rows_of columns d) ≡ b
has_rows columns vs d b is test =
    ap is_some (rows_of_array columns vs d is) ∙ some_of_all (row_of columns) (map view vs) ∙ list_all-map (λ d. is_some (row_of columns d)) view vs ∙ sym test

refused_none : (o : Option (List Row)) → is_some o ≡ false → Some BadRows ≡ rows_refusal o
refused_none None e = refl
refused_none (Some rows) e = absurd (true≢false e)

if_many : (b : Bool) → then_some b TooManyRows ≡ (if b then Some TooManyRows else None)
if_many true = refl
if_many false = refl

refused_many : (n : ℕ) (o : Option (List Row)) → is_some o ≡ true → IfSome o (λ rows. length rows ≡ n) → then_some (nat_lt most_rows n) TooManyRows ≡ rows_refusal o
refused_many n None e so = absurd (true≢false (sym e))
refused_many n (Some rows) e so = if_many _ ∙ ap (λ (m : ℕ). if nat_lt most_rows m then Some TooManyRows else None) (sym so)

abbrev all_rows : List Column → List Value → Bool
all_rows columns vs = list_all (λ v. is_some (row_of columns (view v))) vs

pub bad_rows : (columns : List Column) (vs seen : List Value) (d : Data) → Some (items_view vs) ≡ as_array d → seen ≡ vs → false ≡ all_rows columns seen → Some BadRows ≡ rows_refusal (rows_of columns d)
bad_rows columns vs seen d is same test = refused_none _ (has_rows columns vs d false is (test ∙ ap (all_rows columns) same))

pub many_rows : (columns : List Column) (vs seen : List Value) (d : Data) → Some (items_view vs) ≡ as_array d → seen ≡ vs → true ≡ all_rows columns seen
    → then_some (nat_lt most_rows (length vs)) TooManyRows ≡ rows_refusal (rows_of columns d)
many_rows columns vs seen d is same test =
    refused_many (length vs) _ (has_rows columns vs d true is (test ∙ ap (all_rows columns) same))
    (subst (λ o. IfSome o (λ rows. length rows ≡ length vs)) (sym (rows_of_array columns vs d is))
    (subst (λ (n : ℕ). IfSome (all_some (row_of columns) (map view vs)) (λ rows. length rows ≡ n)) (length-map vs view) (as_many (row_of columns) (map view vs))))
