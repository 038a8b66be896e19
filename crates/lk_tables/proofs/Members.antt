-- A serde_json value beside the elements and members that it has.
use Rattle.std.proofs.Common.{◌≡◌, ℕ, List, [], ◌∷◌, map, length, nat_eq, Bool, true, false, if◌then◌else◌, Option, Some, None, String, Global, refl, sym, ap, ◌∙◌, true≢false}
use Rattle.std.specs.List.{list_all}
use Rattle.std.specs.Option.{is_some}
use Rattle.std.specs.Prelude.{option_map, option_and_then, unwrap_or, ◌==◌}
use Rattle.serde_json.specs.Data.{Data}
use Rattle.serde_json.specs.Events.{members_len}
use Rattle.serde_json.specs.Find.{as_object, as_array}
use Rattle.serde_json.specs.View.{view, items_view, members_view}
use Rattle.serde_json.specs.declared.value.Value.{Value}
use Rattle.serde_json.proofs.Views.{members_len-members_view}
use Rattle.lk_ast.specs.declared.table.Cell.{Cell}
use Rattle.lk_ast.specs.declared.table.Column.{Column}
use Rattle.lk_ast.specs.declared.table.Row.{Row}
use Rattle.lk_tables.proofs.Lists.{some_of_all}
use Rattle.lk_tables.specs.Choices.{all_some}
use Rattle.lk_tables.specs.Reading.{elements, cell_of, has_members, row_of, rows_of}

pub elements_view : (vs : List Value) → elements (items_view vs) ≡ map view vs
elements_view [] = refl
elements_view (v ∷ vs) = ap (λ rest. view v ∷ rest) (elements_view vs)

pub has_members_of : (es : List (String Global × Value)) (n : ℕ) (d : Data) → Some (members_view es) ≡ as_object d → nat_eq (length es) n ≡ has_members n d
has_members_of es n d is =
    ap (λ (len : ℕ). nat_eq len n) (sym (members_len-members_view es))
    ∙ ap (λ o. unwrap_or (option_map (λ members. members_len members == n) o) false) is

-- the rows that an array is
pub rows_of_array : (columns : List Column) (vs : List Value) (d : Data) → Some (items_view vs) ≡ as_array d → rows_of columns d ≡ all_some (row_of columns) (map view vs)
rows_of_array columns vs d is =
    ap (λ o. option_and_then (λ items. all_some (row_of columns) (elements items)) o) (sym is)
    ∙ ap (all_some (row_of columns)) (elements_view vs)

is_some_if : (b : Bool) (cells : Option (List Cell)) → b ≡ true → is_some (if b then option_map {U = Row} (λ cells. record { cells = cells }) cells else None) ≡ is_some cells
is_some_if true None e = refl
is_some_if true (Some cells) e = refl
is_some_if false cells e = absurd (true≢false (sym e))

-- an object with as many members as there are columns is a row if it has a cell for each
pub is_row_with : (columns : List Column) (d : Data) → has_members (length columns) d ≡ true → is_some (row_of columns d) ≡ list_all (λ column. is_some (cell_of d column)) columns
is_row_with columns d has = is_some_if _ _ has ∙ some_of_all (cell_of d) columns
