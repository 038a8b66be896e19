-- What a table's columns are, by a map from their labels in ascending order.
use Rattle.std.proofs.Common.{◌≡◌, ℕ, List, [], ◌∷◌, ◌++◌, map, nat_cmp, refl, sym, ap, ◌∙◌, String, string_bytes}
use Rattle.std.specs.Cmp.Lexicographic.{slice_cmp}
use Rattle.std.specs.FinMap.{FinMap, entries, insert, empty, put}
use Rattle.lk_ast.specs.Tables.{kinds}
use Rattle.lk_bag.specs.Columns.{columns_of}
use Rattle.lk_ast.specs.declared.declaration.ColumnDecl.{ColumnDecl}
use Rattle.lk_ast.specs.declared.table.BaseKind.{BaseKind}
use Rattle.lk_ast.specs.declared.table.Column.{Column}
use Rattle.lk_operators.proofs.Ascending.{AreAscending, entries-finite, finite, keyed}

-- an entry of a map as a column
abbrev pub column : {Z : Type 0} → String Z × BaseKind → Column
column e = record { label = string_bytes e.0; kind = e.1 }

entries_as_columns : {Z : Type 0} (es : List (String Z × BaseKind)) → map column es ≡ map {A = List ℕ × BaseKind} (λ entry. record { label = entry.0; kind = entry.1 }) (map keyed es)
entries_as_columns [] = refl
entries_as_columns (e ∷ es) = ap (λ columns. column e ∷ columns) (entries_as_columns es)

pub columns-finite : {Z : Type 0} (es : List (String Z × BaseKind)) → AreAscending es → map column es ≡ columns_of (finite es)
columns-finite es s = entries_as_columns es ∙ ap (map (λ entry. record { label = entry.0; kind = entry.1 })) (sym (entries-finite es s))

-- columns put in before what is there, the last of them first
abbrev pub put_all : List ColumnDecl → FinMap (slice_cmp nat_cmp) BaseKind → FinMap (slice_cmp nat_cmp) BaseKind
put_all [] found = found
put_all (column ∷ columns) found = insert (put_all columns found) column.label.text column.kind

pub put_last : (columns left : List ColumnDecl) (column : ColumnDecl) (found : FinMap (slice_cmp nat_cmp) BaseKind) → columns ≡ left ++ column ∷ [] → put_all left (insert found column.label.text column.kind) ≡ put_all columns found
put_last columns left column found is = at_end left ∙ ap (λ all. put_all all found) (sym is)
  where
    at_end : (left : List ColumnDecl) → put_all left (insert found column.label.text column.kind) ≡ put_all (left ++ column ∷ []) found
    at_end [] = refl
    at_end (other ∷ left) = ap (λ m. insert m other.label.text other.kind) (at_end left)

pub put_onto_none : (columns : List ColumnDecl) → put_all columns empty ≡ kinds columns
put_onto_none [] = refl
put_onto_none (column ∷ columns) = ap (λ m. insert m column.label.text column.kind) (put_onto_none columns)
