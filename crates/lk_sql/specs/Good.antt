-- When SQL is well formed: each list of selects has one, and all of them have the same columns; the columns have distinct labels,
-- which stand in byte order; the keys are distinct ones of these labels; each operation has as many operands as it takes. An update sets
-- distinct columns.
use Rattle.std.specs.Prelude.{ℕ, Bool, true, false, not, ◌&&◌, List, [], ◌∷◌, map, length, ◌==◌, bytes_eq}
use Rattle.std.specs.Cmp.Lexicographic.{slice_cmp}
use Rattle.std.specs.List.{list_all, list_any}
use Rattle.std.specs.Ordering.{nat_cmp, is_lt}
use Rattle.lk_sql.specs.declared.tree.Change.{Change}
use Rattle.lk_sql.specs.declared.tree.Key.{Key}
use Rattle.lk_sql.specs.declared.tree.Out.{Out, fold-Out}
use Rattle.lk_sql.specs.declared.tree.Scalar.{Scalar}
use Rattle.lk_sql.specs.declared.tree.Scalar.TheFolds.{fold-Scalar}
use Rattle.lk_sql.specs.declared.tree.Scalar.TheOpen.{Scalar-F, Out-F, Select-F}
use Rattle.lk_sql.specs.declared.tree.Select.{Select, fold-Select}
use Rattle.lk_sql.specs.declared.tree.Sql.{Sql}
use Rattle.lk_sql.specs.declared.tree.SqlOp.{SqlOp}
use Rattle.lk_sql.specs.declared.tree.SqlOp.TheVariants as op

-- ---- labels

abbrev pub comes_before : List ℕ → List ℕ → Bool
comes_before l m = is_lt (slice_cmp nat_cmp l m)

-- in byte order, none of them twice
abbrev pub are_in_order : List (List ℕ) → Bool
are_in_order [] = true
are_in_order (l ∷ []) = true
are_in_order (l ∷ m ∷ labels) = comes_before l m && are_in_order (m ∷ labels)

abbrev pub are_same : List (List ℕ) → List (List ℕ) → Bool
are_same [] [] = true
are_same (l ∷ ls) (m ∷ ms) = bytes_eq l m && are_same ls ms
are_same ls ms = false

abbrev pub is_there : List (List ℕ) → List ℕ → Bool
is_there labels l = list_any (bytes_eq l) labels

abbrev pub are_distinct : List (List ℕ) → Bool
are_distinct [] = true
are_distinct (l ∷ labels) = not (is_there labels l) && are_distinct labels

-- ---- scalars and selects

-- the labels of columns, and whether all is well formed
abbrev pub Judged : Type 0
Judged = List (List ℕ) × Bool

abbrev pub operand_count : SqlOp → ℕ
operand_count op.Neg = 1
operand_count op.Not = 1
operand_count other = 2

-- whether these are at least one, each well formed, with the same labels
abbrev pub are_alike : List Judged → Bool
are_alike [] = false
are_alike (first ∷ rest) = first.1 && list_all (λ (other : Judged). are_same first.0 other.0 && other.1) rest

abbrev pub scalar_level : Scalar-F Bool (List ℕ × Bool) Judged → Bool
scalar_level (Scalar-F.Lit b) = true
scalar_level (Scalar-F.Param k) = true
scalar_level (Scalar-F.Column n label) = true
scalar_level (Scalar-F.Op o operands) = (length operands == operand_count o) && list_all (λ good. good) operands
scalar_level (Scalar-F.Case c a b) = c && (a && b)
scalar_level (Scalar-F.Exists selects) = are_alike selects

abbrev pub out_level : Out-F Bool (List ℕ × Bool) Judged → List ℕ × Bool
out_level out = (out.label, out.scalar)

abbrev has_one : List (List ℕ) → Bool
has_one [] = false
has_one (l ∷ labels) = true

abbrev pub select_level : Select-F Bool (List ℕ × Bool) Judged → Judged
select_level select =
    let labels : List (List ℕ) = map (λ (out : List ℕ × Bool). out.0) select.outs in
    (labels, has_one labels && (are_in_order labels && (select.cond && list_all (λ (out : List ℕ × Bool). out.1) select.outs)))

unfoldable pub is_good : Scalar → Bool
is_good = fold-Scalar Bool (List ℕ × Bool) Judged scalar_level out_level select_level

unfoldable pub judged : Select → Judged
judged = fold-Select Bool (List ℕ × Bool) Judged scalar_level out_level select_level

-- ---- queries

abbrev pub first_labels : List Judged → List (List ℕ)
first_labels [] = []
first_labels (first ∷ rest) = first.0

abbrev pub is_good_sql : Sql → Bool
is_good_sql sql =
    are_alike (map judged sql.selects)
    && (are_distinct (map (λ (key : Key). key.label) sql.keys) && list_all (λ (key : Key). is_there (first_labels (map judged sql.selects)) key.label) sql.keys)

-- ---- updates and deletions

-- the columns that are set are distinct
abbrev pub is_good_change : Change → Bool
is_good_change change = is_good change.cond && (are_distinct (map (λ (set : Out). set.label) change.sets) && list_all (λ (set : Out). is_good set.scalar) change.sets)
