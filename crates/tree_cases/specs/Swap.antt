-- Tables with two columns of numbers, and what swaps these.
use Rattle.std.specs.Prelude.{ℕ, List, [], ◌∷◌, codes}
use Rattle.lk_ast.specs.declared.table.BaseKind.TheVariants as kind
use Rattle.lk_ast.specs.declared.table.Column.{Column}
use Rattle.lk_sql.specs.declared.tree.Out.{Out}
use Rattle.lk_sql.specs.declared.tree.Scalar.TheVariants as scalar

abbrev pub two_numbers : List Column
two_numbers = record { label = codes "a"; kind = kind.Int } ∷ record { label = codes "b"; kind = kind.Int } ∷ []

-- sets a column to another one of the same row
abbrev pub set : List ℕ → List ℕ → Out
set label other = record { label = label; scalar = scalar.Column 1 other }

abbrev pub swap : List Out
swap = set (codes "a") (codes "b") ∷ set (codes "b") (codes "a") ∷ []
