-- What captured values stand for in the normal form: parameters, which are counted from 1.
use Rattle.std.specs.Prelude.{ℕ, ◌+◌, List, [], ◌∷◌, Some, None, length}
use Rattle.lk_sql.specs.declared.tree.Out.{Out}
use Rattle.lk_sql.specs.declared.tree.Scalar.TheVariants as scalar
use Rattle.lk_query.specs.Captured.{Binding}
use Rattle.lk_query.specs.Order.{bind}
use Rattle.lk_norm.specs.Normal.{Names, as_base, as_row, nothing, output}

-- parameters from number k on
abbrev pub outputs_from : ℕ → List (List ℕ) → List Out
outputs_from k [] = []
outputs_from k (label ∷ labels) = output label (scalar.Param k) ∷ outputs_from (k + 1) labels

abbrev pub names_from : ℕ → List Binding → Names
names_from k [] = λ n. nothing
names_from k ((n, None) ∷ bound) = bind n (as_base (λ scope. scalar.Param k)) (names_from (k + 1) bound)
names_from k ((n, Some labels) ∷ bound) = bind n (as_row (λ scope. outputs_from k labels)) (names_from (k + length labels) bound)
