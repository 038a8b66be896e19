-- Captured values as parameters, and the law of the normal form.
use Rattle.std.proofs.Common.{◌≡◌, ℕ, ◌+◌, ◌==◌, if◌then◌else◌, Bool, true, false, List, [], ◌∷◌, length, Some, None, refl, ap₂}
use Rattle.lk_ast.specs.Tables.{Tables}
use Rattle.lk_ast.specs.declared.table.Base.{Base}
use Rattle.lk_sql.specs.Meaning.{Scope, all_rows, no_rows}
use Rattle.lk_sql.specs.declared.tree.Scalar.TheVariants as scalar
use Rattle.lk_query.specs.Captured.{Binding, bindings_from, cells_from, parameter, query_values, values_from}
use Rattle.lk_query.specs.Given.{Given, cell_with, gives, of_base, of_row, row_with}
use Rattle.lk_query.specs.Order.{bind}
use Rattle.lk_norm.specs.Captured.{names_from, outputs_from}
use Rattle.lk_norm.specs.Law.{NormalFormLaw, PermutedLaw}
use Rattle.lk_norm.specs.Normal.{Stands, as_base, as_row}
use Rattle.lk_norm.specs.Sql.{query_sql}
use Rattle.lk_norm.proofs.Bags.{rows-permutation}
use Rattle.lk_norm.proofs.Shows.{ShowAll, Shows, cells, shows_base, shows_nothing, shows_row}
use Rattle.lk_sql.proofs.MeaningForms.{value_param}
use Rattle.lk_norm.proofs.Whole.{whole}

module _ (tables : Tables) (params : List Base) where
  cells_from-are : (k : ℕ) (labels : List (List ℕ)) (s : Scope) → cells tables params (outputs_from k labels) s ≡ cells_from params k labels
  cells_from-are k [] s = refl
  cells_from-are k (label ∷ labels) s = ap₂ (λ b cells. cell_with label b ∷ cells) (value_param tables params k s) (cells_from-are (k + 1) labels s)

  either : (x : ℕ) (a : Stands) (v : Given) (names : ℕ → Stands) (values : ℕ → Given) → Shows tables params 0 a (λ s. v) → ShowAll tables params 0 names (λ k s. values k) → ShowAll tables params 0 (bind x a names) (λ k s. bind x v values k)
  either x a v names values h i k = step (k == x)
    where
      step : (b : Bool) → Shows tables params 0 (if b then a else names k) (λ s. if b then v else values k)
      step true = h
      step false = i k

  pub captured-show : (k : ℕ) (captured : List Binding) → ShowAll tables params 0 (names_from k captured) (λ i s. values_from params k captured i)
  captured-show k [] = λ i. shows_nothing tables params 0
  captured-show k ((x, None) ∷ captured) =
      either x (as_base (λ n. scalar.Param k)) (of_base (parameter params k)) (names_from (k + 1) captured) (values_from params (k + 1) captured)
      (shows_base tables params 0 (λ n. scalar.Param k) (λ s. parameter params k) (λ m l s. value_param tables params k s) (λ s t a. refl)) (captured-show (k + 1) captured)
  captured-show k ((x, Some labels) ∷ captured) =
      either x (as_row (λ n. outputs_from k labels)) (of_row (row_with (cells_from params k labels))) (names_from (k + length labels) captured) (values_from params (k + length labels) captured)
      (shows_row tables params 0 (λ n. outputs_from k labels) (λ s. row_with (cells_from params k labels)) (λ m l s i. row_with (cells_from-are k labels s i)) (λ s t a. refl)) (captured-show (k + length labels) captured)

-- for all tables and captured values
pub normal-form : NormalFormLaw
normal-form parts root columns captured tables params scope = whole tables params parts root columns (names_from 1 captured) (values_from params 1 captured) (captured-show tables params 1 captured) scope

pub permuted : PermutedLaw
permuted query tables params =
    rows-permutation (all_rows tables params (query_sql query).selects no_rows) (gives tables query.parts query.root (query_values query.captured params)).list
    (normal-form query.parts query.root query.columns (bindings_from 0 query.captured) tables params no_rows)
