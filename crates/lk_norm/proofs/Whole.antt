-- The rows of a query's selects.
use Rattle.std.proofs.Common.{◌≡◌, ℕ, ◌+◌, List, [], ◌∷◌, ◌++◌, map, refl, ◌∙◌, sym, ap, ap₂, cond, Bool, true, false, arith}
use Rattle.std.specs.List.{filter}
use Rattle.lk_ast.specs.Tables.{Tables}
use Rattle.lk_ast.specs.declared.table.Base.{Base}
use Rattle.lk_ast.specs.declared.table.Base.TheVariants as base
use Rattle.lk_ast.specs.declared.table.Column.{Column}
use Rattle.lk_ast.specs.declared.table.Row.{Row}
use Rattle.lk_sql.specs.Bags.{SameBag, total}
use Rattle.lk_sql.specs.Meaning.{Scope, all_rows, cell, product, rows, value}
use Rattle.lk_sql.specs.Operations.{truth}
use Rattle.lk_sql.specs.declared.tree.Out.{Out}
use Rattle.lk_query.specs.Given.{Values, gives, row_with}
use Rattle.lk_query.specs.declared.part.Part.{Part}
use Rattle.lk_norm.specs.Normal.{Branch, Names, always, branch, never, no_output, norms, select, selects}
use Rattle.lk_norm.proofs.Follows.{follows}
use Rattle.lk_norm.proofs.Shows.{Fit, ShowAll, cells, holds, weight, weights, when}
use Rattle.lk_norm.proofs.Sums.{total-append, total-filter, total-map, total-same}
use Rattle.lk_sql.proofs.MeaningForms.{cell_is, value_lit}
use Rattle.lk_norm.proofs.Unfold.{rows-is}

module _ (tables : Tables) (params : List Base) where
  cells-are : (outs : List Out) (s : Scope) → map (λ f. f s) (map (cell tables params) outs) ≡ cells tables params outs s
  cells-are [] s = refl
  cells-are (out ∷ outs) s = ap₂ (λ x xs. x ∷ xs) (cell_is tables params out s) (cells-are outs s)

  weight-is : (w : Row → ℕ) (b : Branch) (s : Scope) → total w (rows tables params (select b) s) ≡ weight tables params (λ t. w) s b
  weight-is w b s =
      ap (total w) (rows-is tables params b s)
      ∙ total-map w (λ t. row_with (map (λ f. f t) (map (cell tables params) b.outs))) (filter (λ t. truth (value tables params b.cond t)) (product tables b.froms s))
      ∙ total-filter (λ t. w (row_with (map (λ f. f t) (map (cell tables params) b.outs)))) (λ t. truth (value tables params b.cond t)) (product tables b.froms s)
      ∙ total-same _ _ (product tables b.froms s) (λ t. ap (λ cells. when (holds tables params b.cond t) (w (row_with cells))) (cells-are b.outs t))

  weights-are : (w : Row → ℕ) (branches : List Branch) (s : Scope) → total w (all_rows tables params (map select branches) s) ≡ weights tables params (λ t. w) s branches
  weights-are w [] s = refl
  weights-are w (b ∷ branches) s = total-append w (rows tables params (select b) s) (all_rows tables params (map select branches) s) ∙ ap₂ (λ m n. m + n) (weight-is w b s) (weights-are w branches s)

  none-given : (w : Row → ℕ) (f : Scope → Row) (x : Bool) (s : Scope) → x ≡ false → total w (map f (cond x (s ∷ []) []) ++ []) ≡ 0
  none-given w f x s e = ap (λ b. total w (map f (cond b (s ∷ []) []) ++ [])) e

  selects-are : (columns : List Column) (w : Row → ℕ) (branches : List Branch) (s : Scope) → total w (all_rows tables params (selects columns branches) s) ≡ weights tables params (λ t. w) s branches
  selects-are columns w [] s =
      ap (λ r. total w (r ++ [])) (rows-is tables params (branch [] never (map no_output columns)) s)
      ∙ none-given w (λ t. row_with (map (λ f. f t) (map (cell tables params) (map no_output columns)))) (truth (value tables params never s)) s (ap truth (value_lit tables params (base.Bool false) s))
  selects-are columns w (b ∷ branches) s = weights-are w (b ∷ branches) s

  -- the selects of the normal form give what the query gives, where names stand for what gives their values
  pub whole : (parts : List Part) (root : ℕ) (columns : List Column) (names : Names) (values : Values) → ShowAll tables params 0 names (λ k s. values k) → (s : Scope) →
      SameBag (all_rows tables params (selects columns ((norms parts root names).list 0 [] always)) s) (gives tables parts root values).list
  whole parts root columns names values h s w =
      let branches = (norms parts root names).list 0 [] always in
      let given = (gives tables parts root values).list in
      selects-are columns w branches s
      ∙ (follows tables params parts root 0 names (λ k s. values k) h).list 0 [] always fit (λ t. w) (λ s t a. refl) s
      ∙ ap (λ b. when b (total w given) + 0) (ap truth (value_lit tables params (base.Bool true) s))
      ∙ omega arith
    where
      fit : Fit tables params 0 0 [] always
      fit = record {
        above = omega arith;
        looks = λ s t a. ap truth (value_lit tables params (base.Bool true) s ∙ sym (value_lit tables params (base.Bool true) t));
      }
