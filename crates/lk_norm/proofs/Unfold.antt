-- The rows of a branch.
use Rattle.std.proofs.Common.{◌≡◌, List, map, ap}
use Rattle.std.specs.List.{filter}
use Rattle.lk_ast.specs.Tables.{Tables}
use Rattle.lk_ast.specs.declared.table.Base.{Base}
use Rattle.lk_sql.specs.Meaning.{CellOf, RowsOf, Scope, ValueOf, cell, cell_level, product, rows, rows_level, value, value_level}
use Rattle.lk_sql.specs.Operations.{truth}
use Rattle.lk_sql.specs.declared.tree.Select.{fold-roll-Select}
use Rattle.lk_query.specs.Given.{row_with}
use Rattle.lk_norm.specs.Normal.{Branch, select}

module _ (tables : Tables) (params : List Base) where
  selected : (b : Branch) → rows tables params (select b) ≡ (λ s. map (λ t. row_with (map (λ f. f t) (map (cell tables params) b.outs))) (filter (λ t. truth (value tables params b.cond t)) (product tables b.froms s)))
  unfolding value cell rows
  selected b = fold-roll-Select ValueOf CellOf RowsOf (value_level tables params) (cell_level tables params) (rows_level tables params) (record { froms = b.froms; cond = b.cond; outs = b.outs })

  pub rows-is : (b : Branch) (s : Scope) → rows tables params (select b) s ≡ map (λ t. row_with (map (λ f. f t) (map (cell tables params) b.outs))) (filter (λ t. truth (value tables params b.cond t)) (product tables b.froms s))
  rows-is b s = ap (λ f. f s) (selected b)
