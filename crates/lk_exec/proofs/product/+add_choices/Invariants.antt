use Rattle.std.proofs.Common.{◌≡◌, ◌++◌, drop}
use Rattle.std.specs.List.{flat_map}
use Rattle.lk_ast.specs.Tables.{rows_of}
use Rattle.lk_exec.specs.Scopes.{scope_of}
use Rattle.lk_exec.specs.Selected.{rows_for}
use Rattle.lk_exec.proofs.Chosen.{choices}
use Rattle.lk_sql.specs.declared.tree.Select.{out-Select}
use Rattle.lk_exec.proofs.product.+add_choices.Given as goal

abbrev pub decreases-add_choices : goal.decreases-add_choices
decreases-add_choices l = l.room

abbrev pub invariant-loop-row : goal.invariant-loop-row
invariant-loop-row l =
    (l.inner ≡ l.scope)
    × (l.found ++ rows_for (rows_of l.over.tables.now) l.over.params.now (out-Select l.select).cond (out-Select l.select).outs (flat_map (choices (rows_of l.over.tables.now) l.others l.from.var (scope_of l.scope)) (drop l.row-index l.rows))
    ≡ l.fn.found ++ rows_for (rows_of l.over.tables.now) l.over.params.now (out-Select l.select).cond (out-Select l.select).outs (flat_map (choices (rows_of l.over.tables.now) l.others l.from.var (scope_of l.scope)) l.rows))
