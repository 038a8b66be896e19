use Rattle.std.proofs.Common.{◌≡◌, ◌++◌, drop}
use Rattle.lk_norm.specs.Scopes.{params_of}
use Rattle.lk_norm.specs.Walks.{outs_paid}
use Rattle.lk_norm.proofs.rows.param_outs.Given as goal

abbrev pub invariant-loop-column : goal.invariant-loop-column
invariant-loop-column l = (l.list ++ params_of l.next (drop l.column-index l.columns) ≡ params_of l.first l.columns) × (outs_paid (params_of l.next (drop l.column-index l.columns)) l.left ≡ outs_paid (params_of l.first l.columns) l.fn.left)
