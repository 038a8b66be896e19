use Rattle.std.proofs.Common.{◌≡◌, drop}
use Rattle.lk_norm.specs.Scopes.{params_of}
use Rattle.lk_norm.specs.Normal.{scalar_in}
use Rattle.lk_norm.proofs.scalars.param_cell.Given as goal

abbrev pub invariant-loop-column : goal.invariant-loop-column
invariant-loop-column l = (scalar_in (params_of l.next (drop l.column-index l.columns)) l.label ≡ scalar_in (params_of l.first l.columns) l.label) × (l.left ≡ l.initial.left)
