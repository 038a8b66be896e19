use Rattle.std.proofs.Common.{◌≡◌, ◌++◌, drop}
use Rattle.lk_norm.specs.Normal.{columns_of}
use Rattle.lk_norm.specs.Walks.{outs_paid}
use Rattle.lk_norm.proofs.rows.column_outs.Given as goal

abbrev pub invariant-loop-label : goal.invariant-loop-label
invariant-loop-label l = (l.list ++ columns_of l.generator (drop l.label-index l.labels) ≡ columns_of l.generator l.labels) × (outs_paid (columns_of l.generator (drop l.label-index l.labels)) l.left ≡ outs_paid (columns_of l.generator l.labels) l.fn.left)
