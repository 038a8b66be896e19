use Rattle.std.proofs.Common.{◌≡◌, ◌++◌, drop, map}
use Rattle.lk_norm.specs.Normal.{no_output}
use Rattle.lk_norm.specs.Walks.{outs_paid}
use Rattle.lk_norm.proofs.selects.no_outs.Given as goal

abbrev pub invariant-loop-column : goal.invariant-loop-column
invariant-loop-column l = (l.list ++ map no_output (drop l.column-index l.columns) ≡ map no_output l.columns) × (outs_paid (map no_output (drop l.column-index l.columns)) l.left ≡ outs_paid (map no_output l.columns) l.fn.left)
