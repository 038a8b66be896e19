use Rattle.std.proofs.Common.{◌≡◌, drop}
use Rattle.lk_query.specs.Captured.{bindings_from}
use Rattle.lk_norm.specs.Captured.{names_from}
use Rattle.lk_norm.proofs.over.Over.captured.Given as goal

abbrev pub invariant-loop-one : goal.invariant-loop-one
invariant-loop-one l = names_from l.next (bindings_from l.number (drop l.one-index l.captured)) l.n ≡ names_from 1 (bindings_from l.first l.captured) l.n
