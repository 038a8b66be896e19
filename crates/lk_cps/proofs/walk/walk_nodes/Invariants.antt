use Rattle.std.proofs.Common.{◌≡◌, drop}
use Rattle.lk_cps.proofs.walk.walk_nodes.Given as goal
use Rattle.lk_cps.specs.Live.{AllConts, forward}

abbrev pub invariant-loop-number : goal.invariant-loop-number
invariant-loop-number l = AllConts l.initial.table (drop l.number l.initial.table.nodes) (forward l.all) × (l.table ≡ l.initial.table)
