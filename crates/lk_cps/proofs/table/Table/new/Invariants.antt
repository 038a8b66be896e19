use Rattle.lk_cps.proofs.table.Table.new.Given as goal
use Rattle.lk_cps.specs.Live.{AreLive}

abbrev pub invariant-loop-node : goal.invariant-loop-node
invariant-loop-node l = AreLive l.forms l.live.items
