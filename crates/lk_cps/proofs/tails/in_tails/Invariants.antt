use Rattle.std.proofs.Common.{◌≡◌, drop}
use Rattle.lk_cps.proofs.tails.in_tails.Given as goal
use Rattle.lk_cps.specs.Live.{LiveInTails}
use Rattle.lk_ir.specs.Uses.{binds}

abbrev pub invariant-loop-i : goal.invariant-loop-i
invariant-loop-i l = LiveInTails l.initial.table (drop l.i (binds l.form.kind)) (drop l.i l.form.tails) l.live × (l.table ≡ l.initial.table)
