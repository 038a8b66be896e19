use Rattle.std.proofs.Common.{◌≡◌, drop}
use Rattle.lk_cps.proofs.positions.look.Given as goal
use Rattle.lk_cps.specs.Steps.{HasLooked}

abbrev pub invariant-loop-i : goal.invariant-loop-i
invariant-loop-i l = HasLooked l.initial.table l.form (drop l.i l.form.parts) l.looked × (l.table ≡ l.initial.table)
