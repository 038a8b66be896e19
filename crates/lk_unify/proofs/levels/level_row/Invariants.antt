use Rattle.std.proofs.Common.{◌-◌}
use Rattle.lk_unify.proofs.PlacedRows.{IsDown}
use Rattle.lk_unify.proofs.levels.level_row.Given as goal

abbrev pub invariant-loop-link : goal.invariant-loop-link
invariant-loop-link l = IsDown l.arena l.places l.fuel l.node l.row l.end (l.fuel - l._link)
