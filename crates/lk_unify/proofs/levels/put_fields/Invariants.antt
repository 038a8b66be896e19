use Rattle.std.proofs.Common.{◌≡◌, drop}
use Rattle.lk_unify.proofs.levels.put_fields.Given as goal
use Rattle.lk_unify.specs.Levels.{with_places}

abbrev pub invariant-loop-field : goal.invariant-loop-field
invariant-loop-field l = with_places l.arena l.places (drop l.field-index l.own) l.row ≡ with_places l.arena l.places l.own l.initial.row
