use Rattle.std.proofs.Common.{◌≡◌, map}
use Rattle.lk_types.specs.Levels.{field_renumbered}
use Rattle.lk_types.specs.Moves.{renumbered}
use Rattle.lk_types.proofs.levels.moved_fields.Given as goal

abbrev pub invariant-loop-label : goal.invariant-loop-label
invariant-loop-label l = l.moved ≡ map (field_renumbered (renumbered l.numbering)) l.yielded
