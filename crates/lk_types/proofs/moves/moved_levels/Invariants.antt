use Rattle.std.proofs.Common.{◌≡◌, map}
use Rattle.lk_types.specs.Levels.{level_renumbered}
use Rattle.lk_types.specs.Moves.{renumbered}
use Rattle.lk_types.proofs.moves.moved_levels.Given as goal

abbrev pub invariant-loop-level : goal.invariant-loop-level
invariant-loop-level l = l.all.items ≡ map (level_renumbered (renumbered l.numbering)) l.yielded
