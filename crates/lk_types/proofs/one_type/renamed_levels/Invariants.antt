use Rattle.std.proofs.Common.{◌≡◌, map}
use Rattle.lk_types.specs.Names.{place_in}
use Rattle.lk_types.specs.OneTypes.{level_renamed}
use Rattle.lk_types.proofs.one_type.renamed_levels.Given as goal

abbrev pub invariant-loop-level : goal.invariant-loop-level
invariant-loop-level l = l.all.items ≡ map (level_renamed (place_in l.first l.names)) l.yielded
