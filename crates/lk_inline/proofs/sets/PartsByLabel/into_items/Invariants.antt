use Rattle.std.proofs.Common.{◌≡◌, ◌++◌, map}
use Rattle.lk_inline.proofs.SetMaps.{item}
use Rattle.lk_inline.proofs.sets.PartsByLabel.into_items.Given as goal

abbrev pub invariant-loop-label : goal.invariant-loop-label
invariant-loop-label l = l.items ++ map item l.label-iterator ≡ map item l.initial.label-iterator
