use Rattle.std.proofs.Common.{◌≡◌, ◌++◌}
use Rattle.std.specs.Vec.Iter.{into_iter_items}
use Rattle.lk_equations.specs.Forms.{sets_said}
use Rattle.lk_equations.proofs.told.sets_said.Given as goal

abbrev pub invariant-loop-set : goal.invariant-loop-set
invariant-loop-set l =
    (l.equations ++ (sets_said l.row (into_iter_items l.set-iterator) l.next).equations ≡ (sets_said l.row (into_iter_items l.initial.set-iterator) l.initial.next).equations)
    × ((sets_said l.row (into_iter_items l.set-iterator) l.next).next ≡ (sets_said l.row (into_iter_items l.initial.set-iterator) l.initial.next).next)
