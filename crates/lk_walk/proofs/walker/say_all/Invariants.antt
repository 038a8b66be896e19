use Rattle.std.proofs.Common.{◌≡◌, ◌++◌}
use Rattle.std.specs.Vec.Iter.{into_iter_items}
use Rattle.lk_typing.specs.Steps.{same_at}
use Rattle.lk_walk.proofs.walker.say_all.Given as goal

abbrev pub invariant-loop-equation : goal.invariant-loop-equation
invariant-loop-equation l = l.steps ++ same_at l.at (into_iter_items l.equation-iterator) ≡ l.initial.steps ++ same_at l.at (into_iter_items l.initial.equation-iterator)
