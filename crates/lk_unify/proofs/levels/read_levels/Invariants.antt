use Rattle.std.proofs.Common.{◌≡◌, length, take}
use Rattle.lk_unify.proofs.levels.read_levels.Given as goal
use Rattle.lk_unify.specs.Levels.{AreRead}

abbrev pub invariant-loop-node : goal.invariant-loop-node
invariant-loop-node l = record {
  count : length l.done.places.items ≡ length l.arena.shapes;
  read : AreRead l.arena l.numbers l.done.levels.items l.done.places.items (take l.node-index l.order);
}
