use Rattle.std.proofs.Common.{◌≡◌, length}
use Rattle.lk_types.specs.Each.{Each}
use Rattle.lk_arena.proofs.Ways.{unmarked}
use Rattle.lk_arena.proofs.clean.way_down.Given as goal
use Rattle.lk_arena.specs.Ways.{IsName}

abbrev pub invariant-down : goal.invariant-down
invariant-down l = record {
  name : IsName (length l.arena.shapes) l.arena.classes l.at;
  count : length l.seen.items ≡ length l.arena.shapes;
  names : Each (IsName (length l.arena.shapes) l.arena.classes) l.way.items;
}

abbrev pub decreases-down : goal.decreases-down
decreases-down l = unmarked l.seen.items
