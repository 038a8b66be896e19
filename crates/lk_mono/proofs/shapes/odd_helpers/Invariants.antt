use Rattle.std.proofs.Common.{◌≡◌, ◌+◌, false, length, map}
use Rattle.lk_mono.specs.Flatness.{AllOddAt, AreKept, AreSettled, has_odd, unmarked}
use Rattle.lk_mono.proofs.Marks.{one_if}
use Rattle.lk_mono.proofs.shapes.odd_helpers.Given as goal

abbrev pub invariant-passes : goal.invariant-passes
invariant-passes l = record {
  size : length l.marks.items ≡ length (map has_odd l.helpers);
  sound : AllOddAt (map has_odd l.helpers) l.calls l.marks.items;
  itself : AreKept (map has_odd l.helpers) l.marks.items;
  calling : l.changed ≡ false → AreSettled l.calls 0 l.marks.items;
}

abbrev pub decreases-passes : goal.decreases-passes
decreases-passes l = unmarked l.marks.items + one_if l.changed
