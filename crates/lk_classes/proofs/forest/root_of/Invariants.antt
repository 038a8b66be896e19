use Rattle.std.proofs.Common.{◌≡◌, ◌<◌, ◌-◌, length}
use Rattle.lk_classes.specs.Classes.{class_at}
use Rattle.lk_classes.specs.Forest.{member_at, names_of}
use Rattle.lk_classes.proofs.forest.root_of.Given as goal

abbrev pub invariant-up : goal.invariant-up
invariant-up l = record {
  below : l.at < length l.members;
  same : class_at (names_of l.members) l.at ≡ class_at (names_of l.members) l.i;
}

abbrev pub decreases-up : goal.decreases-up
decreases-up l = length l.members - (member_at l.members l.at).size
