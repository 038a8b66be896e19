use Rattle.std.proofs.Common.{◌≡◌, drop}
use Rattle.lk_bodies.proofs.names.drop_names.Given as goal

abbrev pub invariant-loop-i : goal.invariant-loop-i
invariant-loop-i o l = l.names ≡ drop l._i l.initial.names
