use Rattle.std.proofs.Common.{◌≡◌, drop}
use Rattle.lk_outline.proofs.noting.drop_names.Given as goal

abbrev pub invariant-loop-i : goal.invariant-loop-i
invariant-loop-i l = l.scope ≡ drop l._i l.initial.scope
