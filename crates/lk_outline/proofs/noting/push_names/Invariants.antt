use Rattle.std.proofs.Common.{◌≡◌, length}
use Rattle.lk_outline.specs.Outline.{with_names}
use Rattle.lk_outline.proofs.noting.push_names.Given as goal

abbrev pub invariant-loop-name : goal.invariant-loop-name
invariant-loop-name l = with_names l.rest l.binder l.scope ≡ with_names l.names l.binder l.initial.scope

abbrev pub decreases-loop-name : goal.decreases-loop-name
decreases-loop-name l = length l.rest
