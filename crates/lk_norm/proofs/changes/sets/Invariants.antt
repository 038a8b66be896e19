use Rattle.std.proofs.Common.{◌≡◌, ◌++◌, drop}
use Rattle.lk_norm.specs.Changes.{sets_paid}
use Rattle.lk_norm.specs.Normal.{norms, outputs}
use Rattle.lk_norm.specs.Scopes.{names_in}
use Rattle.lk_norm.proofs.changes.sets.Given as goal

abbrev pub invariant-loop-item : goal.invariant-loop-item
invariant-loop-item l =
    (l.sets ++ outputs (norms l.here.over.now) (drop l.item-index l.items) (names_in l.here.over.now l.here.scope.now) l.here.count ≡ outputs (norms l.here.over.now) l.items (names_in l.here.over.now l.here.scope.now) l.here.count)
    × (sets_paid (outputs (norms l.here.over.now) (drop l.item-index l.items) (names_in l.here.over.now l.here.scope.now) l.here.count) l.left ≡ sets_paid (outputs (norms l.here.over.now) l.items (names_in l.here.over.now l.here.scope.now) l.here.count) l.fn.left)
