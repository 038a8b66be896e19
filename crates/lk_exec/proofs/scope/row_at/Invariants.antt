use Rattle.std.proofs.Common.{◌≡◌, take}
use Rattle.lk_exec.specs.Scopes.{scope_of}
use Rattle.lk_exec.proofs.scope.row_at.Given as goal

abbrev pub invariant-loop-place : goal.invariant-loop-place
invariant-loop-place l = scope_of (take l.place l.scope) l.number ≡ scope_of l.scope l.number
