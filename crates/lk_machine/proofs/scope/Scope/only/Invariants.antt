use Rattle.std.proofs.Common.{◌≡◌, drop}
use Rattle.lk_ir.specs.Environments.{no_names}
use Rattle.lk_machine.proofs.Scopes.{moved}
use Rattle.lk_machine.proofs.scope.Scope.only.Given as goal

abbrev pub invariant-loop-name : goal.invariant-loop-name
invariant-loop-name l = moved l.kept l.left (drop l.name-index l.names) ≡ moved no_names l.fn.self l.names
