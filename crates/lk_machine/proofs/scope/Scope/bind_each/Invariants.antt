use Rattle.std.proofs.Common.{◌≡◌, drop}
use Rattle.std.specs.Prelude.{reverse}
use Rattle.lk_ir.specs.Environments.{bind_each}
use Rattle.lk_machine.proofs.scope.Scope.bind_each.Given as goal

abbrev pub invariant-loop-name : goal.invariant-loop-name
invariant-loop-name l = bind_each l.scope (drop l.name-index l.names) (reverse l.left) ≡ bind_each l.fn.self l.names l.fn.values
