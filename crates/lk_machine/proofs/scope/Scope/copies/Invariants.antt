use Rattle.std.proofs.Common.{◌≡◌, ◌++◌, drop}
use Rattle.std.specs.Option.{option_map}
use Rattle.lk_ir.specs.Environments.{lookup_all}
use Rattle.lk_machine.proofs.scope.Scope.copies.Given as goal

abbrev pub invariant-loop-name : goal.invariant-loop-name
invariant-loop-name l = option_map (λ later. l.values ++ later) (lookup_all l.self (drop l.name-index l.names)) ≡ lookup_all l.self l.names
