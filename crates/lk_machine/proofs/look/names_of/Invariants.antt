use Rattle.std.proofs.Common.{◌≡◌, ◌++◌, drop}
use Rattle.lk_ir.specs.Tables.{names_of}
use Rattle.lk_machine.proofs.look.names_of.Given as goal

abbrev pub invariant-loop-one : goal.invariant-loop-one
invariant-loop-one l = l.names ++ names_of (drop l.one-index l.kept) ≡ names_of l.kept
