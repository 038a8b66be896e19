use Rattle.std.proofs.Common.{◌≡◌, length}
use Rattle.lk_ast.specs.Layers.{chain}
use Rattle.lk_ast.proofs.statements.make_chain.Given as goal

abbrev pub invariant-loop-statement : goal.invariant-loop-statement
invariant-loop-statement l = chain l.list l.rest ≡ chain l.fn.statements l.fn.last

abbrev pub decreases-loop-statement : goal.decreases-loop-statement
decreases-loop-statement l = length l.list
