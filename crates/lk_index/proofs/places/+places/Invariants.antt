use Rattle.std.proofs.Common.{◌≡◌, drop, ◌≤◌}
use Rattle.lk_ast.specs.declared.expression.Expr.{size-Expr}
use Rattle.lk_index.specs.Places.{gather_all, each_with, gather, gather_part, gather_case, seen}
use Rattle.lk_index.proofs.places.+places.Given as goal

abbrev pub invariant-cases-loop-one : goal.invariant-cases-loop-one
invariant-cases-loop-one l = gather_all (each_with gather_case (drop l.one-index l.list)) (seen l.found) ≡ gather_all (each_with gather_case l.list) (seen l.initial.found)

abbrev pub invariant-expr-loop-name : goal.invariant-expr-loop-name
invariant-expr-loop-name l = (size-Expr l.rest ≤ size-Expr l.initial.rest) × (gather l.rest (seen l.found) ≡ gather l.initial.rest (seen l.initial.found))

abbrev pub invariant-exprs-loop-e : goal.invariant-exprs-loop-e
invariant-exprs-loop-e l = gather_all (each_with gather (drop l.e-index l.list)) (seen l.found) ≡ gather_all (each_with gather l.list) (seen l.initial.found)

abbrev pub invariant-parts-loop-one : goal.invariant-parts-loop-one
invariant-parts-loop-one l = gather_all (each_with gather_part (drop l.one-index l.list)) (seen l.found) ≡ gather_all (each_with gather_part l.list) (seen l.initial.found)

abbrev pub decreases-expr-loop-name : goal.decreases-expr-loop-name
decreases-expr-loop-name l = size-Expr l.rest
