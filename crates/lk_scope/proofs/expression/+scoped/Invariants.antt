use Rattle.std.proofs.Common.{◌≡◌, map, take, ◌≤◌}
use Rattle.lk_ast.specs.declared.expression.Expr.{size-Expr}
use Rattle.lk_scope.specs.Leaving.{without}
use Rattle.lk_scope.specs.Scoped.{all_in, scoped, scoped_case, scoped_part}
use Rattle.lk_ast.specs.Layers.{chain}
use Rattle.lk_scope.proofs.expression.+scoped.Given as goal

abbrev pub invariant-cases-loop-one : goal.invariant-cases-loop-one
invariant-cases-loop-one l = (l.made ≡ all_in l.initial.names (map scoped_case (take l.one-index l.list))) × (l.names ≡ l.initial.names)

abbrev pub invariant-expr-loop-name : goal.invariant-expr-loop-name
invariant-expr-loop-name l = (size-Expr l.rest ≤ size-Expr l.initial.rest) × (chain l.statements (scoped l.rest l.names) ≡ scoped l.initial.rest l.initial.names) × (without l.noted l.names ≡ l.initial.names)

abbrev pub invariant-exprs-loop-e : goal.invariant-exprs-loop-e
invariant-exprs-loop-e l = (l.made ≡ all_in l.initial.names (map scoped (take l.e-index l.list))) × (l.names ≡ l.initial.names)

abbrev pub invariant-parts-loop-part : goal.invariant-parts-loop-part
invariant-parts-loop-part l = (l.made ≡ all_in l.initial.names (map scoped_part (take l.part-index l.list))) × (l.names ≡ l.initial.names)

abbrev pub decreases-expr-loop-name : goal.decreases-expr-loop-name
decreases-expr-loop-name l = size-Expr l.rest
