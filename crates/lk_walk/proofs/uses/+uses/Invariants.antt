use Rattle.std.proofs.Common.{◌≡◌, ◌≤◌, drop, map}
use Rattle.std.specs.Prelude.{◌||◌}
use Rattle.std.specs.List.{list_any}
use Rattle.lk_ast.specs.declared.expression.Expr.{size-Expr}
use Rattle.lk_typing.specs.Uses.{functions_used}
use Rattle.lk_walk.specs.Using.{found_after, is_use, uses_case, uses_part}
use Rattle.lk_walk.proofs.uses.+uses.Given as goal

abbrev pub invariant-expr-loop-name : goal.invariant-expr-loop-name
invariant-expr-loop-name l = (size-Expr l.rest ≤ size-Expr l.initial.rest) × (l.found || list_any (is_use l.name) (functions_used l.rest) ≡ l.initial.found || list_any (is_use l.name) (functions_used l.initial.rest))

abbrev pub decreases-expr-loop-name : goal.decreases-expr-loop-name
decreases-expr-loop-name l = size-Expr l.rest

abbrev pub invariant-exprs-loop-e : goal.invariant-exprs-loop-e
invariant-exprs-loop-e l = found_after l.name (map functions_used (drop l.e-index l.list)) l.found ≡ found_after l.name (map functions_used l.list) l.initial.found

abbrev pub invariant-parts-loop-part : goal.invariant-parts-loop-part
invariant-parts-loop-part l = found_after l.name (map uses_part (drop l.part-index l.list)) l.found ≡ found_after l.name (map uses_part l.list) l.initial.found

abbrev pub invariant-cases-loop-case : goal.invariant-cases-loop-case
invariant-cases-loop-case l = found_after l.name (map uses_case (drop l.case-index l.list)) l.found ≡ found_after l.name (map uses_case l.list) l.initial.found
