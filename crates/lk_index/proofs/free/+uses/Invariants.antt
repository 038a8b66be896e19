use Rattle.std.proofs.Common.{◌≡◌, ◌++◌, map, drop, ◌≤◌}
use Rattle.lk_ast.specs.declared.expression.Expr.{size-Expr}
use Rattle.lk_index.specs.Free.{texts, all_uses, free, free_case, free_part}
use Rattle.lk_scope.specs.Leaving.{without}
use Rattle.lk_index.proofs.free.+uses.Given as goal

abbrev pub invariant-cases-loop-case : goal.invariant-cases-loop-case
invariant-cases-loop-case l = (texts l.found ++ all_uses (map free_case (drop l.case-index l.list)) l.initial.bound ≡ texts l.initial.found ++ all_uses (map free_case l.list) l.initial.bound) × (l.bound ≡ l.initial.bound)

abbrev pub invariant-expr-loop-name : goal.invariant-expr-loop-name
invariant-expr-loop-name l = (size-Expr l.rest ≤ size-Expr l.initial.rest) × (texts l.found ++ free l.rest l.bound ≡ texts l.initial.found ++ free l.initial.rest l.initial.bound) × (without l.noted l.bound ≡ l.initial.bound)

abbrev pub invariant-exprs-loop-e : goal.invariant-exprs-loop-e
invariant-exprs-loop-e l = (texts l.found ++ all_uses (map free (drop l.e-index l.list)) l.initial.bound ≡ texts l.initial.found ++ all_uses (map free l.list) l.initial.bound) × (l.bound ≡ l.initial.bound)

abbrev pub invariant-parts-loop-part : goal.invariant-parts-loop-part
invariant-parts-loop-part l = (texts l.found ++ all_uses (map free_part (drop l.part-index l.list)) l.initial.bound ≡ texts l.initial.found ++ all_uses (map free_part l.list) l.initial.bound) × (l.bound ≡ l.initial.bound)

abbrev pub decreases-expr-loop-name : goal.decreases-expr-loop-name
decreases-expr-loop-name l = size-Expr l.rest
