use Rattle.std.proofs.Common.{◌≡◌, ℕ, ◌+◌, ◌*◌, map, drop, ◌≤◌}
use Rattle.std.specs.Prelude.{max}
use denote.Param.Weighed.{most}
use Rattle.lk_ast.specs.declared.expression.Case.{size-Case}
use Rattle.lk_ast.specs.declared.expression.Expr.{size-Expr}
use Rattle.lk_scope.specs.Leaving.{without}
use Rattle.lk_scope.specs.Names.{no_names}
use Rattle.lk_scope.specs.Scoped.{all_in}
use Rattle.lk_names.specs.Expressions.{fault, part_item, case_item}
use Rattle.lk_names.specs.Faults.{first_among}
use Rattle.lk_names.specs.Repeats.{items_fault}
use Rattle.lk_names.proofs.expression.+faults.Given as goal

-- each part is less deep than what it stands in, and what takes several parts counts the deepest
abbrev level : ℕ → ℕ
level depth = depth * 4

abbrev pub invariant-cases-loop-case : goal.invariant-cases-loop-case
invariant-cases-loop-case l =
    (items_fault l.met (all_in l.initial.names (map (case_item l.globals) (drop l.case-index l.list))) ≡ items_fault no_names (all_in l.initial.names (map (case_item l.globals) l.list)))
    × (l.names ≡ l.initial.names)

abbrev pub invariant-expr-loop-name : goal.invariant-expr-loop-name
invariant-expr-loop-name l = (size-Expr l.rest ≤ size-Expr l.initial.rest) × (fault l.globals l.rest l.names ≡ fault l.globals l.initial.rest l.initial.names) × (without l.noted l.names ≡ l.initial.names)

abbrev pub invariant-exprs-loop-e : goal.invariant-exprs-loop-e
invariant-exprs-loop-e l =
    (first_among (all_in l.initial.names (map (fault l.globals) (drop l.e-index l.list))) ≡ first_among (all_in l.initial.names (map (fault l.globals) l.list)))
    × (l.names ≡ l.initial.names)

abbrev pub invariant-parts-loop-part : goal.invariant-parts-loop-part
invariant-parts-loop-part l =
    (items_fault l.met (all_in l.initial.names (map (part_item l.globals) (drop l.part-index l.list))) ≡ items_fault no_names (all_in l.initial.names (map (part_item l.globals) l.list)))
    × (l.names ≡ l.initial.names)

abbrev pub decreases-expr-loop-name : goal.decreases-expr-loop-name
decreases-expr-loop-name l = size-Expr l.rest

abbrev pub decreases-expr : goal.decreases-expr
decreases-expr l = level (goal.size-expr l)

abbrev pub decreases-node : goal.decreases-node
decreases-node l = level (goal.size-node l) + 3

abbrev pub decreases-under : goal.decreases-under
decreases-under l = level (goal.size-under l) + 1

abbrev pub decreases-under_some : goal.decreases-under_some
decreases-under_some l = level (goal.size-under_some l) + 1

abbrev pub decreases-exprs : goal.decreases-exprs
decreases-exprs l = level (goal.size-exprs l) + 1

abbrev pub decreases-parts : goal.decreases-parts
decreases-parts l = level (goal.size-parts l) + 1

abbrev pub decreases-lambda : goal.decreases-lambda
decreases-lambda l = level (goal.size-lambda l) + 1

abbrev pub decreases-cases : goal.decreases-cases
decreases-cases l = level (goal.size-cases l) + 1

abbrev pub decreases-last_case : goal.decreases-last_case
decreases-last_case l = level (goal.size-last_case l) + 1

abbrev pub decreases-change : goal.decreases-change
decreases-change l = level (goal.size-change l) + 1

abbrev pub decreases-call : goal.decreases-call
decreases-call l = level (goal.size-call l) + 2

abbrev pub decreases-query : goal.decreases-query
decreases-query l = level (goal.size-query l) + 1

abbrev pub decreases-insert : goal.decreases-insert
decreases-insert l = level (goal.size-insert l) + 1

abbrev pub decreases-two : goal.decreases-two
decreases-two l = level (max (size-Expr l.a.now) (size-Expr l.b.now)) + 1

abbrev pub decreases-three : goal.decreases-three
decreases-three l = level (max (size-Expr l.c.now) (max (size-Expr l.d.now) (size-Expr l.e.now))) + 1

abbrev pub decreases-binding : goal.decreases-binding
decreases-binding l = level (max (size-Expr l.e.now) (size-Expr l.body.now)) + 2

abbrev pub decreases-apply : goal.decreases-apply
decreases-apply l = level (max (size-Expr l.f.now) (most size-Expr l.args.now)) + 2

abbrev pub decreases-extend : goal.decreases-extend
decreases-extend l = level (max (goal.size-extend l) (size-Expr l.e.now)) + 2

abbrev pub decreases-switch : goal.decreases-switch
decreases-switch l = level (max (size-Expr l.e.now) (max (most size-Case l.list.now) (goal.size-last_case (record { the-lifetimes = (l.the-lifetimes.0, (l.the-lifetimes.1.0, (l.the-lifetimes.1.1.0, tt))); alloc = l.alloc; globals = l.globals; names = l.names; last = l.last })))) + 2
