use Rattle.std.proofs.Common.{◌≡◌, ◌≤◌, ℕ, ◌+◌, ◌*◌, drop}
use Rattle.lk_ast.specs.declared.expression.Expr.{size-Expr}
use Rattle.lk_bodies.proofs.nodes.+nodes.Given as goal
use Rattle.lk_bodies.specs.Nodes.{counted, nodes, spent}
use Rattle.lk_bodies.specs.NodesInside.{all_nodes, cases_nodes, parts_nodes}

-- each part has less room than what it stands in
abbrev level : ℕ → ℕ
level room = room * 5

abbrev pub decreases-expr : goal.decreases-expr
decreases-expr l = level l.room

abbrev pub decreases-exprs : goal.decreases-exprs
decreases-exprs l = level l.room + 1

abbrev pub decreases-parts : goal.decreases-parts
decreases-parts l = level l.room + 1

abbrev pub decreases-cases : goal.decreases-cases
decreases-cases l = level l.room + 1

abbrev pub decreases-last_case : goal.decreases-last_case
decreases-last_case l = level l.room + 1

abbrev pub decreases-body : goal.decreases-body
decreases-body l = level l.room + 1

abbrev pub decreases-change : goal.decreases-change
decreases-change l = level l.room + 2

abbrev pub decreases-call : goal.decreases-call
decreases-call l = level l.room + 2

abbrev pub decreases-two : goal.decreases-two
decreases-two l = level l.room + 1

abbrev pub decreases-three : goal.decreases-three
decreases-three l = level l.room + 2

abbrev pub decreases-apply : goal.decreases-apply
decreases-apply l = level l.room + 2

abbrev pub decreases-extension : goal.decreases-extension
decreases-extension l = level l.room + 2

abbrev pub decreases-switch : goal.decreases-switch
decreases-switch l = level l.room + 2

abbrev pub decreases-node : goal.decreases-node
decreases-node l = level l.room + 3

abbrev pub invariant-exprs-loop-e : goal.invariant-exprs-loop-e
invariant-exprs-loop-e l = spent l.left (all_nodes (counted l.at.index.now l.at.calls) (drop l.e-index l.list)) ≡ spent l.most (all_nodes (counted l.at.index.now l.at.calls) l.list)

abbrev pub invariant-parts-loop-part : goal.invariant-parts-loop-part
invariant-parts-loop-part l = spent l.left (parts_nodes (counted l.at.index.now l.at.calls) (drop l.part-index l.list)) ≡ spent l.most (parts_nodes (counted l.at.index.now l.at.calls) l.list)

abbrev pub invariant-cases-loop-case : goal.invariant-cases-loop-case
invariant-cases-loop-case l = spent l.left (cases_nodes (counted l.at.index.now l.at.calls) (drop l.case-index l.list)) ≡ spent l.most (cases_nodes (counted l.at.index.now l.at.calls) l.list)

abbrev pub invariant-expr-loop-name : goal.invariant-expr-loop-name
invariant-expr-loop-name l =
    (size-Expr l.rest ≤ size-Expr l.initial.rest)
    × (spent l.left (nodes (counted l.at.index.now l.at.calls) l.rest) ≡ spent l.most (nodes (counted l.at.index.now l.at.calls) l.initial.rest))

abbrev pub decreases-expr-loop-name : goal.decreases-expr-loop-name
decreases-expr-loop-name l = size-Expr l.rest
