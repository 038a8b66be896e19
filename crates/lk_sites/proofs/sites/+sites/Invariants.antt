use Rattle.std.proofs.Common.{◌≡◌, ◌≤◌, ℕ, ◌+◌, ◌*◌, drop}
use Rattle.lk_ast.specs.declared.expression.Expr.{size-Expr}
use Rattle.lk_sites.proofs.sites.+sites.Given as goal
use Rattle.lk_sites.specs.Sites.{visit}
use Rattle.lk_sites.specs.SitesInside.{in_cases, in_exprs, in_parts, tour_of}

-- each part has less room than what it stands in
abbrev level : ℕ → ℕ
level room = room * 5

abbrev pub decreases-expr : goal.decreases-expr
decreases-expr l = level l.room

abbrev pub decreases-exprs : goal.decreases-exprs
decreases-exprs l = level l.room + 1

abbrev pub decreases-parts : goal.decreases-parts
decreases-parts l = level l.room + 1

abbrev pub decreases-cases : goal.decreases-cases
decreases-cases l = level l.room + 1

abbrev pub decreases-last_case : goal.decreases-last_case
decreases-last_case l = level l.room + 1

abbrev pub decreases-two : goal.decreases-two
decreases-two l = level l.room + 1

abbrev pub decreases-three : goal.decreases-three
decreases-three l = level l.room + 2

abbrev pub decreases-apply : goal.decreases-apply
decreases-apply l = level l.room + 2

abbrev pub decreases-extension : goal.decreases-extension
decreases-extension l = level l.room + 2

abbrev pub decreases-switch : goal.decreases-switch
decreases-switch l = level l.room + 2

abbrev pub decreases-change : goal.decreases-change
decreases-change l = level l.room + 2

abbrev pub decreases-node : goal.decreases-node
decreases-node l = level l.room + 3

abbrev pub invariant-exprs-loop-e : goal.invariant-exprs-loop-e
invariant-exprs-loop-e l = in_exprs l.fun (drop l.e-index l.list) l.inside (tour_of l.tour) ≡ in_exprs l.fun l.list l.inside (tour_of l.initial.tour)

abbrev pub invariant-parts-loop-part : goal.invariant-parts-loop-part
invariant-parts-loop-part l = in_parts l.fun (drop l.part-index l.list) l.inside (tour_of l.tour) ≡ in_parts l.fun l.list l.inside (tour_of l.initial.tour)

abbrev pub invariant-cases-loop-case : goal.invariant-cases-loop-case
invariant-cases-loop-case l = in_cases l.fun (drop l.case-index l.list) l.inside (tour_of l.tour) ≡ in_cases l.fun l.list l.inside (tour_of l.initial.tour)

abbrev pub invariant-expr-loop-name : goal.invariant-expr-loop-name
invariant-expr-loop-name l =
    (size-Expr l.rest ≤ size-Expr l.initial.rest)
    × (visit l.fun l.rest l.inside (tour_of l.tour) ≡ visit l.fun l.initial.rest l.inside (tour_of l.initial.tour))

abbrev pub decreases-expr-loop-name : goal.decreases-expr-loop-name
decreases-expr-loop-name l = size-Expr l.rest
