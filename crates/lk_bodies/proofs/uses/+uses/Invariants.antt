use Rattle.std.proofs.Common.{◌≡◌, ◌≤◌, ℕ, ◌+◌, ◌*◌, drop, map}
use Rattle.lk_ast.specs.declared.expression.Expr.{size-Expr}
use Rattle.lk_bodies.specs.Uses.{all, uses}
use Rattle.lk_bodies.specs.UsesSeen.{used_of}
use Rattle.lk_typing.specs.Names.{names_of}
use Rattle.lk_bodies.proofs.uses.+uses.Given as goal

-- each part has less room than what it stands in
abbrev level : ℕ → ℕ
level room = room * 4

abbrev pub decreases-expr : goal.decreases-expr
decreases-expr l = level l.room

abbrev pub decreases-inside : goal.decreases-inside
decreases-inside l = level l.room + 1

abbrev pub decreases-exprs : goal.decreases-exprs
decreases-exprs l = level l.room + 1

abbrev pub decreases-parts : goal.decreases-parts
decreases-parts l = level l.room + 1

abbrev pub decreases-two : goal.decreases-two
decreases-two l = level l.room + 1

abbrev pub decreases-three : goal.decreases-three
decreases-three l = level l.room + 2

abbrev pub decreases-extension : goal.decreases-extension
decreases-extension l = level l.room + 2

abbrev pub decreases-binding : goal.decreases-binding
decreases-binding l = level l.room + 2

abbrev pub decreases-node : goal.decreases-node
decreases-node l = level l.room + 3

abbrev pub invariant-exprs-loop-e : goal.invariant-exprs-loop-e
invariant-exprs-loop-e l =
    (all (map uses (drop l.e-index l.list)) (names_of l.bound) (used_of l.found) ≡ all (map uses l.list) (names_of l.initial.bound) (used_of l.initial.found))
    × (l.bound ≡ l.initial.bound)

abbrev pub invariant-parts-loop-item : goal.invariant-parts-loop-item
invariant-parts-loop-item l =
    (all (map (λ item. uses item.expr) (drop l.item-index l.list)) (names_of l.bound) (used_of l.found) ≡ all (map (λ item. uses item.expr) l.list) (names_of l.initial.bound) (used_of l.initial.found))
    × (l.bound ≡ l.initial.bound)

abbrev pub invariant-expr-loop-name : goal.invariant-expr-loop-name
invariant-expr-loop-name l =
    (size-Expr l.rest ≤ size-Expr l.initial.rest)
    × (uses l.rest (names_of l.bound) (used_of l.found) ≡ uses l.initial.rest (names_of l.initial.bound) (used_of l.initial.found))
    × (drop l.count l.bound ≡ l.initial.bound)

abbrev pub decreases-expr-loop-name : goal.decreases-expr-loop-name
decreases-expr-loop-name l = size-Expr l.rest
