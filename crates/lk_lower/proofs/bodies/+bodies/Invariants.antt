use Rattle.std.proofs.Common.{◌≤◌, ℕ, ◌+◌, ◌*◌, take, length}
use Rattle.lk_ast.specs.declared.expression.Expr.{size-Expr}
use Rattle.lk_lower.proofs.bodies.+bodies.Given as goal
use Rattle.lk_lower.specs.Growing.{AllLower, Lowers, State}
use Rattle.lk_lower.specs.Walked.{shown, state_of}

-- each part has less room than what it stands in
abbrev level : ℕ → ℕ
level room = room * 5

abbrev pub decreases-expr : goal.decreases-expr
decreases-expr l = level l.room

abbrev pub decreases-all : goal.decreases-all
decreases-all l = level l.room + 1

abbrev pub decreases-parts : goal.decreases-parts
decreases-parts l = level l.room + 2

abbrev pub decreases-tails : goal.decreases-tails
decreases-tails l = level l.room + 2

abbrev pub decreases-node : goal.decreases-node
decreases-node l = level l.room + 3

abbrev pub decreases-lambda : goal.decreases-lambda
decreases-lambda l = level l.room + 3

abbrev pub decreases-statement : goal.decreases-statement
decreases-statement l = level l.room + 3

abbrev pub decreases-one : goal.decreases-one
decreases-one l = level l.room + 4

abbrev pub invariant-all-loop-e : goal.invariant-all-loop-e
invariant-all-loop-e l = AllLower l.at.owner l.at.within (state_of l.initial.walk) (state_of l.walk) (shown (take l.e-index l.es)) l.numbers

-- whoever lowers what is left of a block has lowered the block
abbrev pub invariant-expr-loop-name : goal.invariant-expr-loop-name
invariant-expr-loop-name l =
    (size-Expr l.rest ≤ size-Expr l.initial.rest)
    × ((later : State) (k : ℕ) → Lowers l.at.owner l.at.within (state_of l.walk) later l.rest k → Lowers l.at.owner l.at.within (state_of l.initial.walk) later l.initial.rest (length l.initial.walk.nodes.items))

abbrev pub decreases-expr-loop-name : goal.decreases-expr-loop-name
decreases-expr-loop-name l = size-Expr l.rest
