use Rattle.std.proofs.Common.{◌≡◌, ◌≤◌, ℕ, ◌+◌, ◌*◌, drop, map}
use Rattle.lk_ast.specs.declared.expression.Expr.{size-Expr}
use Rattle.lk_bodies.proofs.+walk.Given as goal
use Rattle.lk_bodies.specs.Walk.{all_from, walk}
use Rattle.lk_bodies.specs.Walked.{calls_in, made_of, several_of, state_of}

-- each part has less room than what it stands in
abbrev level : ℕ → ℕ
level room = room * 6

abbrev pub decreases-walk::expr : goal.decreases-walk::expr
decreases-walk::expr l = level l.room

abbrev pub decreases-walk::under : goal.decreases-walk::under
decreases-walk::under l = level l.room + 1

abbrev pub decreases-walk::exprs : goal.decreases-walk::exprs
decreases-walk::exprs l = level l.room + 1

abbrev pub decreases-walk::fields : goal.decreases-walk::fields
decreases-walk::fields l = level l.room + 1

abbrev pub decreases-walk::enter : goal.decreases-walk::enter
decreases-walk::enter l = level l.room + 1

abbrev pub decreases-arms::two : goal.decreases-arms::two
decreases-arms::two l = level l.room + 1

abbrev pub decreases-arms::empty : goal.decreases-arms::empty
decreases-arms::empty l = level l.room + 1

abbrev pub decreases-arms::project : goal.decreases-arms::project
decreases-arms::project l = level l.room + 1

abbrev pub decreases-arms::extension : goal.decreases-arms::extension
decreases-arms::extension l = level l.room + 2

abbrev pub decreases-walk::call : goal.decreases-walk::call
decreases-walk::call l = level l.room + 2

abbrev pub decreases-arms::record_of : goal.decreases-arms::record_of
decreases-arms::record_of l = level l.room + 2

abbrev pub decreases-arms::loop_over : goal.decreases-arms::loop_over
decreases-arms::loop_over l = level l.room + 2

abbrev pub decreases-arms::chosen : goal.decreases-arms::chosen
decreases-arms::chosen l = level l.room + 1

abbrev pub decreases-arms::equal : goal.decreases-arms::equal
decreases-arms::equal l = level l.room + 1

abbrev pub decreases-arms::unequal : goal.decreases-arms::unequal
decreases-arms::unequal l = level l.room + 1

abbrev pub decreases-arms::joined : goal.decreases-arms::joined
decreases-arms::joined l = level l.room + 1

abbrev pub decreases-arms::filtered : goal.decreases-arms::filtered
decreases-arms::filtered l = level l.room + 1

abbrev pub decreases-arms::one : goal.decreases-arms::one
decreases-arms::one l = level l.room + 1

abbrev pub decreases-arms::list_of : goal.decreases-arms::list_of
decreases-arms::list_of l = level l.room + 2

abbrev pub decreases-arms::variable : goal.decreases-arms::variable
decreases-arms::variable l = level l.room + 2

abbrev pub decreases-arms::sequence : goal.decreases-arms::sequence
decreases-arms::sequence l = level l.room + 1

abbrev pub decreases-walk::node : goal.decreases-walk::node
decreases-walk::node l = level l.room + 3

abbrev pub invariant-walk::exprs-loop-e : goal.invariant-walk::exprs-loop-e
invariant-walk::exprs-loop-e l =
    (all_from l.numbers (map (walk (calls_in l.at.over.now l.at.calls)) (drop l.e-index l.list)) l.names (state_of l.walked) ≡ all_from l.initial.numbers (map (walk (calls_in l.at.over.now l.at.calls)) l.list) l.initial.names (state_of l.initial.walked))
    × (l.names ≡ l.initial.names)

abbrev pub invariant-walk::fields-loop-item : goal.invariant-walk::fields-loop-item
invariant-walk::fields-loop-item l =
    (all_from l.numbers (map (λ item. walk (calls_in l.at.over.now l.at.calls) item.expr) (drop l.item-index l.items)) l.names (state_of l.walked) ≡ all_from l.initial.numbers (map (λ item. walk (calls_in l.at.over.now l.at.calls) item.expr) l.items) l.initial.names (state_of l.initial.walked))
    × (l.names ≡ l.initial.names)

abbrev pub invariant-walk::expr-loop-name : goal.invariant-walk::expr-loop-name
invariant-walk::expr-loop-name l =
    (size-Expr l.rest ≤ size-Expr l.initial.rest)
    × (walk (calls_in l.at.over.now l.at.calls) l.rest l.names (state_of l.walked) ≡ walk (calls_in l.at.over.now l.at.calls) l.initial.rest l.initial.names (state_of l.initial.walked))
    × (drop l.count l.names ≡ l.initial.names)

abbrev pub decreases-walk::expr-loop-name : goal.decreases-walk::expr-loop-name
decreases-walk::expr-loop-name l = size-Expr l.rest
