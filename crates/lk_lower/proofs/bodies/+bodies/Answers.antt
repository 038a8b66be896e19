use Rattle.std.proofs.Common.{arith, refl, sym, ap, subst, ◌∙◌, ℕ, List, [], ◌∷◌, ◌++◌, take, take_all, length}
use Rattle.std.proofs.lemmas.Result.{IfOk-weaker}
use Rattle.lk_ast.specs.declared.expression.Node.{out-Node}
use Rattle.lk_ast.specs.declared.expression.Node.TheVariants as node
use Rattle.lk_evaluation.specs.Syntax.{parts_of}
use Rattle.lk_lower.proofs.Growing.{begins}
use Rattle.lk_lower.proofs.Walking.{lambda_lowered, node_made, one_behind, place_there, shown_more, statement_made, statement_there, statement_tail}
use Rattle.lk_lower.proofs.bodies.+bodies.Goals as goal
use Rattle.lk_lower.specs.Growing.{AllLower, Lowers}
use Rattle.lk_lower.specs.Lowering.{tails_of}
use Rattle.lk_lower.specs.Steps.{form_of, with_form}
use Rattle.lk_lower.specs.Walked.{shown, state_of}

-- ---- expressions one after another

pub all-loop-e-init : goal.all-loop-e-init
all-loop-e-init t c = subst (AllLower c.args.at.now.owner c.args.at.now.within (state_of c.args.walk.now) (state_of c.args.walk.now) []) (sym c.new-numbers.ensures) (begins c.args.at.now.owner c.args.at.now.within (state_of c.args.walk.now))

pub all-loop-e-preserved : goal.all-loop-e-preserved
all-loop-e-preserved t c =
    one_behind c.args.at.now.owner c.args.at.now.within (state_of c.args.walk.now) (state_of c.loop-e.walk) (state_of c.expr.new.walk) (shown (take c.loop-e.e-index c.args.es.now)) _ c.loop-e.numbers c.push.new.self _ _ c.loop-e.invariant c.in_ok-expr.ensures
    (shown_more c.args.es.now c.loop-e.e-index c.e-item.result c.loop-e-test.true c.e-item.is) c.in_ok-push.ensures.ok

pub all-returns : goal.all-returns
all-returns t c = subst (λ es. AllLower c.args.at.now.owner c.args.at.now.within (state_of c.args.walk.now) (state_of c.loop-e.walk) (shown es) c.loop-e.numbers) (take_all c.loop-e.e-index c.args.es.now c.loop-e-test.false) c.loop-e.invariant

-- ---- a block

pub expr-loop-name-init : goal.expr-loop-name-init
expr-loop-name-init t c = (omega arith, λ later k one. subst (Lowers c.args.at.now.owner c.args.at.now.within (state_of c.args.walk.now) later c.args.e.now) one.number one)

pub expr-loop-name-preserved : goal.expr-loop-name-preserved
expr-loop-name-preserved t c = (
  omega (arith, c.in-Some.ensures.rest, c.loop-name.invariant.0),
  λ later k one.
      c.loop-name.invariant.1 later (length c.loop-name.walk.nodes.items)
      (c.in_ok-statement.ensures c.in-Some.next.now (statement_tail _ _ _ c.in-Some.ensures.before) later k one),
)

pub expr-returns : goal.expr-returns
expr-returns t c = subst (Lowers c.args.at.now.owner c.args.at.now.within (state_of c.args.walk.now) (state_of c.one.new.walk) c.args.e.now) (sym c.in_ok-number.ensures) (c.loop-name.invariant.1 (state_of c.one.new.walk) _ c.in_ok-one.ensures)

pub statement-end_node-requires : goal.statement-end_node-requires
statement-end_node-requires t c =
    statement_there c.args.at.now.owner c.args.at.now.within c.in_ok-opened.opened.place.number c.in_ok-opened.opened.place.ty (state_of c.args.walk.now) (state_of c.begin_node.new.walk) (state_of c.parts.new.walk) c.args.e.now c.in_ok-opened.opened.kind c.in_ok-positions.positions
    c.in_ok-opened.ensures
    (subst (λ n. AllLower c.args.at.now.owner c.args.at.now.within (state_of c.begin_node.new.walk) (state_of c.parts.new.walk) (parts_of (out-Node n)) c.in_ok-positions.positions) c.get.ensures c.in_ok-positions.ensures)

pub statement-returns : goal.statement-returns
statement-returns t c =
    statement_made c.args.at.now.owner c.args.at.now.within c.in_ok-opened.opened.place.number c.in_ok-opened.opened.place.ty (state_of c.args.walk.now) (state_of c.begin_node.new.walk) (state_of c.parts.new.walk) c.args.e.now c.in_ok-opened.opened.kind c.in_ok-positions.positions
    c.in_ok-next_number.field-0 (state_of c.end_node.new.walk) c.in_ok-opened.ensures refl refl
    (subst (λ n. AllLower c.args.at.now.owner c.args.at.now.within (state_of c.begin_node.new.walk) (state_of c.parts.new.walk) (parts_of (out-Node n)) c.in_ok-positions.positions) c.get.ensures c.in_ok-positions.ensures)
    c.in_ok-next_number.ensures
    (c.end_node.ensures
    ∙ ap (λ (ends : List ℕ). with_form (state_of c.parts.new.walk) c.in_ok-opened.opened.place.number (form_of c.args.at.now.within c.args.e.now.span c.in_ok-opened.opened.place.ty c.in_ok-opened.opened.kind c.in_ok-positions.positions ends))
    (c.in_ok-push.ensures.ok ∙ ap (λ (ends : List ℕ). ends ++ c.in_ok-next_number.field-0 ∷ []) c.new-ends.ensures))

-- ---- nodes

pub node-end_node-requires : goal.node-end_node-requires
node-end_node-requires t c =
    place_there c.args.at.now.owner c.args.at.now.within c.in_ok-opened.opened.place.number c.in_ok-opened.opened.place.ty (state_of c.args.walk.now) (state_of c.begin_node.new.walk) (state_of c.parts.new.walk) (state_of c.tails.new.walk) c.args.e.now c.in_ok-opened.opened.kind c.in_ok-positions.positions c.in_ok-ends.ends
    c.in_ok-opened.ensures
    (subst (λ n. AllLower c.args.at.now.owner c.args.at.now.within (state_of c.begin_node.new.walk) (state_of c.parts.new.walk) (parts_of (out-Node n)) c.in_ok-positions.positions) c.get.ensures c.in_ok-positions.ensures)
    (subst (λ n. AllLower c.args.at.now.owner c.args.at.now.within (state_of c.parts.new.walk) (state_of c.tails.new.walk) (tails_of (out-Node n)) c.in_ok-ends.ends) c.get-2.ensures c.in_ok-ends.ensures)

pub node-returns : goal.node-returns
node-returns t c =
    subst (λ s. Lowers c.args.at.now.owner c.args.at.now.within (state_of c.args.walk.now) s c.args.e.now c.in_ok-opened.opened.place.number) (sym c.end_node.ensures)
    (node_made c.args.at.now.owner c.args.at.now.within c.in_ok-opened.opened.place.number c.in_ok-opened.opened.place.ty (state_of c.args.walk.now) (state_of c.begin_node.new.walk) (state_of c.parts.new.walk) (state_of c.tails.new.walk) c.args.e.now c.in_ok-opened.opened.kind c.in_ok-positions.positions c.in_ok-ends.ends
    c.in_ok-opened.ensures refl refl
    (subst (λ n. AllLower c.args.at.now.owner c.args.at.now.within (state_of c.begin_node.new.walk) (state_of c.parts.new.walk) (parts_of (out-Node n)) c.in_ok-positions.positions) c.get.ensures c.in_ok-positions.ensures)
    (subst (λ n. AllLower c.args.at.now.owner c.args.at.now.within (state_of c.parts.new.walk) (state_of c.tails.new.walk) (tails_of (out-Node n)) c.in_ok-ends.ends) c.get-2.ensures c.in_ok-ends.ensures))

-- ---- lambdas

pub lambda-returns : goal.lambda-returns
lambda-returns t c = λ is.
    lambda_lowered c.args.at.now.owner c.args.at.now.within c.in_ok-label.label c.in_ok-number.number (state_of c.args.walk.now) (state_of c.begin_lambda.new.walk) (state_of c.expr.new.walk) c.args.e.now c.args.l.now _ c.in_ok-number.ensures refl c.in_ok-label.ensures is c.in_ok-expr.ensures

pub one-returns-in-Lambda : goal.one-returns-in-Lambda
one-returns-in-Lambda t c = IfOk-weaker c.lambda.result _ _ (λ n is. is (ap out-Node (sym c.get.ensures ∙ c.in-Lambda.is) ∙ node.outs-Lambda c.in-Lambda.l)) c.lambda.ensures
