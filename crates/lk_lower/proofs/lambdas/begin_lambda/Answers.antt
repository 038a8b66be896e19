use Rattle.std.proofs.Common.{◌≡◌, refl, ap, subst, ◌∙◌, ◌+◌, ℕ, List}
use Rattle.lk_index.specs.Free.{captured, texts}
use Rattle.lk_ir.specs.declared.nodes.Form.{Form}
use Rattle.lk_lower.proofs.Walking.{lambda_opened, node_form}
use Rattle.lk_lower.proofs.lambdas.begin_lambda.Goals as goal
use Rattle.lk_lower.specs.Growing.{State}
use Rattle.lk_lower.specs.Steps.{AreNamed, IsBody, past, with_node}
use Rattle.lk_lower.specs.Walked.{state_of}

pub returns : goal.returns
returns c =
    let old = state_of c.args.walk.now in
    let learnt = state_of c.own_type.new.walk in
    let labelled = state_of c.push_label.new.walk in
    let locals : learnt.locals ≡ old.locals = ap (λ (s : State). s.locals) c.in_ok-ty.ensures.state.1 in
    let later : labelled.locals ≡ learnt.locals = ap (λ (s : State). s.locals) c.in_ok-push_label.ensures in
    let body : IsBody old.locals c.args.l.now.place (captured c.args.l.now) c.args.l.now.params (c.in_ok-number.number + 1) c.in_ok-body.body =
    subst (λ (ls : List (List ℕ)). IsBody ls c.args.l.now.place (captured c.args.l.now) c.args.l.now.params (c.in_ok-number.number + 1) c.in_ok-body.body) locals
    (subst (λ (xs : List (List ℕ)). IsBody learnt.locals c.args.l.now.place xs c.args.l.now.params (c.in_ok-number.number + 1) c.in_ok-body.body) (ap texts c.as_slice.ensures ∙ c.in_ok-names.ensures) c.in_ok-body.ensures) in
    let named : AreNamed old.locals c.in_ok-places.places (captured c.args.l.now) =
    subst (λ (ls : List (List ℕ)). AreNamed ls c.in_ok-places.places (captured c.args.l.now)) (later ∙ locals)
    (subst (λ (xs : List (List ℕ)). AreNamed labelled.locals c.in_ok-places.places xs) (ap texts c.as_slice-2.ensures ∙ c.in_ok-names.ensures) c.in_ok-places.ensures) in
    lambda_opened c.args.at.now.owner c.args.at.now.within c.args.span c.args.l.now c.in_ok-label.label c.in_ok-ty.ty c.in_ok-number.number c.in_ok-places.places c.in_ok-body.body old learnt (state_of c.take_type.new.walk) refl refl
    c.in_ok-label.ensures c.in_ok-number.ensures c.in_ok-ty.ensures.is c.in_ok-ty.ensures.state body named
    (c.take_type.ensures ∙ ap (past 1 0) (c.in_ok-push_node.ensures ∙ ap (λ (f : Form). with_node f labelled) c.form_of.ensures ∙ ap (with_node (node_form c.args.at.now.owner c.args.at.now.within c.args.span c.args.l.now c.in_ok-label.label c.in_ok-ty.ty c.in_ok-number.number c.in_ok-places.places c.in_ok-body.body)) c.in_ok-push_label.ensures))
