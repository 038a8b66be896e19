use Rattle.std.proofs.Common.{◌≤◌, ◌++◌, length, sym, subst, ◌∙◌}
use Rattle.std.proofs.lemmas.Result.{IfOk-weaker}
use Rattle.lk_http.proofs.Bodies.{place_fits}
use Rattle.lk_http.proofs.Grammars.{request_grammar}
use Rattle.lk_http.proofs.RequestSteps.{begun}
use Rattle.lk_http.proofs.request.more_head.Goals as goal
use Rattle.lk_http.specs.Requests.{requests}

pub begin_body-requires : goal.begin_body-requires
begin_body-requires c =
    let found = rw c.in-Ok-Some.field-0-is at c.in-Ok-Some.ensures in
    subst (λ b. c.in-Ok-Some.place.start ≤ length b) (c.as_slice.ensures ∙ sym c.as_slice-in-Ok-Some.ensures) (place_fits requests request_grammar c.as_slice.result.now found.0 c.in-Ok-Some.place found.1)

pub returns-in-Ok-Some : goal.returns-in-Ok-Some
returns-in-Ok-Some c =
    let found = rw c.in-Ok-Some.field-0-is at c.in-Ok-Some.ensures in
    IfOk-weaker c.begin_body.result _ _ (λ next is. begun (c.args.bytes ++ c.args.piece.now) c.as_slice.result.now c.as_slice-in-Ok-Some.result.now c.in-Ok-Some.place next (c.as_slice.ensures ∙ c.in_ok-push_slice.ensures.ok) (c.as_slice-in-Ok-Some.ensures ∙ c.in_ok-push_slice.ensures.ok) found is) c.begin_body.ensures
