use Rattle.std.proofs.Common.{◌≡◌, ◌++◌, subst}
use Rattle.lk_http.proofs.RequestSteps.{read_verdict}
use Rattle.lk_http.proofs.request.RequestReader.feed.Goals as goal
use Rattle.lk_http.specs.Reading.{HasReadRequest}

pub returns-clause-verdict : goal.returns-clause-verdict
returns-clause-verdict c bytes read =
    let view = c.self.view_is in
    let value = c.replace-progress.ensures.value in
    let same : c.args.self.now ≡ c.replace-progress.result = cc in
    read_verdict c.in_ok-next.next (bytes ++ c.args.piece.now) c.in_ok-verdict.verdict (c.in_ok-next.ensures.read bytes (subst (λ p. HasReadRequest p bytes) same read)) c.in_ok-verdict.ensures
