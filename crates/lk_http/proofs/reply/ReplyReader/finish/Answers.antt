use Rattle.std.proofs.Common.{◌≡◌, ap, subst, sym}
use Rattle.lk_http.proofs.ReplySteps.{ended_verdict}
use Rattle.lk_http.proofs.reply.ReplyReader.finish.Goals as goal
use Rattle.lk_http.specs.Reading.{HasReadReply, ended}

pub returns-in-More-clause-verdict : goal.returns-in-More-clause-verdict
returns-in-More-clause-verdict c bytes read =
    let view = c.self.view_is in
    let same : c.args.self.now ≡ c.self.inside.progress = cc in
    ended_verdict c.self.inside.progress bytes c.in_ok-answer.field-0 _ (subst (λ p. HasReadReply p bytes) same read) c.in_ok-answer.ensures (sym (ap ended c.in-More.is))

pub returns-in-Done-clause-verdict : goal.returns-in-Done-clause-verdict
returns-in-Done-clause-verdict c bytes read =
    let view = c.self.view_is in
    let same : c.args.self.now ≡ c.self.inside.progress = cc in
    ended_verdict c.self.inside.progress bytes c.in_ok-answer.field-0 _ (subst (λ p. HasReadReply p bytes) same read) c.in_ok-answer.ensures (sym (ap ended c.in-Done.is))

pub returns-in-Bad-clause-verdict : goal.returns-in-Bad-clause-verdict
returns-in-Bad-clause-verdict c bytes read =
    let view = c.self.view_is in
    let same : c.args.self.now ≡ c.self.inside.progress = cc in
    ended_verdict c.self.inside.progress bytes c.in_ok-answer.field-0 _ (subst (λ p. HasReadReply p bytes) same read) c.in_ok-answer.ensures (sym (ap ended c.in-Bad.is))
