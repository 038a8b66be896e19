use Rattle.lk_http.proofs.ReplySteps.{grown}
use Rattle.lk_http.proofs.reply.step.Goals as goal

pub returns-in_ok-more_body-in-Body-clause-read : goal.returns-in_ok-more_body-in-Body-clause-read
returns-in_ok-more_body-in-Body-clause-read c bytes read =
    grown bytes c.args.piece.now c.in-Body.behind c.in-Body.status c.in-Body.len c.args.progress c.in_ok-more_body-in-Body.field-0 c.in-Body.is c.in_ok-more_body-in-Body.ensures read
