use Rattle.std.proofs.Common.{length, subst, decimal}
use Rattle.lk_http.proofs.Grammars.{hopeless_reply, hopeless_request, reply_grammar, request_grammar}
use Rattle.lk_http.proofs.ReplyTexts as reply
use Rattle.lk_http.proofs.RequestTexts as request
use Rattle.lk_http.proofs.Texts.{cut, whole}
use Rattle.lk_http.proofs.laws.message_laws.Goals as goal
use Rattle.lk_http.specs.Law.{EndsInHopelessTarget, IsOnlyVerdict}
use Rattle.lk_http.specs.Replies.{replies}
use Rattle.lk_http.specs.Requests.{requests}
use Rattle.lk_http.specs.Written.{reply_head, reply_message, request_head}
use Rattle.lk_http.specs.declared.verdict.ReplyFed.TheVariants.{Done}

pub returns-clause-requests : goal.returns-clause-requests
returns-clause-requests c body few =
    let n = length body in (
      whole requests request_grammar EndsInHopelessTarget hopeless_request (λ bytes odd. odd.1) (request_head n) (request.tree (decimal n)) body (request.is_text n few) (request.judged_is n few),
      cut requests request_grammar EndsInHopelessTarget hopeless_request (λ bytes odd. odd.1) (request_head n) (request.tree (decimal n)) body (request.is_text n few) (request.judged_is n few),
    )

pub returns-clause-replies : goal.returns-clause-replies
returns-clause-replies c status body is few =
    let n = length body in
    let line = reply.status_is status is in (
      subst (λ s. IsOnlyVerdict replies (reply_message status body) (Done s body)) (reply.status_tells status line n)
          (whole replies reply_grammar (λ bytes. ⊥) hopeless_reply (λ bytes odd. absurd odd) (reply_head status n) (reply.reply_tree status line n) body (reply.is_text status line n few) (reply.judged_is status line n few)),
      cut replies reply_grammar (λ bytes. ⊥) hopeless_reply (λ bytes odd. absurd odd) (reply_head status n) (reply.reply_tree status line n) body (reply.is_text status line n few) (reply.judged_is status line n few),
    )
