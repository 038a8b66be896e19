use Rattle.std.proofs.Common.{⊎_elim}
use Rattle.lk_http.proofs.Grammars.{hopeless_reply, hopeless_request, reply_grammar, request_grammar}
use Rattle.lk_http.proofs.One.{one}
use Rattle.lk_http.proofs.Stays.{stays}
use Rattle.lk_http.proofs.laws.verdict_laws.Goals as goal
use Rattle.lk_http.specs.Law.{EndsInHopelessTarget}
use Rattle.lk_http.specs.Replies.{replies}
use Rattle.lk_http.specs.Requests.{requests}

pub returns-clause-requests_stay : goal.returns-clause-requests_stay
returns-clause-requests_stay c = stays requests request_grammar

pub returns-clause-replies_stay : goal.returns-clause-replies_stay
returns-clause-replies_stay c = stays replies reply_grammar

pub returns-clause-requests_one : goal.returns-clause-requests_one
returns-clause-requests_one c = one requests request_grammar EndsInHopelessTarget hopeless_request

pub returns-clause-replies_one : goal.returns-clause-replies_one
returns-clause-replies_one c bytes verdict other is also = ⊎_elim (λ same. same) (λ odd. absurd odd) (one replies reply_grammar (λ bytes. ⊥) hopeless_reply bytes verdict other is also)
