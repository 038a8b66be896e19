-- What is used of the grammar of heads, for requests and for replies.
use Rattle.std.proofs.Common.{◌≡◌, ◌≢◌, inl, inr, ℕ, List, [], ◌++◌}
use Rattle.httparse.proofs.GrammarLemmas.{ReadsRequest-append, ReadsResponse-append, request_unique, response_unique}
use Rattle.httparse.specs.Grammar.{MayBecomeRequest, MayBecomeResponse, NeverHasRequest, NeverHasResponse}
use Rattle.lk_http.specs.Law.{EndsInHopelessTarget}
use Rattle.lk_http.specs.Replies.{replies}
use Rattle.lk_http.specs.Requests.{requests}
use Rattle.lk_http.specs.Verdicts.{Kind}

-- a head is a first part of its bytes, and the only one, whatever follows; and verdicts are told apart
pub record IsGrammar {Verdict Why : Type 0} (kind : Kind Verdict Why) : Type 0 where
  pub text : (bytes : List ℕ) (h : kind.Head) (rest : List ℕ) → kind.Reads bytes h rest → bytes ≡ kind.text h ++ rest
  pub append : (bytes : List ℕ) (h : kind.Head) (rest later : List ℕ) → kind.Reads bytes h rest → kind.Reads (bytes ++ later) h (rest ++ later)
  pub unique : (bytes : List ℕ) (h k : kind.Head) (r q : List ℕ) → kind.Reads bytes h r → kind.Reads bytes k q → (h ≡ k) × (r ≡ q)
  pub done_last : (h : kind.Head) (body : List ℕ) → kind.done h body ≢ kind.more
  pub refused_last : (why : Why) → kind.refused why ≢ kind.more

pub request_grammar : IsGrammar requests
request_grammar = record {
  text = λ bytes h rest reads. reads.1;
  append = ReadsRequest-append;
  unique = request_unique;
  done_last = λ h body e. cc;
  refused_last = λ why e. cc;
}

pub reply_grammar : IsGrammar replies
reply_grammar = record {
  text = λ bytes h rest reads. reads.1;
  append = ReadsResponse-append;
  unique = response_unique;
  done_last = λ h body e. cc;
  refused_last = λ why e. cc;
}

-- what may still become a head isn't hopeless, unless it ends inside a target
pub hopeless_request : (bytes : List ℕ) → MayBecomeRequest bytes → NeverHasRequest bytes → EndsInHopelessTarget bytes
hopeless_request bytes (inl may) never = absurd (never may.0 may.1 [] may.2)
hopeless_request bytes (inr ends) never = (ends, never)

pub hopeless_reply : (bytes : List ℕ) → MayBecomeResponse bytes → NeverHasResponse bytes → ⊥
hopeless_reply bytes may never = never may.0 may.1 [] may.2
