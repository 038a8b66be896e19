-- Laws of verdicts and of written messages.
use Rattle.std.specs.Prelude.{◌≡◌, ◌≢◌, ◌⊎◌, ℕ, ◌<◌, ◌≤◌, true, List, length, take}
use Rattle.httparse.specs.Grammar.{EndsInTarget, NeverHasRequest}
use Rattle.lk_ast.specs.Limits.{message_limit}
use Rattle.lk_http.specs.Replies.{replies}
use Rattle.lk_http.specs.Requests.{requests}
use Rattle.lk_http.specs.Verdicts.{IsVerdict, Kind, Stays, front}
use Rattle.lk_http.specs.Written.{is_status, reply_message, request_message}
use Rattle.lk_http.specs.declared.verdict.Fed.{Fed}
use Rattle.lk_http.specs.declared.verdict.Fed.TheVariants as fed
use Rattle.lk_http.specs.declared.verdict.ReplyFed.{ReplyFed}
use Rattle.lk_http.specs.declared.verdict.ReplyFed.TheVariants as reply_fed

-- that is the verdict on the bytes, and no other is
pub record IsOnlyVerdict {Verdict Why : Type 0} (kind : Kind Verdict Why) (bytes : List ℕ) (verdict : Verdict) : Type 0 where
  pub is : IsVerdict kind bytes verdict
  pub only : (other : Verdict) → IsVerdict kind bytes other → other ≡ verdict

-- each verdict but that more bytes are needed stays, whatever bytes follow
abbrev pub VerdictsStay : {Verdict Why : Type 0} → Kind Verdict Why → Type 0
VerdictsStay {Verdict} kind = (bytes : List ℕ) (verdict : Verdict) → IsVerdict kind bytes verdict → verdict ≢ kind.more → Stays kind bytes verdict

-- the bytes end inside the target of a request, and none can follow that make it a head
abbrev pub EndsInHopelessTarget : List ℕ → Type 0
EndsInHopelessTarget bytes = EndsInTarget bytes × NeverHasRequest bytes

-- two verdicts on the same bytes are equal, unless these end inside a hopeless target
abbrev pub RequestsHaveOne : Type 0
RequestsHaveOne = (bytes : List ℕ) (verdict other : Fed) → IsVerdict requests bytes verdict → IsVerdict requests bytes other
    → (verdict ≡ other) ⊎ EndsInHopelessTarget (front bytes)

abbrev pub RepliesHaveOne : Type 0
RepliesHaveOne = (bytes : List ℕ) (verdict other : ReplyFed) → IsVerdict replies bytes verdict → IsVerdict replies bytes other → verdict ≡ other

-- a written message is read as its body, and of each front of it more is needed
abbrev pub RequestsAreRead : Type 0
RequestsAreRead = (body : List ℕ) → length body ≤ message_limit
    → IsOnlyVerdict requests (request_message body) (fed.Done body)
    × ((k : ℕ) → k < length (request_message body) → IsOnlyVerdict requests (take k (request_message body)) fed.More)

abbrev pub RepliesAreRead : Type 0
RepliesAreRead = (status : ℕ) (body : List ℕ) → is_status status ≡ true → length body ≤ message_limit
    → IsOnlyVerdict replies (reply_message status body) (reply_fed.Done status body)
    × ((k : ℕ) → k < length (reply_message status body) → IsOnlyVerdict replies (take k (reply_message status body)) reply_fed.More)
