-- Where a reader stands, by the bytes that it was given.
use Rattle.std.specs.Prelude.{◌≡◌, ◌≢◌, ◌⊎◌, ℕ, ◌<◌, ◌≤◌, List, length, drop, take, nat_le, Option, Some, None, Result, Ok, Err, if◌then◌else◌, ⊤}
use Rattle.httparse.specs.Grammar.{RequestHead, ResponseHead, status_code}
use Rattle.lk_http.specs.Limits.{head_limit, field_limit}
use Rattle.lk_http.specs.Replies.{replies}
use Rattle.lk_http.specs.Requests.{requests}
use Rattle.lk_http.specs.Verdicts.{HasNoHead, Kind, Stays, front}
use Rattle.lk_http.specs.declared.place.BodyPlace.{BodyPlace}
use Rattle.lk_http.specs.declared.progress.ReplyProgress.{ReplyProgress}
use Rattle.lk_http.specs.declared.progress.ReplyProgress.TheVariants as reply
use Rattle.lk_http.specs.declared.progress.RequestProgress.{RequestProgress}
use Rattle.lk_http.specs.declared.progress.RequestProgress.TheVariants as request
use Rattle.lk_http.specs.declared.refusal.HttpRefusal.{HttpRefusal}
use Rattle.lk_http.specs.declared.verdict.Fed.{Fed}
use Rattle.lk_http.specs.declared.verdict.Fed.TheVariants as fed
use Rattle.lk_http.specs.declared.verdict.ReplyFed.{ReplyFed}
use Rattle.lk_http.specs.declared.verdict.ReplyFed.TheVariants as reply_fed
use Rattle.lk_http.specs.declared.verdict.ReplyKind.{ReplyKind}
use Rattle.lk_http.specs.declared.verdict.ReplyKind.TheVariants as kinds

-- ---- any kind of messages

-- no head has come, though one may, and there is room for it
pub record AwaitsHead {Verdict Why : Type 0} (kind : Kind Verdict Why) (bytes : List ℕ) : Type 0 where
  pub none : HasNoHead kind (front bytes)
  pub may : kind.MayBecome (front bytes)
  pub short : length bytes < head_limit

-- a head has come that announces n bytes, and these are those behind it
pub record HasHead {Verdict Why : Type 0} (kind : Kind Verdict Why) (bytes : List ℕ) (h : kind.Head) (n : ℕ) (behind : List ℕ) : Type 0 where
  pub rest : List ℕ
  pub reads : kind.Reads (front bytes) h rest
  pub few : length (kind.fields h) ≤ field_limit
  pub announces : kind.judged h ≡ Ok n
  pub follows : behind ≡ drop (length (kind.text h)) bytes

-- that is the verdict, and no more bytes change it
pub record IsSettled {Verdict Why : Type 0} (kind : Kind Verdict Why) (bytes : List ℕ) (verdict : Verdict) : Type 0 where
  pub stays : Stays kind bytes verdict
  pub last : verdict ≢ kind.more

-- where the body of a message stands whose head has so many bytes, or why the message is refused
abbrev pub located : {Why : Type 0} → ℕ → Result ℕ Why → Result BodyPlace Why
located start (Ok n) = Ok (record { start = start; len = n })
located start (Err why) = Err why

abbrev pub placed : {Verdict Why : Type 0} (kind : Kind Verdict Why) → ℕ → kind.Head → Result BodyPlace Why
placed kind start h = if nat_le (length (kind.fields h)) field_limit then located start (kind.judged h) else Err kind.too_large

-- the body stands at this place, behind that head
pub record HasBodyAt {Verdict Why : Type 0} (kind : Kind Verdict Why) (bytes : List ℕ) (h : kind.Head) (place : BodyPlace) : Type 0 where
  pub start : place.start ≡ length (kind.text h)
  pub head : HasHead kind bytes h place.len (drop place.start bytes)

-- ---- requests

-- what is found of the bytes of a request: no head yet, where its body stands, or why it is refused
abbrev pub FindsRequest : List ℕ → Result (Option BodyPlace) HttpRefusal → Type 0
FindsRequest bytes (Ok None) = AwaitsHead requests bytes
FindsRequest bytes (Ok (Some place)) = (h : RequestHead) × HasBodyAt requests bytes h place
FindsRequest bytes (Err why) = IsSettled requests bytes (fed.Refused why)

-- a reader of requests stands there once it was given these bytes; one for which memory ran out was given any
abbrev pub HasReadRequest : RequestProgress → List ℕ → Type 0
HasReadRequest (request.Head taken) bytes = (taken ≡ bytes) × AwaitsHead requests bytes
HasReadRequest (request.Body behind n) bytes = (h : RequestHead) × HasHead requests bytes h n behind × (length behind < n)
HasReadRequest (request.Over verdict) bytes = IsSettled requests bytes verdict
HasReadRequest request.Broken bytes = ⊤

-- behind a head that announces n bytes, with these bytes behind it
abbrev pub request_body : ℕ → List ℕ → RequestProgress
request_body n behind = if nat_le n (length behind) then request.Over (fed.Done (take n behind)) else request.Body behind n

-- what it answers there
abbrev pub request_answer : RequestProgress → Option Fed
request_answer (request.Head taken) = Some fed.More
request_answer (request.Body behind n) = Some fed.More
request_answer (request.Over verdict) = Some verdict
request_answer request.Broken = None

-- a verdict is kept, unless memory runs out, and so is that it did
abbrev pub KeepsRequest : RequestProgress → RequestProgress → Type 0
KeepsRequest (request.Head taken) new = ⊤
KeepsRequest (request.Body behind n) new = ⊤
KeepsRequest (request.Over verdict) new = (new ≡ request.Over verdict) ⊎ (new ≡ request.Broken)
KeepsRequest request.Broken new = new ≡ request.Broken

-- ---- replies

abbrev pub FindsReply : List ℕ → Result (Option (ℕ × BodyPlace)) ReplyKind → Type 0
FindsReply bytes (Ok None) = AwaitsHead replies bytes
FindsReply bytes (Ok (Some found)) = (h : ResponseHead) × HasBodyAt replies bytes h found.1 × (found.0 ≡ status_code h)
FindsReply bytes (Err why) = IsSettled replies bytes (reply_fed.Bad why)

abbrev pub HasReadReply : ReplyProgress → List ℕ → Type 0
HasReadReply (reply.Head taken) bytes = (taken ≡ bytes) × AwaitsHead replies bytes
HasReadReply (reply.Body status behind n) bytes = (h : ResponseHead) × HasHead replies bytes h n behind × (length behind < n) × (status ≡ status_code h)
HasReadReply (reply.Over verdict) bytes = IsSettled replies bytes verdict
HasReadReply reply.Broken bytes = ⊤

abbrev pub reply_body : ℕ → ℕ → List ℕ → ReplyProgress
reply_body status n behind = if nat_le n (length behind) then reply.Over (reply_fed.Done status (take n behind)) else reply.Body status behind n

abbrev pub reply_answer : ReplyProgress → Option ReplyFed
reply_answer (reply.Head taken) = Some reply_fed.More
reply_answer (reply.Body status behind n) = Some reply_fed.More
reply_answer (reply.Over verdict) = Some verdict
reply_answer reply.Broken = None

abbrev pub KeepsReply : ReplyProgress → ReplyProgress → Type 0
KeepsReply (reply.Head taken) new = ⊤
KeepsReply (reply.Body status behind n) new = ⊤
KeepsReply (reply.Over verdict) new = (new ≡ reply.Over verdict) ⊎ (new ≡ reply.Broken)
KeepsReply reply.Broken new = new ≡ reply.Broken

-- what a verdict is once no more bytes come
abbrev pub ended : ReplyFed → ReplyFed
ended reply_fed.More = reply_fed.Bad kinds.Cut
ended (reply_fed.Done status body) = reply_fed.Done status body
ended (reply_fed.Bad why) = reply_fed.Bad why
