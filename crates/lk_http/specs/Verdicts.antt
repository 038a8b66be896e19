-- What the bytes of a message come to, as far as they are there (RFC 9112, sections 2.1 and 6.3).
use Rattle.std.specs.Prelude.{ℕ, ◌<◌, ◌≤◌, List, ◌++◌, length, take, drop, nat_le, Result, Ok, Err, if◌then◌else◌}
use Rattle.httparse.specs.Grammar.{Field}
use Rattle.lk_http.specs.Limits.{head_limit, field_limit}

-- A kind of messages: the heads that begin them, what is told by a head, and how verdicts are given.
pub record Kind (Verdict Why : Type 0) : Type 1 where
  pub Head : Type 0
  -- the bytes are the text of that head, and then the rest
  pub Reads : List ℕ → Head → List ℕ → Type 0
  pub text : Head → List ℕ
  pub fields : Head → List Field
  -- bytes that others may follow to make a head, as far as that is told of bytes
  pub MayBecome : List ℕ → Type 0
  -- how many bytes the body behind a head has, or why the message is refused
  pub judged : Head → Result ℕ Why
  -- the verdicts: more bytes are needed, the message is there with this body, it is refused
  pub more : Verdict
  pub done : Head → List ℕ → Verdict
  pub refused : Why → Verdict
  -- why bytes are refused that no head begins, and a head that is too large
  pub bad : Why
  pub too_large : Why

-- the bytes in which a head may stand
abbrev pub front : List ℕ → List ℕ
front bytes = take head_limit bytes

module _ {Verdict Why : Type 0} (kind : Kind Verdict Why) where
  -- no head begins the bytes
  abbrev pub HasNoHead : List ℕ → Type 0
  HasNoHead bytes = (h : kind.Head) (rest : List ℕ) → ¬ (kind.Reads bytes h rest)

  -- no bytes can follow with which a head begins them
  abbrev pub NeverHasHead : List ℕ → Type 0
  NeverHasHead bytes = (later : List ℕ) → HasNoHead (bytes ++ later)

  -- what is answered of a head that was judged and of the bytes behind it: the body is the next of these, once they are there
  abbrev pub answered : kind.Head → Result ℕ Why → List ℕ → Verdict
  answered h (Err why) behind = kind.refused why
  answered h (Ok n) behind = if nat_le n (length behind) then kind.done h (take n behind) else kind.more

  -- The verdict on all bytes so far. Bytes that end inside the target of a request which no bytes can make a head any more have two,
  -- since that may be told of a target at its end only; all others have one.
  pub data IsVerdict (bytes : List ℕ) : Verdict → Type 0 where
    head : (h : kind.Head) (rest : List ℕ) → kind.Reads (front bytes) h rest → length (kind.fields h) ≤ field_limit
        → IsVerdict bytes (answered h (kind.judged h) (drop (length (kind.text h)) bytes))
    many : (h : kind.Head) (rest : List ℕ) → kind.Reads (front bytes) h rest → field_limit < length (kind.fields h)
        → IsVerdict bytes (kind.refused kind.too_large)
    never : NeverHasHead (front bytes) → IsVerdict bytes (kind.refused kind.bad)
    large : HasNoHead (front bytes) → kind.MayBecome (front bytes) → head_limit ≤ length bytes → IsVerdict bytes (kind.refused kind.too_large)
    more : HasNoHead (front bytes) → kind.MayBecome (front bytes) → length bytes < head_limit → IsVerdict bytes kind.more

  -- the verdict on the bytes, whatever bytes follow
  abbrev pub Stays : List ℕ → Verdict → Type 0
  Stays bytes verdict = (later : List ℕ) → IsVerdict (bytes ++ later) verdict
