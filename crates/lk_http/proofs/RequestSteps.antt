-- What readers of requests have read.
use Rattle.std.proofs.Common.{◌≡◌, ◌≢◌, Bool, true, false, ◌<◌, ◌*◌, ℕ, nat_le, nat_lt, List, [], ◌++◌, length, take, drop, Option, Some, None, Result, Ok, Err, refl, sym, ap, ◌∙◌, subst, arith, length-append, if◌then◌else◌}
use Rattle.std.proofs.lemmas.Bool.Decides.{nat_tests}
use Rattle.std.proofs.lemmas.List.{length-take}
use Rattle.httparse.specs.Grammar.{HasNoRequest, MayBecomeRequest, NeverHasRequest, ReadsRequest, RequestHead, print_request}
use Rattle.httparse.specs.Spans.{IsRequestAt, IsRequestOf, RequestExceeds}
use Rattle.httparse.specs.declared.Error.{Error}
use Rattle.httparse.specs.declared.Error.TheVariants.{TooManyHeaders}
use Rattle.httparse.specs.declared.Status.{Status}
use Rattle.httparse.specs.declared.spans.HeaderSpan.{HeaderSpan}
use Rattle.httparse.specs.declared.spans.RequestSpans.{RequestSpans}
use Rattle.lk_http.proofs.Bodies.{awaited, body_awaited, body_settled, head_later, large_found, never_found, place_found, place_refused, settled_now}
use Rattle.lk_http.proofs.Grammars.{request_grammar}
use Rattle.lk_http.proofs.RequestTexts.{is_text}
use Rattle.lk_http.proofs.Room.{never_by, request_fits, request_some}
use Rattle.lk_http.specs.Limits.{head_limit}
use Rattle.lk_http.specs.Reading.{AwaitsHead, FindsRequest, HasBodyAt, HasHead, HasReadRequest, IsSettled, placed, request_answer, request_body}
use Rattle.lk_http.specs.Requests.{requests}
use Rattle.lk_http.specs.Verdicts.{IsVerdict, front}
use Rattle.lk_http.specs.declared.place.BodyPlace.{BodyPlace}
use Rattle.lk_http.specs.declared.progress.RequestProgress.{RequestProgress}
use Rattle.lk_http.specs.declared.progress.RequestProgress.TheVariants.{Body, Broken, Head, Over}
use Rattle.lk_http.specs.declared.refusal.HttpRefusal.{HttpRefusal}
use Rattle.lk_http.specs.declared.refusal.HttpRefusal.TheVariants.{BadRequest, HeadTooLarge}
use Rattle.lk_http.specs.declared.verdict.Fed.{Fed}
use Rattle.lk_http.specs.declared.verdict.Fed.TheVariants.{Done, More, Refused}

-- the verdict on the bytes is what is answered there
pub read_verdict : (progress : RequestProgress) (bytes : List ℕ) (verdict : Fed) → HasReadRequest progress bytes → request_answer progress ≡ Some verdict → IsVerdict requests bytes verdict
read_verdict (Head taken) bytes verdict read is = let e : More ≡ verdict = cc in subst (IsVerdict requests bytes) e (awaited requests request_grammar bytes read.1)
read_verdict (Body behind n) bytes verdict read is = let e : More ≡ verdict = cc in subst (IsVerdict requests bytes) e (body_awaited requests request_grammar bytes read.0 n behind read.1 read.2)
read_verdict (Over settled) bytes verdict read is = let e : settled ≡ verdict = cc in subst (IsVerdict requests bytes) e (settled_now requests request_grammar bytes settled read)
read_verdict Broken bytes verdict read is = absurd cc

-- behind a head
pub read_body : (bytes : List ℕ) (h : RequestHead) (n : ℕ) (behind : List ℕ) → HasHead requests bytes h n behind → HasReadRequest (request_body n behind) bytes
read_body bytes h n behind has = go (nat_le n (length behind)) refl
  where
    go : (b : Bool) → nat_le n (length behind) ≡ b → HasReadRequest (if b then Over (Done (take n behind)) else Body behind n) bytes
    go true fits = body_settled requests request_grammar bytes h n behind has fits
    go false short = (h, has, grind (arith, nat_tests, short))

pub begun : (bytes taken other : List ℕ) (place : BodyPlace) (next : RequestProgress) → taken ≡ bytes → other ≡ bytes → (h : RequestHead) × HasBodyAt requests taken h place → next ≡ request_body place.len (drop place.start other) → HasReadRequest next bytes
begun bytes taken other place next same also found is =
    let here = subst (λ b. (h : RequestHead) × HasBodyAt requests b h place) same found in
    subst (λ p. HasReadRequest p bytes) (sym (is ∙ ap (λ b. request_body place.len (drop place.start b)) also)) (read_body bytes here.0 place.len (drop place.start bytes) here.1.head)

pub grown : (bytes piece behind : List ℕ) (n : ℕ) (progress next : RequestProgress) → progress ≡ Body behind n → next ≡ request_body n (behind ++ piece) → HasReadRequest progress bytes → HasReadRequest next (bytes ++ piece)
grown bytes piece behind n progress next was is read =
    let here : (h : RequestHead) × HasHead requests bytes h n behind × (length behind < n) = subst (λ p. HasReadRequest p bytes) was read in
    subst (λ p. HasReadRequest p (bytes ++ piece)) (sym is) (read_body (bytes ++ piece) here.0 n (behind ++ piece) (head_later requests request_grammar bytes piece here.0 n behind here.1))

-- before a head
pub nothing_read : AwaitsHead requests []
nothing_read = record {
  none = λ h rest reads. omega (arith, request_some h reads.0, ap length reads.1, length-append (print_request h) rest);
  may = (is_text 0 (omega arith)).may 0;
  short = omega arith;
}

-- what is found, where httparse has read the front of the bytes
module _ (bytes buf : List ℕ) (same : buf ≡ front bytes) where
  pub found_place : (spans : List HeaderSpan) (found : RequestSpans) (place : BodyPlace) (r : Result BodyPlace HttpRefusal) → IsRequestOf buf spans found → ((h : RequestHead) → IsRequestAt buf spans found h → r ≡ placed requests found.len h) → r ≡ Ok place → (h : RequestHead) × HasBodyAt requests bytes h place
  found_place spans found place r of placed_is is =
      (of.0, place_found requests request_grammar bytes of.0 (drop found.len buf) found.len place (subst (λ b. ReadsRequest b of.0 (drop found.len buf)) same of.1.reads) of.1.len (sym (placed_is of.0 of.1) ∙ is))

  pub found_refused : (spans : List HeaderSpan) (found : RequestSpans) (why : HttpRefusal) (r : Result BodyPlace HttpRefusal) → IsRequestOf buf spans found → ((h : RequestHead) → IsRequestAt buf spans found h → r ≡ placed requests found.len h) → r ≡ Err why → IsSettled requests bytes (Refused why)
  found_refused spans found why r of placed_is is =
      place_refused requests request_grammar bytes of.0 (drop found.len buf) found.len why (subst (λ b. ReadsRequest b of.0 (drop found.len buf)) same of.1.reads) (sym (placed_is of.0 of.1) ∙ is)

  pub found_none : (r : Result (Option BodyPlace) HttpRefusal) → HasNoRequest buf → MayBecomeRequest buf → r ≡ (if nat_lt (length bytes) head_limit then Ok None else Err HeadTooLarge) → FindsRequest bytes r
  found_none r none may is = subst (FindsRequest bytes) (sym is) (go (nat_lt (length bytes) head_limit) refl)
    where
      go : (b : Bool) → nat_lt (length bytes) head_limit ≡ b → FindsRequest bytes (if b then Ok None else Err HeadTooLarge)
      go true short = record { none = subst HasNoRequest same none; may = subst MayBecomeRequest same may; short = grind (arith, nat_tests, short) }
      go false long = large_found requests request_grammar bytes (subst HasNoRequest same none) (subst MayBecomeRequest same may) (grind (arith, nat_tests, long))

  pub found_never : (room : ℕ) (e : Error) → head_limit < 3 * room → (e ≢ TooManyHeaders → NeverHasRequest buf) → (◌≡◌ {A = Result (Status RequestSpans) Error} (Err e) (Err TooManyHeaders) → RequestExceeds room buf) → IsSettled requests bytes (Refused BadRequest)
  found_never room e large invalid exceeds =
      let few : length buf < 3 * room = omega (arith, large, ap length same, length-take head_limit bytes) in
      never_found requests request_grammar bytes (subst NeverHasRequest same (never_by e invalid (λ many. request_fits buf room few (exceeds many))))
