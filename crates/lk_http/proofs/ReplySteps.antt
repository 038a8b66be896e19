-- What readers of replies have read.
use Rattle.std.proofs.Common.{◌≡◌, ◌≢◌, Bool, true, false, ◌<◌, ◌*◌, ℕ, nat_le, nat_lt, List, [], ◌++◌, length, take, drop, Option, Some, None, Result, Ok, Err, refl, sym, ap, ◌∙◌, subst, arith, length-append, if◌then◌else◌}
use Rattle.std.proofs.lemmas.Bool.Decides.{nat_tests}
use Rattle.std.proofs.lemmas.List.{length-take}
use Rattle.httparse.specs.Grammar.{HasNoResponse, MayBecomeResponse, NeverHasResponse, ReadsResponse, ResponseHead, print_response, status_code}
use Rattle.httparse.specs.Spans.{IsResponseAt, IsResponseOf, ResponseExceeds}
use Rattle.httparse.specs.declared.Error.{Error}
use Rattle.httparse.specs.declared.Error.TheVariants.{TooManyHeaders}
use Rattle.httparse.specs.declared.Status.{Status}
use Rattle.httparse.specs.declared.spans.HeaderSpan.{HeaderSpan}
use Rattle.httparse.specs.declared.spans.ResponseSpans.{ResponseSpans}
use Rattle.lk_http.proofs.Bodies.{awaited, body_awaited, body_settled, head_later, large_found, never_found, place_found, place_refused, settled_now}
use Rattle.lk_http.proofs.Grammars.{reply_grammar}
use Rattle.lk_http.proofs.ReplyTexts.{is_text, status_is}
use Rattle.lk_http.proofs.Room.{never_by, reply_fits, reply_some}
use Rattle.lk_http.specs.Limits.{head_limit}
use Rattle.lk_http.specs.Reading.{AwaitsHead, FindsReply, HasBodyAt, HasHead, HasReadReply, IsSettled, ended, placed, reply_answer, reply_body}
use Rattle.lk_http.specs.Replies.{replies}
use Rattle.lk_http.specs.Verdicts.{IsVerdict, front}
use Rattle.lk_http.specs.declared.place.BodyPlace.{BodyPlace}
use Rattle.lk_http.specs.declared.progress.ReplyProgress.{ReplyProgress}
use Rattle.lk_http.specs.declared.progress.ReplyProgress.TheVariants.{Body, Broken, Head, Over}
use Rattle.lk_http.specs.declared.verdict.ReplyKind.{ReplyKind}
use Rattle.lk_http.specs.declared.verdict.ReplyKind.TheVariants as kinds
use Rattle.lk_http.specs.declared.verdict.ReplyFed.{ReplyFed}
use Rattle.lk_http.specs.declared.verdict.ReplyFed.TheVariants.{Done, More, Bad}

-- the verdict on the bytes is what is answered there
pub read_verdict : (progress : ReplyProgress) (bytes : List ℕ) (verdict : ReplyFed) → HasReadReply progress bytes → reply_answer progress ≡ Some verdict → IsVerdict replies bytes verdict
read_verdict (Head taken) bytes verdict read is = let e : More ≡ verdict = cc in subst (IsVerdict replies bytes) e (awaited replies reply_grammar bytes read.1)
read_verdict (Body status behind n) bytes verdict read is = let e : More ≡ verdict = cc in subst (IsVerdict replies bytes) e (body_awaited replies reply_grammar bytes read.0 n behind read.1 read.2)
read_verdict (Over settled) bytes verdict read is = let e : settled ≡ verdict = cc in subst (IsVerdict replies bytes) e (settled_now replies reply_grammar bytes settled read)
read_verdict Broken bytes verdict read is = absurd cc

-- behind a head
pub read_body : (bytes : List ℕ) (h : ResponseHead) (status n : ℕ) (behind : List ℕ) → status ≡ status_code h → HasHead replies bytes h n behind → HasReadReply (reply_body status n behind) bytes
read_body bytes h status n behind is has = go (nat_le n (length behind)) refl
  where
    go : (b : Bool) → nat_le n (length behind) ≡ b → HasReadReply (if b then Over (Done status (take n behind)) else Body status behind n) bytes
    go true fits = subst (λ s. IsSettled replies bytes (Done s (take n behind))) (sym is) (body_settled replies reply_grammar bytes h n behind has fits)
    go false short = (h, has, grind (arith, nat_tests, short), is)

pub begun : (bytes taken other : List ℕ) (status : ℕ) (place : BodyPlace) (next : ReplyProgress) → taken ≡ bytes → other ≡ bytes → (h : ResponseHead) × HasBodyAt replies taken h place × (status ≡ status_code h) → next ≡ reply_body status place.len (drop place.start other) → HasReadReply next bytes
begun bytes taken other status place next same also found is =
    let here : (h : ResponseHead) × HasBodyAt replies bytes h place × (status ≡ status_code h) = subst (λ b. (h : ResponseHead) × HasBodyAt replies b h place × (status ≡ status_code h)) same found in
    subst (λ p. HasReadReply p bytes) (sym (is ∙ ap (λ b. reply_body status place.len (drop place.start b)) also)) (read_body bytes here.0 status place.len (drop place.start bytes) here.2 here.1.head)

pub grown : (bytes piece behind : List ℕ) (status n : ℕ) (progress next : ReplyProgress) → progress ≡ Body status behind n → next ≡ reply_body status n (behind ++ piece) → HasReadReply progress bytes → HasReadReply next (bytes ++ piece)
grown bytes piece behind status n progress next was is read =
    let here : (h : ResponseHead) × HasHead replies bytes h n behind × (length behind < n) × (status ≡ status_code h) = subst (λ p. HasReadReply p bytes) was read in
    subst (λ p. HasReadReply p (bytes ++ piece)) (sym is) (read_body (bytes ++ piece) here.0 status n (behind ++ piece) here.3 (head_later replies reply_grammar bytes piece here.0 n behind here.1))

-- before a head
pub nothing_read : AwaitsHead replies []
nothing_read = record {
  none = λ h rest reads. omega (arith, reply_some h reads.0, ap length reads.1, length-append (print_response h) rest);
  may = (is_text 200 (status_is 200 refl) 0 (omega arith)).may 0;
  short = omega arith;
}

-- what is found, where httparse has read the front of the bytes
module _ (bytes buf : List ℕ) (same : buf ≡ front bytes) where
  pub found_place : (spans : List HeaderSpan) (found : ResponseSpans) (place : BodyPlace) (r : Result BodyPlace ReplyKind) → IsResponseOf buf spans found → ((h : ResponseHead) → IsResponseAt buf spans found h → r ≡ placed replies found.len h) → r ≡ Ok place → (h : ResponseHead) × HasBodyAt replies bytes h place × (found.code ≡ status_code h)
  found_place spans found place r of placed_is is =
      (of.0, place_found replies reply_grammar bytes of.0 (drop found.len buf) found.len place (subst (λ b. ReadsResponse b of.0 (drop found.len buf)) same of.1.reads) of.1.len (sym (placed_is of.0 of.1) ∙ is), of.1.code)

  pub found_refused : (spans : List HeaderSpan) (found : ResponseSpans) (why : ReplyKind) (r : Result BodyPlace ReplyKind) → IsResponseOf buf spans found → ((h : ResponseHead) → IsResponseAt buf spans found h → r ≡ placed replies found.len h) → r ≡ Err why → IsSettled replies bytes (Bad why)
  found_refused spans found why r of placed_is is =
      place_refused replies reply_grammar bytes of.0 (drop found.len buf) found.len why (subst (λ b. ReadsResponse b of.0 (drop found.len buf)) same of.1.reads) (sym (placed_is of.0 of.1) ∙ is)

  pub found_none : (r : Result (Option (ℕ × BodyPlace)) ReplyKind) → HasNoResponse buf → MayBecomeResponse buf → r ≡ (if nat_lt (length bytes) head_limit then Ok None else Err kinds.Head) → FindsReply bytes r
  found_none r none may is = subst (FindsReply bytes) (sym is) (go (nat_lt (length bytes) head_limit) refl)
    where
      go : (b : Bool) → nat_lt (length bytes) head_limit ≡ b → FindsReply bytes (if b then Ok None else Err kinds.Head)
      go true short = record { none = subst HasNoResponse same none; may = subst MayBecomeResponse same may; short = grind (arith, nat_tests, short) }
      go false long = large_found replies reply_grammar bytes (subst HasNoResponse same none) (subst MayBecomeResponse same may) (grind (arith, nat_tests, long))

  pub found_never : (room : ℕ) (e : Error) → head_limit < 3 * room → (e ≢ TooManyHeaders → NeverHasResponse buf) → (◌≡◌ {A = Result (Status ResponseSpans) Error} (Err e) (Err TooManyHeaders) → ResponseExceeds room buf) → IsSettled replies bytes (Bad kinds.Head)
  found_never room e large invalid exceeds =
      let few : length buf < 3 * room = omega (arith, large, ap length same, length-take head_limit bytes) in
      never_found replies reply_grammar bytes (subst NeverHasResponse same (never_by e invalid (λ many. reply_fits buf room few (exceeds many))))

-- where no more bytes come
pub ended_verdict : (progress : ReplyProgress) (bytes : List ℕ) (verdict last : ReplyFed) → HasReadReply progress bytes → reply_answer progress ≡ Some verdict → last ≡ ended verdict → (v : ReplyFed) × IsVerdict replies bytes v × (last ≡ ended v)
ended_verdict progress bytes verdict last read is end = (verdict, read_verdict progress bytes verdict read is, end)
