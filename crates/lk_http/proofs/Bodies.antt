-- Bodies behind heads, and what bytes come to that no head begins.
use Rattle.std.proofs.Common.{◌≡◌, Bool, true, false, ◌<◌, ◌≤◌, ℕ, nat_le, List, [], ◌++◌, length, take, drop, Result, Ok, Err, refl, sym, ap, ◌∙◌, subst, arith, append-nil, if◌then◌else◌}
use Rattle.std.proofs.lemmas.Bool.Decides.{nat_tests}
use Rattle.std.proofs.lemmas.List.{drop-append-le}
use Rattle.lk_http.proofs.Grammars.{IsGrammar}
use Rattle.lk_http.proofs.Stays.{head_fits, reads_later, stays}
use Rattle.lk_http.specs.Limits.{field_limit, head_limit}
use Rattle.lk_http.specs.Reading.{AwaitsHead, HasBodyAt, HasHead, IsSettled, located, placed}
use Rattle.lk_http.specs.Verdicts.{HasNoHead, IsVerdict, Kind, NeverHasHead, answered, front, head, large, many, more, never}
use Rattle.lk_http.specs.declared.place.BodyPlace.{BodyPlace}

module _ {Verdict Why : Type 0} (kind : Kind Verdict Why) (grammar : IsGrammar kind) where
  -- ---- verdicts that are settled

  pub settled_now : (bytes : List ℕ) (verdict : Verdict) → IsSettled kind bytes verdict → IsVerdict kind bytes verdict
  settled_now bytes verdict settled = subst (λ b. IsVerdict kind b verdict) (append-nil bytes) (settled.stays [])

  refused : (bytes : List ℕ) (why : Why) → IsVerdict kind bytes (kind.refused why) → IsSettled kind bytes (kind.refused why)
  refused bytes why is = record { stays = stays kind grammar bytes (kind.refused why) is (grammar.refused_last why); last = grammar.refused_last why }

  -- ---- no head

  pub awaited : (bytes : List ℕ) → AwaitsHead kind bytes → IsVerdict kind bytes kind.more
  awaited bytes a = more a.none a.may a.short

  pub never_found : (bytes : List ℕ) → NeverHasHead kind (front bytes) → IsSettled kind bytes (kind.refused kind.bad)
  never_found bytes hopeless = refused bytes kind.bad (never hopeless)

  pub large_found : (bytes : List ℕ) → HasNoHead kind (front bytes) → kind.MayBecome (front bytes) → head_limit ≤ length bytes → IsSettled kind bytes (kind.refused kind.too_large)
  large_found bytes none may le = refused bytes kind.too_large (large none may le)

  -- ---- a head

  abbrev answer : kind.Head → ℕ → List ℕ → Bool → Verdict
  answer h n behind b = if b then kind.done h (take n behind) else kind.more

  -- what is told of bytes that a head begins
  told : (bytes : List ℕ) (h : kind.Head) (n : ℕ) (behind : List ℕ) → HasHead kind bytes h n behind → IsVerdict kind bytes (answered kind h (Ok n) behind)
  told bytes h n behind has =
      subst (λ j. IsVerdict kind bytes (answered kind h j behind)) has.announces
      (subst (λ b. IsVerdict kind bytes (answered kind h (kind.judged h) b)) (sym has.follows) (head h has.rest has.reads has.few))

  pub body_settled : (bytes : List ℕ) (h : kind.Head) (n : ℕ) (behind : List ℕ) → HasHead kind bytes h n behind → nat_le n (length behind) ≡ true → IsSettled kind bytes (kind.done h (take n behind))
  body_settled bytes h n behind has fits = record {
    stays = stays kind grammar bytes _ (subst (IsVerdict kind bytes) (ap (answer h n behind) fits) (told bytes h n behind has)) (grammar.done_last h (take n behind));
    last = grammar.done_last h (take n behind);
  }

  pub body_awaited : (bytes : List ℕ) (h : kind.Head) (n : ℕ) (behind : List ℕ) → HasHead kind bytes h n behind → length behind < n → IsVerdict kind bytes kind.more
  body_awaited bytes h n behind has short =
      let missing : nat_le n (length behind) ≡ false = grind (arith, nat_tests) in
      subst (IsVerdict kind bytes) (ap (answer h n behind) missing) (told bytes h n behind has)

  pub head_later : (bytes piece : List ℕ) (h : kind.Head) (n : ℕ) (behind : List ℕ) → HasHead kind bytes h n behind → HasHead kind (bytes ++ piece) h n (behind ++ piece)
  head_later bytes piece h n behind has = record {
    rest = _;
    reads = reads_later kind grammar bytes piece h has.rest has.reads;
    few = has.few;
    announces = has.announces;
    follows = ap (λ b. b ++ piece) has.follows ∙ sym (drop-append-le (length (kind.text h)) bytes piece (head_fits kind grammar bytes h has.rest has.reads));
  }

  -- ---- where a body stands

  pub place_fits : (bytes : List ℕ) (h : kind.Head) (place : BodyPlace) → HasBodyAt kind bytes h place → place.start ≤ length bytes
  place_fits bytes h place has = omega (arith, has.start, head_fits kind grammar bytes h has.head.rest has.head.reads)

  abbrev by_judgement : Bool → Result ℕ Why → ℕ → Result BodyPlace Why
  by_judgement b j start = if b then located start j else Err kind.too_large

  pub place_found : (bytes : List ℕ) (h : kind.Head) (rest : List ℕ) (start : ℕ) (place : BodyPlace) → kind.Reads (front bytes) h rest → start ≡ length (kind.text h) → placed kind start h ≡ Ok place → HasBodyAt kind bytes h place
  place_found bytes h rest start place reads at is = go (nat_le (length (kind.fields h)) field_limit) refl (kind.judged h) refl is
    where
      go : (b : Bool) → nat_le (length (kind.fields h)) field_limit ≡ b → (j : Result ℕ Why) → kind.judged h ≡ j → by_judgement b j start ≡ Ok place → HasBodyAt kind bytes h place
      go true few (Ok n) judged e =
          let same : record { start = start; len = n } ≡ place = cc in
          subst (HasBodyAt kind bytes h) same (record {
            start = at;
            head = record { rest = rest; reads = reads; few = grind (arith, nat_tests, few); announces = judged; follows = ap (λ k. drop k bytes) at };
          })
      go true few (Err why) judged e = absurd cc
      go false few j judged e = absurd cc

  pub place_refused : (bytes : List ℕ) (h : kind.Head) (rest : List ℕ) (start : ℕ) (why : Why) → kind.Reads (front bytes) h rest → placed kind start h ≡ Err why → IsSettled kind bytes (kind.refused why)
  place_refused bytes h rest start why reads is = go (nat_le (length (kind.fields h)) field_limit) refl (kind.judged h) refl is
    where
      go : (b : Bool) → nat_le (length (kind.fields h)) field_limit ≡ b → (j : Result ℕ Why) → kind.judged h ≡ j → by_judgement b j start ≡ Err why → IsSettled kind bytes (kind.refused why)
      go true few (Ok n) judged e = absurd cc
      go true few (Err reason) judged e =
          let same : reason ≡ why = cc in
          subst (λ w. IsSettled kind bytes (kind.refused w)) same
          (refused bytes reason (subst (λ j. IsVerdict kind bytes (answered kind h j (drop (length (kind.text h)) bytes))) judged (head h rest reads (grind (arith, nat_tests, few)))))
      go false over j judged e =
          let same : kind.too_large ≡ why = cc in
          subst (λ w. IsSettled kind bytes (kind.refused w)) same (refused bytes kind.too_large (many h rest reads (grind (arith, nat_tests, over))))
