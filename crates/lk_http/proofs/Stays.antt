-- A verdict stays, whatever bytes follow.
use Rattle.std.proofs.Common.{◌≡◌, ◌≢◌, zero, suc, Bool, true, false, ◌≤◌, ◌-◌, ℕ, nat_le, List, [], ◌∷◌, ◌++◌, length, take, Result, Ok, Err, refl, sym, ap, ◌∙◌, subst, arith, append_assoc, length-append, if◌then◌else◌}
use Rattle.std.proofs.lemmas.Bool.Decides.{nat_tests}
use Rattle.std.proofs.lemmas.List.{drop-append-le, length-take, take-append-le}
use Rattle.lk_http.proofs.Grammars.{IsGrammar}
use Rattle.lk_http.specs.Limits.{head_limit}
use Rattle.lk_http.specs.Verdicts.{HasNoHead, IsVerdict, Kind, NeverHasHead, Stays, answered, front, head, large, many, more, never}

pub take_both : (n : ℕ) (xs ys : List ℕ) → take n (xs ++ ys) ≡ take n xs ++ take (n - length xs) ys
take_both zero [] ys = refl
take_both zero (x ∷ xs) ys = let e : 0 - suc (length xs) ≡ 0 = omega arith in sym (ap (λ k. take k ys) e)
take_both (suc n) [] ys = let e : suc n ≡ suc n - 0 = omega arith in ap (λ k. take k ys) e
take_both (suc n) (x ∷ xs) ys = let e : suc n - suc (length xs) ≡ n - length xs = omega arith in ap (λ l. x ∷ l) (take_both n xs ys) ∙ ap (λ k. x ∷ (take n xs ++ take k ys)) (sym e)

-- the front of longer bytes is longer, or the same
longer_front : (bytes later : List ℕ) → front (bytes ++ later) ≡ front bytes ++ take (head_limit - length bytes) later
longer_front bytes later = take_both head_limit bytes later

same_front : (bytes later : List ℕ) → head_limit ≤ length bytes → front (bytes ++ later) ≡ front bytes
same_front bytes later le = take-append-le head_limit bytes later le

module _ {Verdict Why : Type 0} (kind : Kind Verdict Why) (grammar : IsGrammar kind) where
  never_stays : (bytes later : List ℕ) → NeverHasHead kind (front bytes) → NeverHasHead kind (front (bytes ++ later))
  never_stays bytes later hopeless late h rest reads =
      hopeless (take (head_limit - length bytes) later ++ late) h rest (subst (λ b. kind.Reads b h rest) (ap (λ b. b ++ late) (longer_front bytes later) ∙ append_assoc (front bytes) _ late) reads)

  pub reads_later : (bytes later : List ℕ) (h : kind.Head) (rest : List ℕ) → kind.Reads (front bytes) h rest → kind.Reads (front (bytes ++ later)) h (rest ++ take (head_limit - length bytes) later)
  reads_later bytes later h rest reads = subst (λ b. kind.Reads b h (rest ++ take (head_limit - length bytes) later)) (sym (longer_front bytes later)) (grammar.append (front bytes) h rest (take (head_limit - length bytes) later) reads)

  -- a head is no longer than its bytes
  pub head_fits : (bytes : List ℕ) (h : kind.Head) (rest : List ℕ) → kind.Reads (front bytes) h rest → length (kind.text h) ≤ length bytes
  head_fits bytes h rest reads = omega (arith, ap length (grammar.text (front bytes) h rest reads), length-append (kind.text h) rest, length-take head_limit bytes)

  -- where the body is there, more bytes behind it change nothing
  answered_more : (h : kind.Head) (j : Result ℕ Why) (behind later : List ℕ) → answered kind h j behind ≢ kind.more → answered kind h j (behind ++ later) ≡ answered kind h j behind
  answered_more h (Err why) behind later last = refl
  answered_more h (Ok n) behind later last = go (nat_le n (length behind)) refl
    where
      go : (b : Bool) → nat_le n (length behind) ≡ b → answered kind h (Ok n) (behind ++ later) ≡ answered kind h (Ok n) behind
      go true is =
          let fits : n ≤ length behind = grind (arith, nat_tests) in
          let still : nat_le n (length (behind ++ later)) ≡ true = grind (arith, nat_tests, fits, length-append behind later) in
          ap (λ b. if b then kind.done h (take n (behind ++ later)) else kind.more) still ∙ ap (λ body. kind.done h body) (take-append-le n behind later fits)
          ∙ sym (ap (λ b. if b then kind.done h (take n behind) else kind.more) is)
      go false is = absurd (last (ap (λ b. if b then kind.done h (take n behind) else kind.more) is))

  pub stays : (bytes : List ℕ) (verdict : Verdict) → IsVerdict kind bytes verdict → verdict ≢ kind.more → Stays kind bytes verdict
  stays bytes verdict (head h rest reads few) last later =
      subst (λ v. IsVerdict kind (bytes ++ later) v)
      (ap (answered kind h (kind.judged h)) (drop-append-le (length (kind.text h)) bytes later (head_fits bytes h rest reads)) ∙ answered_more h (kind.judged h) _ later last)
      (head h _ (reads_later bytes later h rest reads) few)
  stays bytes verdict (many h rest reads over) last later = many h _ (reads_later bytes later h rest reads) over
  stays bytes verdict (never hopeless) last later = never (never_stays bytes later hopeless)
  stays bytes verdict (large none may le) last later = large (subst (HasNoHead kind) (sym (same_front bytes later le)) none) (subst kind.MayBecome (sym (same_front bytes later le)) may) (omega (arith, le, length-append bytes later))
  stays bytes verdict (more none may short) last later = absurd (last refl)
