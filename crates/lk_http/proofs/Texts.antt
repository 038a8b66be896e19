-- What is told of a text that is a head with a body behind it, and of its first parts.
use Rattle.std.proofs.Common.{◌≡◌, Bool, true, false, ◌<◌, ◌≤◌, ◌-◌, ℕ, nat_le, nat_lt, List, [], ◌++◌, length, take, drop, Ok, refl, sym, ap, ◌∙◌, subst, arith, length-append, length-drop, ⊎_elim, if◌then◌else◌}
use Rattle.std.proofs.Math.Seq.{drop-append_seam, take-length}
use Rattle.std.proofs.lemmas.Bool.Decides.{nat_tests}
use Rattle.std.proofs.lemmas.List.{length-take, take-append-drop, take-append-le, take_all}
use Rattle.lk_http.proofs.Grammars.{IsGrammar}
use Rattle.lk_http.proofs.One.{hopeful, one}
use Rattle.lk_http.proofs.Stays.{take_both}
use Rattle.lk_http.specs.Law.{IsOnlyVerdict}
use Rattle.lk_http.specs.Limits.{field_limit, head_limit}
use Rattle.lk_http.specs.Verdicts.{HasNoHead, IsVerdict, Kind, NeverHasHead, answered, front, head, more}

-- the text is that of a head, with few fields and not too long, and each first part of it may become a head
pub record IsHeadText {Verdict Why : Type 0} (kind : Kind Verdict Why) (text : List ℕ) (h : kind.Head) : Type 0 where
  pub reads : kind.Reads text h []
  pub is : kind.text h ≡ text
  pub few : length (kind.fields h) ≤ field_limit
  pub short : length text ≤ head_limit
  pub may : (k : ℕ) → kind.MayBecome (take k text)

module _ {Verdict Why : Type 0} (kind : Kind Verdict Why) (grammar : IsGrammar kind) (Odd : List ℕ → Type 0)
    (odd : (bytes : List ℕ) → kind.MayBecome bytes → NeverHasHead kind bytes → Odd bytes) (never_odd : (bytes : List ℕ) → Odd bytes → NeverHasHead kind bytes) where
  -- a verdict on bytes that aren't hopeless is the only one
  only : (bytes : List ℕ) (verdict : Verdict) → IsVerdict kind bytes verdict → (NeverHasHead kind (front bytes) → ⊥) → IsOnlyVerdict kind bytes verdict
  only bytes verdict is hope = record {
    is = is;
    only = λ other also. ⊎_elim (λ same. same) (λ strange. absurd (hope (never_odd (front bytes) strange))) (one kind grammar Odd odd bytes other verdict also is);
  }

  -- what is told behind the whole head
  pub begun : (text : List ℕ) (h : kind.Head) (n : ℕ) (behind : List ℕ) → IsHeadText kind text h → kind.judged h ≡ Ok n → IsOnlyVerdict kind (text ++ behind) (answered kind h (Ok n) behind)
  begun text h n behind at judged =
      let in_front : front (text ++ behind) ≡ text ++ take (head_limit - length text) behind = take_both head_limit text behind ∙ ap (λ t. t ++ take (head_limit - length text) behind) (take_all head_limit text at.short) in
      let reads : kind.Reads (front (text ++ behind)) h (take (head_limit - length text) behind) = subst (λ b. kind.Reads b h (take (head_limit - length text) behind)) (sym in_front) (grammar.append text h [] (take (head_limit - length text) behind) at.reads) in
      let rest : drop (length (kind.text h)) (text ++ behind) ≡ behind = ap (λ t. drop (length t) (text ++ behind)) at.is ∙ drop-append_seam text behind in
      let verdict = subst (λ j. IsVerdict kind (text ++ behind) (answered kind h j behind)) judged (subst (λ b. IsVerdict kind (text ++ behind) (answered kind h (kind.judged h) b)) rest (head h _ reads at.few)) in
      only (text ++ behind) _ verdict (hopeful kind grammar Odd odd (front (text ++ behind)) h _ reads)

  -- what is told before it
  before : (text : List ℕ) (h : kind.Head) (k : ℕ) → IsHeadText kind text h → k < length text → IsOnlyVerdict kind (take k text) kind.more
  before text h k at early =
      let whole = take-append-drop k text in
      let short : length (take k text) < head_limit = omega (arith, early, at.short, length-take k text) in
      let same : front (take k text) ≡ take k text = take_all head_limit (take k text) (omega (arith, short)) in
      let none : HasNoHead kind (take k text) = λ g rest reads.
      let ends = (grammar.unique text g h (rest ++ drop k text) [] (subst (λ b. kind.Reads b g (rest ++ drop k text)) whole (grammar.append (take k text) g rest (drop k text) reads)) at.reads).1 in
      omega (arith, early, ap length ends, length-append rest (drop k text), length-drop k text) in
      let hope : NeverHasHead kind (take k text) → ⊥ = λ never. never (drop k text) h [] (subst (λ b. kind.Reads b h []) (sym whole) at.reads) in
      only (take k text) kind.more (more (subst (HasNoHead kind) (sym same) none) (subst kind.MayBecome (sym same) (at.may k)) short) (λ never. hope (subst (NeverHasHead kind) same never))

  -- the whole text
  pub whole : (text : List ℕ) (h : kind.Head) (body : List ℕ) → IsHeadText kind text h → kind.judged h ≡ Ok (length body) → IsOnlyVerdict kind (text ++ body) (kind.done h body)
  whole text h body at judged =
      let all : nat_le (length body) (length body) ≡ true = grind (arith, nat_tests) in
      let done : answered kind h (Ok (length body)) body ≡ kind.done h body = ap (λ b. if b then kind.done h (take (length body) body) else kind.more) all ∙ ap (λ b. kind.done h b) (take-length body) in
      subst (IsOnlyVerdict kind (text ++ body)) done (begun text h (length body) body at judged)

  -- and less of it
  pub cut : (text : List ℕ) (h : kind.Head) (body : List ℕ) → IsHeadText kind text h → kind.judged h ≡ Ok (length body) → (k : ℕ) → k < length (text ++ body) → IsOnlyVerdict kind (take k (text ++ body)) kind.more
  cut text h body at judged k less = go (nat_lt k (length text)) refl
    where
      go : (b : Bool) → nat_lt k (length text) ≡ b → IsOnlyVerdict kind (take k (text ++ body)) kind.more
      go true early =
          let inside : k < length text = grind (arith, nat_tests) in
          subst (λ b. IsOnlyVerdict kind b kind.more) (sym (take-append-le k text body (omega (arith, inside)))) (before text h k at inside)
      go false late =
          let past : length text ≤ k = grind (arith, nat_tests) in
          let parts : take k (text ++ body) ≡ text ++ take (k - length text) body = take_both k text body ∙ ap (λ t. t ++ take (k - length text) body) (take_all k text past) in
          let few : length (take (k - length text) body) < length body = omega (arith, less, past, length-take (k - length text) body, length-append text body) in
          let missing : nat_le (length body) (length (take (k - length text) body)) ≡ false = grind (arith, nat_tests) in
          subst (λ b. IsOnlyVerdict kind b kind.more) (sym parts)
          (subst (IsOnlyVerdict kind (text ++ take (k - length text) body)) (ap (λ b. if b then kind.done h (take (length body) (take (k - length text) body)) else kind.more) missing) (begun text h (length body) _ at judged))
