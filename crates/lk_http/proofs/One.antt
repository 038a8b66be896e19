-- Two verdicts on the same bytes are one.
use Rattle.std.proofs.Common.{◌≡◌, ◌⊎◌, inl, inr, ℕ, ◌<◌, ◌≤◌, List, [], ◌++◌, length, drop, refl, ap, arith}
use Rattle.lk_http.proofs.Grammars.{IsGrammar}
use Rattle.lk_http.specs.Limits.{field_limit}
use Rattle.lk_http.specs.Verdicts.{IsVerdict, Kind, NeverHasHead, answered, front, head, large, many, more, never}

-- `Odd` is what has two: what may become a head, though it is hopeless
module _ {Verdict Why : Type 0} (kind : Kind Verdict Why) (grammar : IsGrammar kind) (Odd : List ℕ → Type 0)
    (odd : (bytes : List ℕ) → kind.MayBecome bytes → NeverHasHead kind bytes → Odd bytes) where
  pub hopeful : (bytes : List ℕ) (h : kind.Head) (rest : List ℕ) → kind.Reads bytes h rest → NeverHasHead kind bytes → ⊥
  hopeful bytes h rest reads hopeless = hopeless [] h (rest ++ []) (grammar.append bytes h rest [] reads)

  crowded : (bytes : List ℕ) (h k : kind.Head) (rest other : List ℕ) → kind.Reads bytes h rest → kind.Reads bytes k other → length (kind.fields h) ≤ field_limit → field_limit < length (kind.fields k) → ⊥
  crowded bytes h k rest other reads found few over = omega (arith, few, over, ap (λ head. length (kind.fields head)) (grammar.unique bytes h k rest other reads found).0)

  pub one : (bytes : List ℕ) (verdict other : Verdict) → IsVerdict kind bytes verdict → IsVerdict kind bytes other → (verdict ≡ other) ⊎ Odd (front bytes)
  one bytes _ _ (head h rest reads few) (head k rest' found few') = inl (ap (λ head. answered kind head (kind.judged head) (drop (length (kind.text head)) bytes)) (grammar.unique (front bytes) h k rest rest' reads found).0)
  one bytes _ _ (head h rest reads few) (many k rest' found over) = absurd (crowded (front bytes) h k rest rest' reads found few over)
  one bytes _ _ (head h rest reads few) (never hopeless) = absurd (hopeful (front bytes) h rest reads hopeless)
  one bytes _ _ (head h rest reads few) (large none may le) = absurd (none h rest reads)
  one bytes _ _ (head h rest reads few) (more none may short) = absurd (none h rest reads)
  one bytes _ _ (many k rest found over) (head h rest' reads few) = absurd (crowded (front bytes) h k rest' rest reads found few over)
  one bytes _ _ (many k rest found over) (many h rest' reads over') = inl refl
  one bytes _ _ (many k rest found over) (never hopeless) = absurd (hopeful (front bytes) k rest found hopeless)
  one bytes _ _ (many k rest found over) (large none may le) = absurd (none k rest found)
  one bytes _ _ (many k rest found over) (more none may short) = absurd (none k rest found)
  one bytes _ _ (never hopeless) (head h rest reads few) = absurd (hopeful (front bytes) h rest reads hopeless)
  one bytes _ _ (never hopeless) (many k rest found over) = absurd (hopeful (front bytes) k rest found hopeless)
  one bytes _ _ (never hopeless) (never hopeless') = inl refl
  one bytes _ _ (never hopeless) (large none may le) = inr (odd (front bytes) may hopeless)
  one bytes _ _ (never hopeless) (more none may short) = inr (odd (front bytes) may hopeless)
  one bytes _ _ (large none may le) (head h rest reads few) = absurd (none h rest reads)
  one bytes _ _ (large none may le) (many k rest found over) = absurd (none k rest found)
  one bytes _ _ (large none may le) (never hopeless) = inr (odd (front bytes) may hopeless)
  one bytes _ _ (large none may le) (large none' may' le') = inl refl
  one bytes _ _ (large none may le) (more none' may' short) = absurd (omega (arith, le, short))
  one bytes _ _ (more none may short) (head h rest reads few) = absurd (none h rest reads)
  one bytes _ _ (more none may short) (many k rest found over) = absurd (none k rest found)
  one bytes _ _ (more none may short) (never hopeless) = inr (odd (front bytes) may hopeless)
  one bytes _ _ (more none may short) (large none' may' le) = absurd (omega (arith, le, short))
  one bytes _ _ (more none may short) (more none' may' short') = inl refl
