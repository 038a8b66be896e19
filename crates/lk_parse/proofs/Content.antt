-- What stands between the quotes of a text literal.
use Rattle.std.proofs.Common.{◌≡◌, ℕ, ◌+◌, ◌<◌, ◌≤◌, true, List, [], ◌∷◌, ◌++◌, length, take, drop, get_or, Some, sym, ap, subst, ◌∙◌, append_assoc, arith}
use Rattle.std.proofs.Math.Seq.{take-append-add}
use Rattle.std.proofs.lemmas.Bool.Decides.{nat_tests}
use Rattle.std.proofs.lemmas.List.{append-nil, drop_more, take-append-drop, length-drop, length-take-le, drop-drop}
use Rattle.lk_parse.specs.Pieces.{IsContent, is_plain, escaped}
use Rattle.lk_parse.specs.Scanner.{Closes, MeansFirst}

pub quote_not_plain : (c : ℕ) → is_plain c ≡ true → c ≡ 34 → ⊥
quote_not_plain c h e = grind (arith, nat_tests)

pub backslash_not_plain : (c : ℕ) → is_plain c ≡ true → c ≡ 92 → ⊥
backslash_not_plain c h e = grind (arith, nat_tests)

pub escaped_small : (c d : ℕ) → escaped c ≡ Some d → (c < 128) × (d < 128)
escaped_small c d e = grind (arith, nat_tests)

-- ---- content that is closed, by its first byte

-- a byte that is no quote, and no backslash, is plain, and content follows
plain_parts : (c : ℕ) (bytes w m rest : List ℕ) → (c ≡ 34 → ⊥) → (c ≡ 92 → ⊥) → c ∷ bytes ≡ w ++ 34 ∷ rest → IsContent w m → (v n : List ℕ) × (is_plain c ≡ true) × (bytes ≡ v ++ 34 ∷ rest) × IsContent v n
plain_parts c bytes w m rest quote backslash e IsContent.nothing = absurd (quote cc)
plain_parts c bytes w m rest quote backslash e (IsContent.plain d {bytes = v} {meant = n} h k) = let same : d ≡ c = cc in (v, n, sym (ap is_plain same) ∙ h, cc, k)
plain_parts c bytes w m rest quote backslash e (IsContent.escape f d h k) = absurd (backslash cc)

-- behind a backslash stands the rest of an escape, and content follows
escape_parts : (bytes w m rest : List ℕ) → 92 ∷ bytes ≡ w ++ 34 ∷ rest → IsContent w m → (f d : ℕ) × (v n : List ℕ) × (bytes ≡ f ∷ (v ++ 34 ∷ rest)) × (escaped f ≡ Some d) × IsContent v n
escape_parts bytes w m rest e IsContent.nothing = let is : ◌≡◌ {A = ℕ} 92 34 = cc in absurd (omega (arith, is))
escape_parts bytes w m rest e (IsContent.plain c h k) = let is : c ≡ 92 = cc in absurd (backslash_not_plain c h is)
escape_parts bytes w m rest e (IsContent.escape f d {bytes = v} {meant = n} h k) = (f, d, v, n, cc, h, k)

-- ---- the first byte that is meant

pub escape_first : (bytes : List ℕ) (d : ℕ) → 2 ≤ length bytes → get_or bytes 0 0 ≡ 92 → escaped (get_or bytes 1 0) ≡ Some d → MeansFirst bytes d 2
escape_first [] d fits backslash means = absurd (omega arith)
escape_first (c ∷ []) d fits backslash means = absurd (omega arith)
escape_first (c ∷ f ∷ bytes) d fits backslash means = record {
  some = omega arith;
  fits = fits;
  puts = λ w m h. subst (λ (b : ℕ). IsContent (b ∷ f ∷ w) (d ∷ m)) (sym backslash) (IsContent.escape f d means h);
  takes = λ w m rest e h.
      let parts = escape_parts (f ∷ bytes) w m rest (ap (λ (b : ℕ). b ∷ f ∷ bytes) (sym backslash) ∙ e) h in
      let behind : bytes ≡ parts.2 ++ 34 ∷ rest = let is = parts.4 in cc in
      (parts.2, parts.3, behind, parts.6);
}

pub plain_first : (bytes : List ℕ) → 1 ≤ length bytes → is_plain (get_or bytes 0 0) ≡ true → MeansFirst bytes (get_or bytes 0 0) 1
plain_first [] fits plain = absurd (omega arith)
plain_first (c ∷ bytes) fits plain = record {
  some = omega arith;
  fits = fits;
  puts = λ w m h. IsContent.plain c plain h;
  takes = λ w m rest e h. let parts = plain_parts c bytes w m rest (quote_not_plain c plain) (backslash_not_plain c plain) e h in (parts.0, parts.1, parts.3, parts.4);
}

-- ---- content read byte by byte

-- what is left can be put behind what was read, and content that is closed is closed in what is left
pub record SoFar (bytes meant : List ℕ) (len : ℕ) : Type 0 where
  pub fits : len ≤ length bytes
  pub puts : (w m : List ℕ) → IsContent w m → IsContent (take len bytes ++ w) (meant ++ m)
  pub takes : (w m rest : List ℕ) → bytes ≡ w ++ 34 ∷ rest → IsContent w m → (v n : List ℕ) × (drop len bytes ≡ v ++ 34 ∷ rest) × IsContent v n

take-drop : (bytes : List ℕ) (i n : ℕ) → i ≤ length bytes → take (i + n) bytes ≡ take i bytes ++ take n (drop i bytes)
take-drop bytes i n fits =
    sym (ap (take (i + n)) (take-append-drop i bytes))
    ∙ ap (λ (k : ℕ). take (k + n) (take i bytes ++ drop i bytes)) (sym (length-take-le i bytes fits))
    ∙ take-append-add (take i bytes) (drop i bytes) n

pub so_far_more : (bytes meant new left : List ℕ) (len d more : ℕ) → SoFar bytes meant len → left ≡ drop len bytes → MeansFirst left d more → new ≡ meant ++ d ∷ [] → SoFar bytes new (len + more)
so_far_more bytes meant new left len d more so is first e =
    let f = subst (λ (v : List ℕ). MeansFirst v d more) is first in
    rw e (record {
      fits = let fits = f.fits in let within = so.fits in omega (arith, length-drop len bytes);
      puts = λ w m h.
          let front : take (len + more) bytes ++ w ≡ take len bytes ++ (take more (drop len bytes) ++ w) = ap (λ (v : List ℕ). v ++ w) (take-drop bytes len more so.fits) ∙ append_assoc (take len bytes) (take more (drop len bytes)) w in
          let back : (meant ++ d ∷ []) ++ m ≡ meant ++ d ∷ m = append_assoc meant (d ∷ []) m in
          subst (λ (v : List ℕ). IsContent v ((meant ++ d ∷ []) ++ m)) (sym front) (subst (λ (v : List ℕ). IsContent (take len bytes ++ (take more (drop len bytes) ++ w)) v) (sym back) (so.puts (take more (drop len bytes) ++ w) (d ∷ m) (f.puts w m h)));
      takes = λ w m rest g h.
          let old = so.takes w m rest g h in
          let new_parts = f.takes old.0 old.1 rest old.2 old.3 in
          (new_parts.0, new_parts.1, sym (drop-drop more len bytes) ∙ new_parts.2, new_parts.3);
    })

pub closes_here : (bytes meant : List ℕ) (len : ℕ) → SoFar bytes meant len → len < length bytes → get_or bytes len 0 ≡ 34 → Closes bytes len meant
closes_here bytes meant len so inside quote = record {
  fits = inside;
  content = subst (λ (v : List ℕ). IsContent (take len bytes) v) (append-nil meant) (subst (λ (v : List ℕ). IsContent v (meant ++ [])) (append-nil (take len bytes)) (so.puts [] [] IsContent.nothing));
  quote = sym (take-append-drop len bytes) ∙ ap (λ (v : List ℕ). take len bytes ++ v) (drop_more bytes len 0 inside ∙ ap (λ (c : ℕ). c ∷ drop (len + 1) bytes) quote);
}
