-- How far a lexeme can go follows from its first byte.
use Rattle.std.proofs.Common.{◌≡◌, ℕ, ◌+◌, ◌≤◌, Bool, true, false, cond, List, [], ◌∷◌, ◌++◌, length, take, drop, Option, refl, sym, ap, subst, ◌∙◌, one-add, inl, inr, arith}
use Rattle.std.specs.Prelude.{Contains}
use Rattle.std.specs.Char.{is_ascii_digit}
use Rattle.std.specs.List.{AllPass, prefix_len}
use Rattle.std.proofs.lemmas.List.{take-append-drop}
use Rattle.std.proofs.lemmas.List.Elements.{All-nil, All-cons, All-head, All-tail}
use Rattle.std.proofs.lemmas.List.Folds.{length-prefix_len}
use Rattle.lk_ast.specs.declared.token.TokenKind.{TokenKind}
use Rattle.lk_parse.specs.Pieces.{is_no_feed, is_word_byte, IsContent, IsPiece, signs}
use Rattle.lk_parse.specs.Scanner.{start_of}
use Rattle.lk_parse.specs.Tokens.{IsLexeme, IsTaken}
use Rattle.lk_parse.specs.declared.start.Start.{Start}
use Rattle.lk_parse.specs.declared.start.Start.TheVariants.{White, Comment, Word, Tag, Int, Text, Sign}
use Rattle.lk_parse.proofs.Digits.{integer_digits}
use Rattle.lk_parse.proofs.Shapes.{Shape, shape_of, digit_starts}

-- what is the lexeme c ∷ w, by what c starts
abbrev pub Extent : Start → ℕ → List ℕ → Type 0
Extent White c w = w ≡ []
Extent Comment c w = AllPass is_no_feed (c ∷ w)
Extent Word c w = AllPass is_word_byte (c ∷ w)
Extent Tag c w = AllPass is_word_byte (c ∷ w)
Extent Int c w = AllPass is_ascii_digit (c ∷ w)
Extent Text c w = (content meant : List ℕ) × (w ≡ content ++ 34 ∷ []) × IsContent content meant
Extent Sign c w = Contains signs (c ∷ w)

extent : (start : Start) (c : ℕ) (w : List ℕ) (x : Option TokenKind) → Shape start c w x → Extent start c w
extent White c w x h = h.1
extent Comment c w x h = h.1
extent Word c w x h = h.1
extent Tag c w x h = h.1
extent Int c w x h = integer_digits (c ∷ w) h.0 h.2
extent Text c w x h = (h.0, h.1, h.3, h.4)
extent Sign c w x h = h.1

pub extent_of : (c : ℕ) (w : List ℕ) → IsLexeme (c ∷ w) → Extent (start_of c) c w
extent_of c w (inl (x, piece)) = extent (start_of c) c w x (shape_of c w x piece)
extent_of c w (inr digits) = subst (λ (s : Start). Extent s c w) (sym (digit_starts c (All-head (λ d. is_ascii_digit d ≡ true) c w digits))) digits

pub extent_at : (start : Start) (c : ℕ) (w : List ℕ) → start_of c ≡ start → IsLexeme (c ∷ w) → Extent start c w
extent_at start c w e h = subst (λ (s : Start). Extent s c w) e (extent_of c w h)

-- ---- runs of bytes that pass a test
module _ (p : ℕ → Bool) where
  -- no front of such bytes is longer than the run
  pub run_longest : (bytes u v : List ℕ) → bytes ≡ u ++ v → AllPass p u → length u ≤ prefix_len p bytes
  run_longest bytes [] v e h = omega arith
  run_longest [] (c ∷ u) v e h = absurd cc
  run_longest (d ∷ bytes) (c ∷ u) v e h =
      let same : d ≡ c = cc in
      let rest : bytes ≡ u ++ v = cc in
      let here : p d ≡ true = ap p same ∙ All-head (λ b. p b ≡ true) c u h in
      let more = run_longest bytes u v rest (All-tail (λ b. p b ≡ true) c u h) in
      rw here (omega arith)

  pub run_passes : (bytes : List ℕ) → AllPass p (take (prefix_len p bytes) bytes)
  run_passes [] = All-nil (λ b. p b ≡ true)
  run_passes (c ∷ bytes) = go (run_passes bytes) (p c) refl
    where
      go : AllPass p (take (prefix_len p bytes) bytes) → (b : Bool) → p c ≡ b → AllPass p (take (cond b (1 + prefix_len p bytes) 0) (c ∷ bytes))
      go h true e = rw one-add (All-cons (λ b. p b ≡ true) c (take (prefix_len p bytes) bytes) e h)
      go h false e = All-nil (λ b. p b ≡ true)

  -- the run in front is taken where no lexeme there has other bytes
  pub run_taken : (bytes : List ℕ) (x : Option TokenKind) → IsPiece (take (prefix_len p bytes) bytes) x → ((c : ℕ) (u v : List ℕ) → bytes ≡ (c ∷ u) ++ v → IsLexeme (c ∷ u) → AllPass p (c ∷ u)) → IsTaken (take (prefix_len p bytes) bytes) (drop (prefix_len p bytes) bytes) x
  run_taken bytes x piece means = record { piece = piece; longest = longest }
    where
      longest : (u v : List ℕ) → take (prefix_len p bytes) bytes ++ drop (prefix_len p bytes) bytes ≡ u ++ v → IsLexeme u → length u ≤ length (take (prefix_len p bytes) bytes)
      longest [] v e h = omega arith
      longest (c ∷ u) v e h =
          let whole : bytes ≡ (c ∷ u) ++ v = sym (take-append-drop (prefix_len p bytes) bytes) ∙ e in
          let most = run_longest bytes (c ∷ u) v whole (means c u v whole h) in
          omega (arith, length-prefix_len p bytes)

  -- a run begins with the first byte
  pub run_cons : (c : ℕ) (bytes : List ℕ) → p c ≡ true → take (prefix_len p (c ∷ bytes)) (c ∷ bytes) ≡ c ∷ take (prefix_len p bytes) bytes
  run_cons c bytes h = rw (h, one-add) refl
