-- A token ends where white space follows.
use Rattle.std.proofs.Common.{◌≡◌, ℕ, ◌≤◌, Bool, true, false, List, [], ◌∷◌, ◌++◌, length, Option, Some, None, refl, sym, ap, subst, ◌∙◌, arith}
use Rattle.std.specs.Prelude.{not}
use Rattle.std.specs.Char.{is_ascii_digit}
use Rattle.std.specs.List.{AllPass, list_all}
use Rattle.std.proofs.lemmas.Bool.Decides.{nat_tests}
use Rattle.std.proofs.lemmas.List.Elements.{All-head, All-tail, All-contains}
use Rattle.std.proofs.lemmas.List.Sums.{AllPass-from_list_all}
use Rattle.lk_ast.specs.declared.token.TokenKind.{TokenKind}
use Rattle.lk_parse.specs.Pieces.{is_white, is_word_byte, IsPiece, signs}
use Rattle.lk_parse.specs.Scanner.{start_of}
use Rattle.lk_parse.specs.Tokens.{IsLexeme, IsTaken}
use Rattle.lk_parse.specs.declared.start.Start.{Start}
use Rattle.lk_parse.specs.declared.start.Start.TheVariants.{White, Comment, Word, Tag, Int, Text, Sign}
use Rattle.lk_parse.proofs.Lexemes.{Extent, extent_at}
use Rattle.lk_parse.proofs.Runs.{is_quote}
use Rattle.lk_parse.proofs.Shapes.{Shape, shape_of, piece_nonempty}
use Rattle.lk_parse.proofs.TextLiterals.{literal_taken}
use Rattle.lk_print.specs.Good.{IsSpelled}
use Rattle.lk_print.specs.Written.{written}

-- ---- what no white space stands in

abbrev is_dark : ℕ → Bool
is_dark c = not (is_white c)

white_not_dark : (s : ℕ) → is_white s ≡ true → is_dark s ≡ false
white_not_dark s h = grind (arith, nat_tests)

white_no_word_byte : (s : ℕ) → is_white s ≡ true → is_word_byte s ≡ false
white_no_word_byte s h = grind (arith, nat_tests)

white_no_digit : (s : ℕ) → is_white s ≡ true → is_ascii_digit s ≡ false
white_no_digit s h = grind (arith, nat_tests)

module _ (p : ℕ → Bool) where
  -- bytes that pass go no further than one that doesn't
  stops : (w rest u v : List ℕ) (s : ℕ) → p s ≡ false → w ++ s ∷ rest ≡ u ++ v → AllPass p u → length u ≤ length w
  stops w rest [] v s fails e h = omega arith
  stops [] rest (d ∷ u) v s fails e h =
      let same : d ≡ s = cc in
      let bad : true ≡ false = sym (All-head (λ b. p b ≡ true) d u h) ∙ ap p same ∙ fails in
      absurd cc
  stops (c ∷ w) rest (d ∷ u) v s fails e h =
      let behind : w ++ s ∷ rest ≡ u ++ v = cc in
      let more = stops w rest u v s fails behind (All-tail (λ b. p b ≡ true) d u h) in
      omega (arith, more)

  ends : (start : Start) (c : ℕ) (w rest : List ℕ) (s : ℕ) (x : Option TokenKind) → IsPiece (c ∷ w) x → start_of c ≡ start → ((u : List ℕ) → Extent start c u → AllPass p (c ∷ u)) → p s ≡ false → IsTaken (c ∷ w) (s ∷ rest) x
  ends start c w rest s x piece begins means fails = record { piece = piece; longest = longest }
    where
      longest : (u v : List ℕ) → (c ∷ w) ++ s ∷ rest ≡ u ++ v → IsLexeme u → length u ≤ length (c ∷ w)
      longest [] v e h = omega arith
      longest (d ∷ u) v e h =
          let same : d ≡ c = cc in
          let behind : w ++ s ∷ rest ≡ u ++ v = cc in
          let all = means u (extent_at start c u begins (subst (λ (b : ℕ). IsLexeme (b ∷ u)) same h)) in
          let more = stops w rest u v s fails behind (All-tail (λ b. p b ≡ true) c u all) in
          omega (arith, more)

-- ---- tokens

ends_as : (start : Start) (c : ℕ) (w rest : List ℕ) (s : ℕ) (k : TokenKind) → IsPiece (c ∷ w) (Some k) → start_of c ≡ start → Shape start c w (Some k) → is_white s ≡ true → IsTaken (c ∷ w) (s ∷ rest) (Some k)
ends_as White c w rest s k piece begins shape white = let bad : Some k ≡ None = shape.0 in absurd cc
ends_as Comment c w rest s k piece begins shape white = let bad : Some k ≡ None = shape.0 in absurd cc
ends_as Word c w rest s k piece begins shape white = ends is_word_byte Word c w rest s (Some k) piece begins (λ u h. h) (white_no_word_byte s white)
ends_as Tag c w rest s k piece begins shape white = ends is_word_byte Tag c w rest s (Some k) piece begins (λ u h. h) (white_no_word_byte s white)
ends_as Int c w rest s k piece begins shape white = ends is_ascii_digit Int c w rest s (Some k) piece begins (λ u h. h) (white_no_digit s white)
ends_as Text c w rest s k piece begins shape white =
    subst (λ (b : ℕ). IsTaken (b ∷ w) (s ∷ rest) (Some k)) (sym (is_quote c begins))
    (subst (λ (v : List ℕ). IsTaken (34 ∷ v) (s ∷ rest) (Some k)) (sym shape.3)
    (subst (λ (x : Option TokenKind). IsTaken (34 ∷ (shape.0 ++ 34 ∷ [])) (s ∷ rest) x) (sym shape.2) (literal_taken shape.0 shape.1 (s ∷ rest) shape.4)))
ends_as Sign c w rest s k piece begins shape white = ends is_dark Sign c w rest s (Some k) piece begins dark (white_not_dark s white)
  where
    dark : (u : List ℕ) → Extent Sign c u → AllPass is_dark (c ∷ u)
    dark u among = AllPass-from_list_all is_dark (c ∷ u) (All-contains (λ v. list_all is_dark v ≡ true) signs (c ∷ u) (AllPass-from_list_all (list_all is_dark) signs refl) among)

token_taken : (w rest : List ℕ) (s : ℕ) (k : TokenKind) → IsPiece w (Some k) → is_white s ≡ true → IsTaken w (s ∷ rest) (Some k)
token_taken [] rest s k piece white = absurd (piece_nonempty (Some k) piece)
token_taken (c ∷ w) rest s k piece white = ends_as (start_of c) c w rest s k piece refl (shape_of c w (Some k) piece) white

-- white space stands in front
abbrev pub begins_white : List ℕ → Bool
begins_white [] = false
begins_white (s ∷ rest) = is_white s

pub spelled_taken : (k : TokenKind) (rest : List ℕ) → IsSpelled k → begins_white rest ≡ true → IsTaken (written k) rest (Some k)
spelled_taken k [] spelled white = absurd cc
spelled_taken k (s ∷ rest) spelled white = token_taken (written k) rest s k spelled white
