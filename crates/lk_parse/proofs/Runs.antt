-- Pieces that are runs of bytes: words, tags and comments. And white space.
use Rattle.std.proofs.Common.{◌≡◌, ℕ, ◌+◌, ◌-◌, ◌<◌, ◌≤◌, Bool, true, false, List, [], ◌∷◌, ◌++◌, length, take, get_or, Option, Some, None, sym, ap, subst, ◌∙◌, inl, inr, arith}
use Rattle.std.specs.Char.{is_ascii_lowercase, is_ascii_uppercase, is_ascii_digit}
use Rattle.std.specs.List.{AllPass, prefix_len}
use Rattle.std.specs.Str.{IsUtf8, IsCharBoundary}
use Rattle.std.proofs.lemmas.Bool.{cases_lt}
use Rattle.std.proofs.lemmas.Bool.Decides.{nat_tests}
use Rattle.std.proofs.lemmas.List.Sums.{prefix_len-le-length, prefix_len_passes, prefix_len_stops}
use Rattle.std.proofs.lemmas.Str.{IsCharBoundary-start, IsCharBoundary-end, IsCharBoundary-before_ascii, IsCharBoundary-after_ascii}
use Rattle.lk_ast.specs.declared.token.TokenKind.{TokenKind}
use Rattle.lk_ast.specs.declared.token.TokenKind.TheVariants as kind
use Rattle.lk_parse.specs.Pieces.{is_white, is_no_feed, is_word_byte, IsPiece}
use Rattle.lk_parse.specs.Scanner.{start_of, Begins, Takes}
use Rattle.lk_parse.specs.Tokens.{IsLexeme, IsTaken}
use Rattle.lk_parse.specs.declared.start.Start.{Start}
use Rattle.lk_parse.specs.declared.start.Start.TheVariants.{White, Comment, Word, Tag, Int, Text}
use Rattle.lk_parse.proofs.Lexemes.{Extent, extent_at, run_passes, run_taken, run_cons}

-- ---- what a start says of its byte

is_white_byte : (c : ℕ) → start_of c ≡ White → is_white c ≡ true
is_white_byte c h = grind (arith, nat_tests)

pub is_hash : (c : ℕ) → start_of c ≡ Comment → c ≡ 35
is_hash c h = grind (arith, nat_tests)

is_small_letter : (c : ℕ) → start_of c ≡ Word → is_ascii_lowercase c ≡ true
is_small_letter c h = grind (arith, nat_tests)

is_capital_letter : (c : ℕ) → start_of c ≡ Tag → is_ascii_uppercase c ≡ true
is_capital_letter c h = grind (arith, nat_tests)

pub is_digit_byte : (c : ℕ) → start_of c ≡ Int → is_ascii_digit c ≡ true
is_digit_byte c h = grind (arith, nat_tests)

pub is_quote : (c : ℕ) → start_of c ≡ Text → c ≡ 34
is_quote c h = grind (arith, nat_tests)

is_letter : (c : ℕ) → is_ascii_lowercase c ≡ true → is_word_byte c ≡ true
is_letter c h = grind (arith, nat_tests)

is_capital : (c : ℕ) → is_ascii_uppercase c ≡ true → is_word_byte c ≡ true
is_capital c h = grind (arith, nat_tests)

word_byte_small : (c : ℕ) → is_word_byte c ≡ true → c < 128
word_byte_small c h = grind (arith, nat_tests)

pub digit_small : (c : ℕ) → is_ascii_digit c ≡ true → c < 128
digit_small c h = grind (arith, nat_tests)

feed_small : (c : ℕ) → is_no_feed c ≡ false → c < 128
feed_small c h = grind (arith, nat_tests)

-- ---- where runs end

-- a run of ASCII ends between characters
pub run_boundary : (p : ℕ → Bool) → ((c : ℕ) → p c ≡ true → c < 128) → (text : List ℕ) → IsUtf8 text → IsCharBoundary text (prefix_len p text)
run_boundary p ascii text utf8 = elim (cases_lt 0 (prefix_len p text)) [
  | inl some ↦
      let last : prefix_len p text - 1 < prefix_len p text = omega arith in
      let fits : prefix_len p text - 1 < length text = omega (arith, prefix_len-le-length p text) in
      let here = ascii (get_or text (prefix_len p text - 1) 0) (prefix_len_passes p text (prefix_len p text - 1) 0 last) in
      let end : prefix_len p text - 1 + 1 ≡ prefix_len p text = omega arith in
      subst (IsCharBoundary text) end (IsCharBoundary-after_ascii text (prefix_len p text - 1) utf8 fits here)
  | inr none ↦ let zero : 0 ≡ prefix_len p text = omega arith in subst (IsCharBoundary text) zero (IsCharBoundary-start text utf8)
]

pub word_boundary : (text : List ℕ) → IsUtf8 text → IsCharBoundary text (prefix_len is_word_byte text)
word_boundary text utf8 = run_boundary is_word_byte word_byte_small text utf8

-- and so does a line
line_boundary : (text : List ℕ) → IsCharBoundary text (prefix_len is_no_feed text)
line_boundary text = elim (cases_lt (prefix_len is_no_feed text) (length text)) [
  | inl inside ↦ IsCharBoundary-before_ascii text (prefix_len is_no_feed text) inside (feed_small (get_or text (prefix_len is_no_feed text) 0) (prefix_len_stops is_no_feed text 0 inside))
  | inr whole ↦ let end : length text ≡ prefix_len is_no_feed text = omega (arith, prefix_len-le-length is_no_feed text) in subst (IsCharBoundary text) end (IsCharBoundary-end text)
]

-- ---- the pieces

-- a run with its first byte is a piece in front
run_takes : (p : ℕ → Bool) (start : Start) (c : ℕ) (bytes : List ℕ) (x : Option TokenKind) → p c ≡ true → start_of c ≡ start → IsPiece (c ∷ take (prefix_len p bytes) bytes) x → ((u : List ℕ) → Extent start c u → AllPass p (c ∷ u)) → IsCharBoundary (c ∷ bytes) (prefix_len p (c ∷ bytes)) → Takes (c ∷ bytes) (record { len = prefix_len p (c ∷ bytes); kind = x })
run_takes p start c bytes x first begins piece means boundary = record {
  some = rw first (omega arith);
  fits = prefix_len-le-length p (c ∷ bytes);
  boundary = boundary;
  taken = run_taken p (c ∷ bytes) x (subst (λ (w : List ℕ). IsPiece w x) (sym (run_cons p c bytes first)) piece) all;
}
  where
    all : (d : ℕ) (u v : List ℕ) → c ∷ bytes ≡ (d ∷ u) ++ v → IsLexeme (d ∷ u) → AllPass p (d ∷ u)
    all d u v e h =
        let same : c ≡ d = cc in
        subst (λ (b : ℕ). AllPass p (b ∷ u)) same (means u (extent_at start c u begins (subst (λ (b : ℕ). IsLexeme (b ∷ u)) (sym same) h)))

pub comment_takes : (text : List ℕ) → Begins text Comment → Takes text (record { len = prefix_len is_no_feed text; kind = None })
comment_takes [] b = let none = b.some in absurd (omega arith)
comment_takes (c ∷ bytes) b =
    let hash = is_hash c b.is in
    run_takes is_no_feed Comment c bytes None (ap is_no_feed hash) b.is (subst (λ (d : ℕ). IsPiece (d ∷ take (prefix_len is_no_feed bytes) bytes) None) (sym hash) (IsPiece.comment (take (prefix_len is_no_feed bytes) bytes) (run_passes is_no_feed bytes))) (λ u h. h) (line_boundary (c ∷ bytes))

pub word_takes : (text : List ℕ) → IsUtf8 text → Begins text Word → Takes text (record { len = prefix_len is_word_byte text; kind = Some (kind.Word (take (prefix_len is_word_byte text) text)) })
word_takes [] utf8 b = let none = b.some in absurd (omega arith)
word_takes (c ∷ bytes) utf8 b =
    let letter = is_small_letter c b.is in
    let first = is_letter c letter in
    subst (λ (w : List ℕ). Takes (c ∷ bytes) (record { len = prefix_len is_word_byte (c ∷ bytes); kind = Some (kind.Word w) })) (sym (run_cons is_word_byte c bytes first))
    (run_takes is_word_byte Word c bytes (Some (kind.Word (c ∷ take (prefix_len is_word_byte bytes) bytes))) first b.is (IsPiece.word c (take (prefix_len is_word_byte bytes) bytes) letter (run_passes is_word_byte bytes)) (λ u h. h) (word_boundary (c ∷ bytes) utf8))

pub tag_takes : (text : List ℕ) → IsUtf8 text → Begins text Tag → Takes text (record { len = prefix_len is_word_byte text; kind = Some (kind.Tag (take (prefix_len is_word_byte text) text)) })
tag_takes [] utf8 b = let none = b.some in absurd (omega arith)
tag_takes (c ∷ bytes) utf8 b =
    let letter = is_capital_letter c b.is in
    let first = is_capital c letter in
    subst (λ (w : List ℕ). Takes (c ∷ bytes) (record { len = prefix_len is_word_byte (c ∷ bytes); kind = Some (kind.Tag w) })) (sym (run_cons is_word_byte c bytes first))
    (run_takes is_word_byte Tag c bytes (Some (kind.Tag (c ∷ take (prefix_len is_word_byte bytes) bytes))) first b.is (IsPiece.tag c (take (prefix_len is_word_byte bytes) bytes) letter (run_passes is_word_byte bytes)) (λ u h. h) (word_boundary (c ∷ bytes) utf8))

white_small : (c : ℕ) → is_white c ≡ true → c < 128
white_small c h = grind (arith, nat_tests)

-- whatever follows
pub white_taken : (c : ℕ) (rest : List ℕ) → start_of c ≡ White → IsTaken (c ∷ []) rest None
white_taken c rest begins = record { piece = IsPiece.white c (is_white_byte c begins); longest = longest }
  where
    longest : (u v : List ℕ) → (c ∷ []) ++ rest ≡ u ++ v → IsLexeme u → length u ≤ 1
    longest [] v e h = omega arith
    longest (d ∷ u) v e h =
        let same : d ≡ c = cc in
        omega (arith, ap length (extent_at White d u (ap start_of same ∙ begins) h))

pub white_takes : (text : List ℕ) → IsUtf8 text → Begins text White → Takes text (record { len = 1; kind = None })
white_takes [] utf8 b = let none = b.some in absurd (omega arith)
white_takes (c ∷ bytes) utf8 b = record {
  some = omega arith;
  fits = omega arith;
  boundary = IsCharBoundary-after_ascii (c ∷ bytes) 0 utf8 (omega arith) (white_small c (is_white_byte c b.is));
  taken = white_taken c bytes b.is;
}
