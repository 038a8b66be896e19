-- What a piece is follows from its first byte.
use Rattle.std.proofs.Common.{◌≡◌, ℕ, ◌<◌, Bool, true, false, List, [], ◌∷◌, ◌++◌, length, Option, Some, None, pos, refl, sym, ap, subst, arith}
use Rattle.std.specs.Prelude.{Contains}
use Rattle.std.specs.Char.{is_ascii_lowercase, is_ascii_uppercase, is_ascii_digit}
use Rattle.std.specs.List.{AllPass}
use Rattle.std.proofs.lemmas.Bool.Decides.{nat_tests}
use Rattle.std.proofs.lemmas.Fmt.{decimal_nonempty}
use Rattle.std.proofs.lemmas.List.Elements.{All-cons, All-head, All-contains}
use Rattle.std.proofs.lemmas.List.Sums.{AllPass-from_list_all}
use Rattle.lk_ast.specs.declared.token.TokenKind.{TokenKind}
use Rattle.lk_ast.specs.declared.token.TokenKind.TheVariants as kind
use Rattle.lk_parse.specs.Pieces.{is_white, is_no_feed, is_word_byte, IsContent, IsInteger, IsPiece, signs}
use Rattle.lk_parse.specs.Scanner.{start_of}
use Rattle.lk_parse.specs.Tokens.{IsStuck}
use Rattle.lk_parse.specs.declared.start.Start.{Start}
use Rattle.lk_parse.specs.declared.start.Start.TheVariants.{White, Comment, Word, Tag, Int, Text, Sign}
use Rattle.lk_parse.proofs.Digits.{integer_digits}

-- ---- what a byte starts

pub white_starts : (c : ℕ) → is_white c ≡ true → start_of c ≡ White
white_starts c h = grind (arith, nat_tests)

word_starts : (c : ℕ) → is_ascii_lowercase c ≡ true → start_of c ≡ Word
word_starts c h = grind (arith, nat_tests)

tag_starts : (c : ℕ) → is_ascii_uppercase c ≡ true → start_of c ≡ Tag
tag_starts c h = grind (arith, nat_tests)

pub digit_starts : (c : ℕ) → is_ascii_digit c ≡ true → start_of c ≡ Int
digit_starts c h = grind (arith, nat_tests)

abbrev is_sign_start : Start → Bool
is_sign_start Sign = true
is_sign_start other = false

abbrev starts_sign : List ℕ → Bool
starts_sign [] = false
starts_sign (c ∷ w) = is_sign_start (start_of c)

is_sign_start-true : (start : Start) → is_sign_start start ≡ true → start ≡ Sign
is_sign_start-true White h = absurd cc
is_sign_start-true Comment h = absurd cc
is_sign_start-true Word h = absurd cc
is_sign_start-true Tag h = absurd cc
is_sign_start-true Int h = absurd cc
is_sign_start-true Text h = absurd cc
is_sign_start-true Sign h = refl

any_sign : (w : List ℕ) → Contains signs w → starts_sign w ≡ true
any_sign w h = All-contains (λ v. starts_sign v ≡ true) signs w (AllPass-from_list_all starts_sign signs refl) h

sign_starts : (c : ℕ) (w : List ℕ) → Contains signs (c ∷ w) → start_of c ≡ Sign
sign_starts c w h = is_sign_start-true (start_of c) (any_sign (c ∷ w) h)

word_first : (c : ℕ) → is_ascii_lowercase c ≡ true → is_word_byte c ≡ true
word_first c h = grind (arith, nat_tests)

tag_first : (c : ℕ) → is_ascii_uppercase c ≡ true → is_word_byte c ≡ true
tag_first c h = grind (arith, nat_tests)

-- ---- what is the piece c ∷ w, by what c starts
abbrev pub Shape : Start → ℕ → List ℕ → Option TokenKind → Type 0
Shape White c w x = (x ≡ None) × (w ≡ [])
Shape Comment c w x = (x ≡ None) × AllPass is_no_feed (c ∷ w)
Shape Word c w x = (x ≡ Some (kind.Word (c ∷ w))) × AllPass is_word_byte (c ∷ w)
Shape Tag c w x = (x ≡ Some (kind.Tag (c ∷ w))) × AllPass is_word_byte (c ∷ w)
Shape Int c w x = (n : ℕ) × (x ≡ Some (kind.Int (pos n))) × IsInteger (c ∷ w) n
Shape Text c w x = (content meant : List ℕ) × (x ≡ Some (kind.Text meant)) × (w ≡ content ++ 34 ∷ []) × IsContent content meant
Shape Sign c w x = (x ≡ Some (kind.Sign (c ∷ w))) × Contains signs (c ∷ w)

shaped : (start : Start) (c : ℕ) (w : List ℕ) (x : Option TokenKind) → start_of c ≡ start → Shape start c w x → Shape (start_of c) c w x
shaped start c w x e h = subst (λ (s : Start). Shape s c w x) (sym e) h

int_first : (c n : ℕ) (w : List ℕ) → IsInteger (c ∷ w) n → is_ascii_digit c ≡ true
int_first c n w h = All-head (λ d. is_ascii_digit d ≡ true) c w (integer_digits (c ∷ w) n h)

pub shape_of : (c : ℕ) (w : List ℕ) (x : Option TokenKind) → IsPiece (c ∷ w) x → Shape (start_of c) c w x
shape_of c w x (IsPiece.white d h) = shaped White c w x (white_starts c h) (refl, refl)
shape_of c w x (IsPiece.comment v h) = (refl, All-cons (λ d. is_no_feed d ≡ true) 35 w refl h)
shape_of c w x (IsPiece.word d v h k) = shaped Word c w x (word_starts c h) (refl, All-cons (λ d. is_word_byte d ≡ true) c w (word_first c h) k)
shape_of c w x (IsPiece.tag d v h k) = shaped Tag c w x (tag_starts c h) (refl, All-cons (λ d. is_word_byte d ≡ true) c w (tag_first c h) k)
shape_of c w x (IsPiece.int v n h) = shaped Int c w x (digit_starts c (int_first c n w h)) (n, refl, h)
shape_of c w x (IsPiece.text v meant h) = (v, meant, refl, refl, h)
shape_of c w x (IsPiece.sign v h) = shaped Sign c w x (sign_starts c w h) (refl, h)

pub piece_nonempty : (x : Option TokenKind) → IsPiece [] x → ⊥
piece_nonempty x (IsPiece.int w n h) = omega (arith, decimal_nonempty n (omega (arith, h.1)), ap length h.0)
piece_nonempty x (IsPiece.sign w h) = let bad : false ≡ true = any_sign [] h in absurd cc

pub empty_stuck : (text : List ℕ) → length text < 1 → IsStuck text
empty_stuck (c ∷ text) few w rest x e t = absurd (omega arith)
empty_stuck [] few [] rest x e t = piece_nonempty x t.piece
empty_stuck [] few (c ∷ w) rest x e t = absurd cc
