-- The integer in front of a text.
use Rattle.std.proofs.Common.{◌≡◌, ℕ, ◌<◌, List, [], ◌∷◌, ◌++◌, length, take, drop, get_or, Some, pos, sym, ap, subst, ◌∙◌, inr, arith}
use Rattle.std.specs.Char.{is_ascii_digit}
use Rattle.std.specs.List.{AllPass, prefix_len, slice_range}
use Rattle.std.specs.Str.{IsUtf8, IsCharBoundary}
use Rattle.std.proofs.lemmas.Grind.{common_steps}
use Rattle.std.proofs.lemmas.List.{take-append-drop, take_at}
use Rattle.std.proofs.lemmas.List.Folds.{length-prefix_len}
use Rattle.std.proofs.lemmas.List.Sums.{prefix_len-le-length}
use Rattle.lk_ast.specs.declared.token.TokenKind.TheVariants as kind
use Rattle.lk_parse.specs.Pieces.{IsInteger, IsPiece}
use Rattle.lk_parse.specs.Scanner.{start_of, Begins, Takes}
use Rattle.lk_parse.specs.Tokens.{IsLexeme, IsStuck}
use Rattle.lk_parse.specs.declared.start.Start.{Start}
use Rattle.lk_parse.specs.declared.start.Start.TheVariants.{Int}
use Rattle.lk_parse.proofs.Digits.{integer_digits}
use Rattle.lk_parse.proofs.Lexemes.{extent_at, run_passes, run_longest, run_taken}
use Rattle.lk_parse.proofs.Runs.{is_digit_byte, digit_small, run_boundary}
use Rattle.lk_parse.proofs.Shapes.{Shape, shape_of, piece_nonempty}

-- the digits in front
abbrev pub digits_of : List ℕ → List ℕ
digits_of text = take (prefix_len is_ascii_digit text) text

some_digits : (text : List ℕ) → Begins text Int → 0 < prefix_len is_ascii_digit text
some_digits [] b = let none = b.some in absurd (omega arith)
some_digits (c ∷ bytes) b = rw (is_digit_byte c b.is) (omega arith)

pub int_boundary : (text : List ℕ) → IsUtf8 text → IsCharBoundary text (prefix_len is_ascii_digit text)
int_boundary text utf8 = run_boundary is_ascii_digit digit_small text utf8

-- all of them are taken where they are an integer
pub int_takes : (text : List ℕ) (n : ℕ) → IsUtf8 text → Begins text Int → IsInteger (digits_of text) n → Takes text (record { len = prefix_len is_ascii_digit text; kind = Some (kind.Int (pos n)) })
int_takes text n utf8 b is = record {
  some = some_digits text b;
  fits = prefix_len-le-length is_ascii_digit text;
  boundary = int_boundary text utf8;
  taken = run_taken is_ascii_digit text (Some (kind.Int (pos n))) (IsPiece.int (digits_of text) n is) all;
}
  where
    all : (d : ℕ) (u v : List ℕ) → text ≡ (d ∷ u) ++ v → IsLexeme (d ∷ u) → AllPass is_ascii_digit (d ∷ u)
    all d u v e h = extent_at Int d u (ap (λ (w : List ℕ). start_of (get_or w 0 0)) (sym e) ∙ b.is) h

-- digits that are no integer begin nothing, also where fewer of them would be one
pub no_int_stuck : (text : List ℕ) → Begins text Int → ((n : ℕ) → IsInteger (digits_of text) n → ⊥) → IsStuck text
no_int_stuck text b never [] rest x e t = piece_nonempty x t.piece
no_int_stuck text b never (d ∷ w) rest x e t =
    let begins : start_of d ≡ Int = ap (λ (v : List ℕ). start_of (get_or v 0 0)) (sym e) ∙ b.is in
    let shape = subst (λ (s : Start). Shape s d w x) begins (shape_of d w x t.piece) in
    let len = length-prefix_len is_ascii_digit text in
    let whole : (d ∷ w) ++ rest ≡ digits_of text ++ drop (prefix_len is_ascii_digit text) text = sym e ∙ sym (take-append-drop (prefix_len is_ascii_digit text) text) in
    let at_least = t.longest (digits_of text) (drop (prefix_len is_ascii_digit text) text) whole (inr (run_passes is_ascii_digit text)) in
    let at_most = run_longest is_ascii_digit text (d ∷ w) rest e (integer_digits (d ∷ w) shape.0 shape.2) in
    let same_length : length (d ∷ w) ≡ prefix_len is_ascii_digit text = omega (arith, at_least, at_most, len) in
    let is : digits_of text ≡ d ∷ w = ap (take (prefix_len is_ascii_digit text)) e ∙ take_at (d ∷ w) rest (prefix_len is_ascii_digit text) same_length in
    never shape.0 (is ∙ shape.2.0, shape.2.1)

-- what a slice of them holds
pub front_digits : (text bytes digits : List ℕ) (len : ℕ) → bytes ≡ text → len ≡ prefix_len is_ascii_digit bytes → digits ≡ slice_range text 0 len → digits ≡ digits_of text
front_digits text bytes digits len e is front = front ∙ ap (λ (n : ℕ). slice_range text 0 n) (is ∙ ap (prefix_len is_ascii_digit) e) ∙ sub_zero (prefix_len is_ascii_digit text)
  where
    sub_zero : (n : ℕ) → slice_range text 0 n ≡ take n text
    sub_zero n = grind (arith, common_steps)
