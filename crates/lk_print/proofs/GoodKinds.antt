-- Kinds of tokens that can be written.
use Rattle.std.proofs.Common.{◌≡◌, ℕ, ◌<◌, Bool, true, false, ◌&&◌, List, [], ◌∷◌, refl, sym, subst, nat_lt, arith}
use Rattle.std.specs.Prelude.{Contains}
use Rattle.std.specs.Char.{is_ascii_lowercase, is_ascii_uppercase, is_ascii_digit}
use Rattle.std.specs.List.{AllPass, list_all, list_any}
use Rattle.std.specs.Str.{IsUtf8, bytes_eq}
use Rattle.std.proofs.lemmas.Bool.{and_parts, ltb-true}
use Rattle.std.proofs.lemmas.Bool.Decides.{nat_tests}
use Rattle.std.proofs.lemmas.List.Elements.{All-cons, All-weaker, All-contains}
use Rattle.std.proofs.lemmas.List.Folds.{Any-from_list_any}
use Rattle.std.proofs.lemmas.List.Sums.{AllPass-from_list_all}
use Rattle.std.proofs.lemmas.Slice.Eq.{bytes_eq-Decides}
use Rattle.std.proofs.lemmas.Str.{IsUtf8-from_ascii}
use Rattle.std.proofs.lemmas.Str.Ascii.{IsAscii-from_all}
use Rattle.lk_ast.specs.declared.token.TokenKind.{TokenKind}
use Rattle.lk_ast.specs.declared.token.TokenKind.TheVariants as kind
use Rattle.lk_parse.specs.Pieces.{is_word_byte, IsInteger, IsPiece, signs}
use Rattle.lk_parse.proofs.Digits.{integer_digits}
use Rattle.lk_print.specs.Good.{IsSpelled, IsGood}
use Rattle.lk_print.specs.Written.{written}
use Rattle.lk_print.proofs.Quoted.{quoted_content, quoted_utf8}

-- ---- bytes that are ASCII

abbrev pub is_small : ℕ → Bool
is_small c = nat_lt c 128

letter_small : (c : ℕ) → is_ascii_lowercase c ≡ true → is_small c ≡ true
letter_small c h = grind (arith, nat_tests)

capital_small : (c : ℕ) → is_ascii_uppercase c ≡ true → is_small c ≡ true
capital_small c h = grind (arith, nat_tests)

word_byte_small : (c : ℕ) → is_word_byte c ≡ true → is_small c ≡ true
word_byte_small c h = grind (arith, nat_tests)

digit_small : (c : ℕ) → is_ascii_digit c ≡ true → is_small c ≡ true
digit_small c h = grind (arith, nat_tests)

pub word_small : (w : List ℕ) → AllPass is_word_byte w → AllPass is_small w
word_small w h = All-weaker (λ c. is_word_byte c ≡ true) (λ c. is_small c ≡ true) word_byte_small w h

pub integer_small : (w : List ℕ) (n : ℕ) → IsInteger w n → AllPass is_small w
integer_small w n h = All-weaker (λ c. is_ascii_digit c ≡ true) (λ c. is_small c ≡ true) digit_small w (integer_digits w n h)

pub sign_small : (w : List ℕ) → Contains signs w → AllPass is_small w
sign_small w among = AllPass-from_list_all is_small w (All-contains (λ v. list_all is_small v ≡ true) signs w (AllPass-from_list_all (list_all is_small) signs refl) among)

-- what is written in ASCII is UTF-8
pub spelled_good : (k : TokenKind) → IsSpelled k → AllPass is_small (written k) → IsGood k
spelled_good k spelled small = record {
  spelled = spelled;
  utf8 = IsUtf8-from_ascii (written k) (IsAscii-from_all (written k) (All-weaker (λ c. is_small c ≡ true) (λ c. c < 128) (λ c e. ltb-true c 128 e) (written k) small));
}

-- ---- kinds by what they hold

word_good : (c : ℕ) (w : List ℕ) → is_ascii_lowercase c ≡ true → AllPass is_word_byte w → IsGood (kind.Word (c ∷ w))
word_good c w letter h = spelled_good (kind.Word (c ∷ w)) (IsPiece.word c w letter h) (All-cons (λ b. is_small b ≡ true) c w (letter_small c letter) (word_small w h))

tag_good : (c : ℕ) (w : List ℕ) → is_ascii_uppercase c ≡ true → AllPass is_word_byte w → IsGood (kind.Tag (c ∷ w))
tag_good c w letter h = spelled_good (kind.Tag (c ∷ w)) (IsPiece.tag c w letter h) (All-cons (λ b. is_small b ≡ true) c w (capital_small c letter) (word_small w h))

pub text_good : (text : List ℕ) → IsUtf8 text → IsGood (kind.Text text)
text_good text utf8 = record { spelled = IsPiece.text _ text (quoted_content text); utf8 = quoted_utf8 text utf8 }

pub sign_good : (sign : List ℕ) → Contains signs sign → IsGood (kind.Sign sign)
sign_good sign among = spelled_good (kind.Sign sign) (IsPiece.sign sign among) (sign_small sign among)

-- ---- words, tags and signs that are told by computation

abbrev pub is_constant : TokenKind → Bool
is_constant (kind.Word []) = false
is_constant (kind.Word (c ∷ w)) = is_ascii_lowercase c && list_all is_word_byte w
is_constant (kind.Tag []) = false
is_constant (kind.Tag (c ∷ w)) = is_ascii_uppercase c && list_all is_word_byte w
is_constant (kind.Int value) = false
is_constant (kind.Text text) = false
is_constant (kind.Sign sign) = list_any (bytes_eq sign) signs

pub constant_good : (k : TokenKind) → is_constant k ≡ true → IsGood k
constant_good (kind.Word []) h = absurd cc
constant_good (kind.Word (c ∷ w)) h = let parts = and_parts (is_ascii_lowercase c) (list_all is_word_byte w) h in word_good c w parts.0 (AllPass-from_list_all is_word_byte w parts.1)
constant_good (kind.Tag []) h = absurd cc
constant_good (kind.Tag (c ∷ w)) h = let parts = and_parts (is_ascii_uppercase c) (list_all is_word_byte w) h in tag_good c w parts.0 (AllPass-from_list_all is_word_byte w parts.1)
constant_good (kind.Int value) h = absurd cc
constant_good (kind.Text text) h = absurd cc
constant_good (kind.Sign sign) h =
    let any = Any-from_list_any (bytes_eq sign) signs h in
    let same = (bytes_eq-Decides sign any.1).0 any.4 in
    sign_good sign (subst (Contains signs) (sym same) (any.0, any.2, any.3))
