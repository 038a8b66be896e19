-- Decimal digits, and the integers that they write.
use Rattle.std.proofs.Common.{◌≡◌, ℕ, ◌<◌, ◌≤◌, ◌^◌, true, List, [], ◌∷◌, length, get_or, Result, Ok, Err, ℤ, pos, refl, sym, ap, subst, ◌∙◌, arith, inl, inr, w64}
use Rattle.std.specs.Prelude.{decimal, ◌⊎◌, IfNone, IfSome}
use Rattle.std.specs.Char.{is_ascii_digit}
use Rattle.std.specs.Int.{IsInRange}
use Rattle.std.specs.List.{AllPass}
use Rattle.std.specs.Result.{OkIff, result_ok}
use Rattle.std.specs.Str.Parse.{digits_value, ParsesSigned}
use Rattle.std.proofs.lemmas.Bool.{cases_eq, cases_lt}
use Rattle.std.proofs.lemmas.Bool.Decides.{nat_tests}
use Rattle.std.proofs.lemmas.Fmt.{decimal_digit, decimal_injective, digits_decimal, digits_value-decimal, decimal-digits_value, first_decimal}
use Rattle.std.proofs.lemmas.List.Elements.{All-nil, All-cons, All-head, All-tail}
use Rattle.std.proofs.lemmas.Str.Parse.{IsDigitsTest, IsNumeralModel, numerals_by_value, parse_signed_digits}
use Rattle.lk_parse.specs.Pieces.{IsInteger}

pub in_digits : (c : ℕ) → is_ascii_digit c ≡ true → IsInRange 48 57 c
in_digits c h = grind (arith, nat_tests)

is_digit : (c : ℕ) → IsInRange 48 57 c → is_ascii_digit c ≡ true
is_digit c h = grind (arith, nat_tests)

abbrev Digit : ℕ → Type 0
Digit c = is_ascii_digit c ≡ true

digits_test : IsDigitsTest (AllPass is_ascii_digit)
digits_test = record {
  empty = All-nil Digit;
  parts = λ c cs h. (in_digits c (All-head Digit c cs h), All-tail Digit c cs h);
  more = λ c cs h k. All-cons Digit c cs (is_digit c h) k;
}

pub own : IsNumeralModel (AllPass is_ascii_digit) (digits_value 10)
own = numerals_by_value (AllPass is_ascii_digit) digits_test

small : (n : ℕ) → n < 2 ^ 63 → n < 2 ^ 64
small n h = omega arith

pub integer_digits : (w : List ℕ) (n : ℕ) → IsInteger w n → AllPass is_ascii_digit w
integer_digits w n h = subst (AllPass is_ascii_digit) (sym h.0) (digits_decimal own n (small n h.1))

-- the digits of an integer don't begin with 0, but for 0 itself
pub no_zero_first : (w : List ℕ) (n : ℕ) → IsInteger w n → 1 < length w → get_or w 0 0 ≡ 48 → ⊥
no_zero_first w n h long zero_first = elim (cases_eq n 0) [
  | inl zero ↦ let one : w ≡ 48 ∷ [] = h.0 ∙ ap decimal zero ∙ decimal_digit 0 (omega arith) in omega (arith, ap length one)
  | inr more ↦ let first = first_decimal n (omega arith) (small n h.1) in omega (arith, ap (λ (v : List ℕ). get_or v 0 0) h.0)
]

-- ---- what `parse` reads of digits

pub parsed_integer : {E : Type 0} (w : List ℕ) (v : ℤ) (r : Result ℤ E) → 0 < length w → AllPass is_ascii_digit w → (1 < length w → get_or w 0 0 ≡ 48 → ⊥) → ParsesSigned w64 10 w r → r ≡ Ok v → (n : ℕ) × (v ≡ pos n) × IsInteger w n
parsed_integer w v r some digits zero h is =
    let read = subst (λ q. OkIff q ((0 < length w) × (digits_value 10 w < 2 ^ 63)) (pos (digits_value 10 w))) is (parse_signed_digits own w64 w r h digits) in
    let value_small = read.0.1 in
    (digits_value 10 w, read.1, (sym (decimal-digits_value own w digits some (λ e. alone e (cases_lt 1 (length w))) (omega arith)), value_small))
  where
    alone : get_or w 0 0 ≡ 48 → (1 < length w) ⊎ (length w ≤ 1) → length w ≡ 1
    alone e (inl long) = absurd (zero long e)
    alone e (inr short) = omega arith

pub unparsed_integer : {E : Type 0} (w : List ℕ) (n : ℕ) (e : E) (r : Result ℤ E) → 0 < length w → AllPass is_ascii_digit w → ParsesSigned w64 10 w r → r ≡ Err e → IsInteger w n → ⊥
unparsed_integer w n e r some digits h is int =
    let read = subst (λ q. OkIff q ((0 < length w) × (digits_value 10 w < 2 ^ 63)) (pos (digits_value 10 w))) is (parse_signed_digits own w64 w r h digits) in
    let value : digits_value 10 w ≡ n = ap (digits_value 10) int.0 ∙ digits_value-decimal own n (small n int.1) in
    read (some, omega (arith, value, int.1))

pub parsed_none : {E : Type 0} (w : List ℕ) (r : Result ℤ E) → 0 < length w → AllPass is_ascii_digit w → ParsesSigned w64 10 w r → IfNone (result_ok r) ((n : ℕ) → ¬ (IsInteger w n))
parsed_none w (Ok v) some digits h = tt
parsed_none w (Err e) some digits h = λ n int. unparsed_integer w n e (Err e) some digits h refl int

pub parsed_some : {E : Type 0} (w : List ℕ) (r : Result ℤ E) → 0 < length w → AllPass is_ascii_digit w → (1 < length w → get_or w 0 0 ≡ 48 → ⊥) → ParsesSigned w64 10 w r → IfSome (result_ok r) (λ v. (n : ℕ) × (v ≡ pos n) × IsInteger w n)
parsed_some {E = E} w (Ok v) some digits zero h = parsed_integer {E = E} w v (Ok v) some digits zero h refl
parsed_some w (Err e) some digits zero h = tt

pub integer_same : (w : List ℕ) (n m : ℕ) → IsInteger w n → IsInteger w m → n ≡ m
integer_same w n m h k = decimal_injective n m (small n h.1) (small m k.1) (sym h.0 ∙ k.0)
