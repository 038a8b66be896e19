-- Texts, and the numbers that they write.
use Rattle.std.proofs.Common.{◌≡◌, ℕ, ◌<◌, ◌≤◌, zero, suc, ◌&&◌, ◌≢◌, [], ◌∷◌, slice_get, is_some, Bool, true, false, List, length, get_or, Some, None, Result, Ok, Err, refl, sym, ap, subst, ◌∙◌, arith, if◌then◌else◌, nat_le, bytes_eq, decimal, true≢false}
use Rattle.std.specs.Prelude.{Decides, unwrap_or}
use Rattle.std.proofs.lemmas.Result.{OkIff-at_ok, OkIff-at_err}
use Rattle.std.specs.Str.Parse.{AllDigits, digits_value, ParsesUnsigned}
use Rattle.std.proofs.lemmas.Bool.Decides.{Decides-and, nat_tests}
use Rattle.std.proofs.lemmas.Fmt.{decimal_nonempty, digits_decimal, digits_value-decimal, decimal-digits_value, first_decimal, decimal_digit}
use Rattle.std.proofs.lemmas.Slice.Eq.{bytes_eq-Decides}
use Rattle.std.proofs.lemmas.Str.Parse.{IsNumeralModel, numerals_by_value, parse_digits, parse_plain, tells_digits}
use Rattle.lk_words.specs.Words.{most_fuel, number_of}

-- the text is the one that writes this number
abbrev pub IsNumber : List ℕ → ℕ → Type 0
IsNumber text n = (text ≡ decimal n) × (1 ≤ n) × (n ≤ most_fuel)

abbrev test : List ℕ → ℕ → Bool
test text n = bytes_eq text (decimal n) && (nat_le 1 n && nat_le n most_fuel)

tells : (a b : ℕ) → Decides (nat_le a b) (a ≤ b)
tells a b = (λ e. grind (arith, nat_tests), λ h. grind (arith, nat_tests))

test_tells : (text : List ℕ) (n : ℕ) → Decides (test text n) (IsNumber text n)
test_tells text n =
    let tells = Decides-and (bytes_eq text (decimal n)) (nat_le 1 n && nat_le n most_fuel) (bytes_eq-Decides text (decimal n)) (Decides-and (nat_le 1 n) (nat_le n most_fuel) (tells 1 n) (tells n most_fuel)) in
    (λ e. let h = tells.0 e in (h.0, h.1.0, h.1.1), λ h. tells.1 (h.0, (h.1, h.2)))

abbrev digits : IsNumeralModel (AllDigits 10) (digits_value 10)
digits = numerals_by_value (AllDigits 10) tells_digits

-- it is the value of the text's digits, so no other is
pub value_is : (text : List ℕ) (n : ℕ) → IsNumber text n → digits_value 10 text ≡ n
value_is text n h = ap (digits_value 10) h.0 ∙ digits_value-decimal digits n (omega (arith, h.2))

-- a text has a number exactly where it writes that number
pub number_found : (text : List ℕ) (n : ℕ) → IsNumber text n → number_of text ≡ Some n
number_found text n h = ap (λ m. if test text m then Some m else None) (value_is text n h) ∙ ap (λ b. if b then Some n else None) ((test_tells text n).1 h)

pub number_none : (text : List ℕ) → ((n : ℕ) → IsNumber text n → ⊥) → number_of text ≡ None
number_none text none = go (test text (digits_value 10 text)) (λ e. none _ ((test_tells text _).0 e))
  where
    go : (b : Bool) → (b ≡ true → ⊥) → (if b then Some (digits_value 10 text) else None) ≡ None
    go true never = absurd (never refl)
    go false never = refl

-- its first byte is a digit, and not 0 (48)
first_digit : (text : List ℕ) (n : ℕ) → IsNumber text n → (0 < length text) × (48 < get_or text 0 0)
first_digit text n h = (omega (arith, ap length h.0, decimal_nonempty n (omega (arith, h.2))), omega (arith, ap (λ (t : List ℕ). get_or t 0 0) h.0, first_decimal n (omega (arith, h.1)) (omega (arith, h.2))))

first_byte : (text : List ℕ) (first : ℕ) → Some first ≡ slice_get text 0 → get_or text 0 0 ≡ first
first_byte [] first is = absurd (true≢false (ap is_some is))
first_byte (c ∷ cs) first is = ap (λ o. unwrap_or o c) (sym is)

-- a text that begins with `+` or `0`, or another byte up to that, has none
pub number_refused : (text : List ℕ) (first : ℕ) → Some first ≡ slice_get text 0 → first ≤ 48 → number_of text ≡ None
number_refused text first is low = number_none text (λ n h. omega (arith, first_byte text first is, first_digit text n h))

-- and of any other `parse` reads it
pub number_parsed : {E : Type 0} (text : List ℕ) (first n : ℕ) (r : Result ℕ E) → Some first ≡ slice_get text 0 → 48 < first → ParsesUnsigned 64 10 text r → r ≡ Ok n → n ≤ most_fuel → number_of text ≡ Some n
number_parsed text first n r is high h parsed small =
    let begins = first_byte text first is in
    let read = OkIff-at_ok r _ _ n (parse_plain digits 64 text r h (λ e. omega (arith, begins, e))) parsed in
    let spelt = decimal-digits_value digits text read.0.0 read.0.1 (λ e. omega (arith, begins, e)) read.0.2 in
    let spells : text ≡ decimal n = sym spelt ∙ ap decimal (sym read.1) in
    number_found text n (spells, some n spells (λ e. omega (arith, begins, e)), small)
  where
    some : (m : ℕ) → text ≡ decimal m → get_or text 0 0 ≢ 48 → 1 ≤ m
    some zero e never = absurd (never (ap (λ (t : List ℕ). get_or t 0 0) (e ∙ decimal_digit 0 (omega arith))))
    some (suc m) e never = omega arith

pub number_unparsed : {E : Type 0} (text : List ℕ) (e : E) (r : Result ℕ E) → ParsesUnsigned 64 10 text r → r ≡ Err e → number_of text ≡ None
number_unparsed text e r h is = number_none text (λ n number.
    let value = value_is text n number in
    let all = subst (AllDigits 10) (sym number.0) (digits_decimal digits n (omega (arith, number.2))) in
    OkIff-at_err r _ _ e (parse_digits digits 64 text r h all) is ((first_digit text n number).0, omega (arith, value, number.2)))
