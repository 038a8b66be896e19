-- Words, and the numbers that they write.
use Rattle.std.proofs.Common.{◌≡◌, ℕ, ◌<◌, ◌≤◌, ◌^◌, zero, suc, ◌&&◌, [], ◌∷◌, Bool, true, false, List, length, get_or, Some, None, Result, Ok, Err, refl, sym, ap, subst, ◌∙◌, arith, if◌then◌else◌, nat_le, bytes_eq, decimal, is_some, slice_get, true≢false}
use Rattle.std.specs.Prelude.{Decides, IsUtf8, unwrap_or}
use Rattle.std.proofs.lemmas.Result.{OkIff-at_ok, OkIff-at_err}
use Rattle.std.specs.Str.Parse.{AllDigits, digits_value, ParsesUnsigned}
use Rattle.std.proofs.lemmas.Bool.Decides.{Decides-and, nat_tests}
use Rattle.std.proofs.lemmas.Fmt.{IsAscii-decimal, decimal_nonempty, digits_decimal, digits_value-decimal, decimal-digits_value, first_decimal, decimal_digit}
use Rattle.std.proofs.lemmas.Slice.Eq.{bytes_eq-Decides}
use Rattle.std.proofs.lemmas.Str.{IsUtf8-from_ascii}
use Rattle.std.proofs.lemmas.Str.Parse.{IsNumeralModel, numerals_by_value, parse_digits, parse_plain, tells_digits}
use Rattle.lk_join.specs.Schedule.{number_of}

abbrev digits : IsNumeralModel (AllDigits 10) (digits_value 10)
digits = numerals_by_value (AllDigits 10) tells_digits

-- ---- the first byte

empty_word : (word : List ℕ) → None ≡ slice_get word 0 → length word ≡ 0
empty_word [] is = refl
empty_word (byte ∷ bytes) is = absurd (true≢false (ap is_some (sym is)))

first_byte : (word : List ℕ) (first : ℕ) → Some first ≡ slice_get word 0 → get_or word 0 0 ≡ first
first_byte [] first is = absurd (true≢false (ap is_some is))
first_byte (byte ∷ bytes) first is = ap (λ o. unwrap_or o byte) (sym is)

module _ (most : ℕ) (word : List ℕ) (big : most < 2 ^ 64) where
  -- the word is the one that writes this number
  abbrev IsNumber : ℕ → Type 0
  IsNumber n = (word ≡ decimal n) × (n ≤ most)

  abbrev test : ℕ → Bool
  test n = bytes_eq word (decimal n) && nat_le n most

  tells : (n : ℕ) → Decides (test n) (IsNumber n)
  tells n = Decides-and (bytes_eq word (decimal n)) (nat_le n most) (bytes_eq-Decides word (decimal n)) ((λ e. grind (arith, nat_tests)), (λ h. grind (arith, nat_tests)))

  value_is : (n : ℕ) → IsNumber n → digits_value 10 word ≡ n
  value_is n h = ap (digits_value 10) h.0 ∙ digits_value-decimal digits n (omega (arith, h.1, big))

  found : (n : ℕ) → IsNumber n → number_of most word ≡ Some n
  found n h = ap (λ m. if test m then Some m else None) (value_is n h) ∙ ap (λ b. if b then Some n else None) ((tells n).1 h)

  none : ((n : ℕ) → IsNumber n → ⊥) → number_of most word ≡ None
  none never = go (test (digits_value 10 word)) (λ e. never _ ((tells _).0 e))
    where
      go : (b : Bool) → (b ≡ true → ⊥) → (if b then Some (digits_value 10 word) else None) ≡ None
      go true impossible = absurd (impossible refl)
      go false impossible = refl

  -- ---- by the first byte

  -- no word is empty
  pub number_empty : None ≡ slice_get word 0 → number_of most word ≡ None
  number_empty is = none (λ n h. omega (arith, empty_word word is, ap length h.0, decimal_nonempty n (omega (arith, h.1, big))))

  first_digit : (n : ℕ) → IsNumber n → 0 < n → 48 < get_or word 0 0
  first_digit n h some = subst (λ (w : List ℕ). 48 < get_or w 0 0) (sym h.0) (first_decimal n some (omega (arith, h.1, big)))

  pub number_zero : (test : Bool) → test ≡ bytes_eq word (48 ∷ []) → test ≡ true → number_of most word ≡ Some 0
  number_zero test is yes_it_is = found 0 ((bytes_eq-Decides word (48 ∷ [])).0 (sym is ∙ yes_it_is) ∙ sym (decimal_digit 0 (omega arith)), omega arith)

  -- a sign, or a zero before other digits
  pub number_refused : (test : Bool) (first : ℕ) → test ≡ bytes_eq word (48 ∷ []) → test ≡ false → Some first ≡ slice_get word 0 → first ≤ 48 → number_of most word ≡ None
  number_refused test first is other begins low = none never
    where
      never : (n : ℕ) → IsNumber n → ⊥
      never zero h = true≢false (sym ((bytes_eq-Decides word (48 ∷ [])).1 (h.0 ∙ decimal_digit 0 (omega arith))) ∙ sym is ∙ other)
      never (suc n) h = omega (arith, low, first_byte word first begins, first_digit (suc n) h (omega arith))

  -- ---- by `parse`

  pub number_no_text : (IsUtf8 word → ⊥) → number_of most word ≡ None
  number_no_text never = none (λ n h. never (subst IsUtf8 (sym h.0) (IsUtf8-from_ascii (decimal n) (IsAscii-decimal n (omega (arith, h.1, big))))))

  spelt : {E : Type 0} (n : ℕ) (r : Result ℕ E) → 48 < get_or word 0 0 → ParsesUnsigned 64 10 word r → r ≡ Ok n → word ≡ decimal n
  spelt n r high h parsed =
      let read = OkIff-at_ok r _ _ n (parse_plain digits 64 word r h (λ e. omega (arith, high, e))) parsed in
      sym (decimal-digits_value digits word read.0.0 read.0.1 (λ e. omega (arith, high, e)) read.0.2) ∙ ap decimal (sym read.1)

  pub number_parsed : {E : Type 0} (n : ℕ) (r : Result ℕ E) → 48 < get_or word 0 0 → ParsesUnsigned 64 10 word r → r ≡ Ok n → n ≤ most → number_of most word ≡ Some n
  number_parsed n r high h parsed small = found n (spelt n r high h parsed, small)

  pub number_unparsed : {E : Type 0} (e : E) (r : Result ℕ E) → ParsesUnsigned 64 10 word r → r ≡ Err e → number_of most word ≡ None
  number_unparsed e r h is = none (λ n number.
      let value = value_is n number in
      let all = subst (AllDigits 10) (sym number.0) (digits_decimal digits n (omega (arith, number.1, big))) in
      let some = ap length number.0 in
      OkIff-at_err r _ _ e (parse_digits digits 64 word r h all) is (omega (arith, some, decimal_nonempty n (omega (arith, number.1, big))), omega (arith, value, number.1, big)))
