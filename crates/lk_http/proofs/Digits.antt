-- The digits of a length, as a value of a field.
use Rattle.std.proofs.Common.{rules, ◌≡◌, Bool, true, false, ◌<◌, ◌≤◌, ◌^◌, ℕ, nat_le, nat_lt, not, IsTrue, List, [], ◌∷◌, length, reverse, Result, Ok, Err, refl, sym, ap, ◌∙◌, subst, arith, decimal, if◌then◌else◌, ◌&&◌}
use Rattle.std.specs.Char.{is_ascii_digit}
use Rattle.std.specs.List.{list_all}
use Rattle.std.specs.Str.{IsUtf8}
use Rattle.std.specs.Str.Parse.{AllDigits, ParsesUnsigned, digits_value}
use Rattle.std.proofs.lemmas.Bool.Decides.{Decides-and, nat_tests}
use Rattle.std.proofs.lemmas.Fmt.{IsAscii-from_digits, decimal_nonempty, digits_decimal, digits_value-decimal}
use Rattle.std.proofs.lemmas.List.Elements.{All-cons, All-head, All-nil}
use Rattle.std.proofs.lemmas.Result.{OkIff-at_err}
use Rattle.std.proofs.lemmas.Str.{IsUtf8-from_ascii}
use Rattle.std.proofs.lemmas.Str.Parse.{IsDigitsTest, IsNumeralModel, digit_from_value, numerals_by_value, parse_digits, tells_digits}
use Rattle.httparse.specs.Grammar.{AllPass, is_ows, is_value_byte, skip_ows, trim_ows}
use Rattle.httparse.proofs.TrimLemmas.{AllPass-reverse, trim_ows_space}
use Rattle.lk_http.specs.Fields.{is_digits, length_in}
use Rattle.lk_ast.specs.Limits.{message_limit}
use Rattle.lk_http.specs.declared.fault.LengthFault.TheVariants.{Large, Malformed}

tells : IsDigitsTest (λ ds. list_all is_ascii_digit ds ≡ true)
tells = search rules

-- the test of digits, and the number that they write
pub own : IsNumeralModel (λ ds. list_all is_ascii_digit ds ≡ true) (digits_value 10)
own = numerals_by_value (λ ds. list_all is_ascii_digit ds ≡ true) tells

plain : IsNumeralModel (AllDigits 10) (digits_value 10)
plain = numerals_by_value (AllDigits 10) tells_digits

-- what each digit passes, all of them pass
digits_pass : (test : ℕ → Bool) → ((b : ℕ) → 48 ≤ b → b ≤ 57 → IsTrue (test b)) → (ds : List ℕ) → AllDigits 10 ds → AllPass test ds
digits_pass test each [] all = All-nil (λ b. IsTrue (test b))
digits_pass test each (c ∷ ds) all =
    let range = digit_from_value c all.0 in
    All-cons (λ b. IsTrue (test b)) c ds (each c range.0 range.1) (digits_pass test each ds all.1)

abbrev solid : ℕ → Bool
solid b = not (is_ows b)

solid_digit : (b : ℕ) → 48 ≤ b → b ≤ 57 → IsTrue (solid b)
solid_digit b low high = grind (arith, nat_tests)

value_digit : (b : ℕ) → 48 ≤ b → b ≤ 57 → IsTrue (is_value_byte b)
value_digit b low high = grind (arith, nat_tests)

no_ows : (bytes : List ℕ) → AllPass solid bytes → skip_ows bytes ≡ bytes
no_ows [] all = refl
no_ows (b ∷ bytes) all = go (is_ows b) refl
  where
    go : (t : Bool) → is_ows b ≡ t → (if is_ows b then skip_ows bytes else b ∷ bytes) ≡ b ∷ bytes
    go true blank = let wrong : false ≡ true = subst (λ t. not t ≡ true) blank (All-head (λ x. IsTrue (solid x)) b bytes all) in absurd cc
    go false other = ap (λ t. if t then skip_ows bytes else b ∷ bytes) other

-- a field's value may have them, and they come back from behind a space
pub value_digits : (n : ℕ) → n < 2 ^ 64 → AllPass is_value_byte (decimal n)
value_digits n small = digits_pass is_value_byte value_digit (decimal n) (digits_decimal plain n small)

pub trimmed_digits : (n : ℕ) → n < 2 ^ 64 → trim_ows (32 ∷ decimal n) ≡ decimal n
trimmed_digits n small =
    let all = digits_pass solid solid_digit (decimal n) (digits_decimal plain n small) in
    trim_ows_space (decimal n) (no_ows (decimal n) all) (no_ows (reverse (decimal n)) (AllPass-reverse solid (decimal n) all))

digits_are : (n : ℕ) → n < 2 ^ 64 → is_digits (decimal n) ≡ true
digits_are n small =
    let some : nat_lt 0 (length (decimal n)) ≡ true = grind (arith, nat_tests, decimal_nonempty n small) in
    ap (λ b. b && list_all is_ascii_digit (decimal n)) some ∙ digits_decimal own n small

-- they are read as the length that they write
pub length_digits : (n : ℕ) → n ≤ message_limit → length_in (decimal n) ≡ Ok n
length_digits n few =
    let small : n < 2 ^ 64 = omega (arith, few) in
    let value : digits_value 10 (decimal n) ≡ n = digits_value-decimal own n small in
    let fits : nat_le n message_limit ≡ true = grind (arith, nat_tests) in
    ap (λ b. if b then (if nat_le (digits_value 10 (decimal n)) message_limit then Ok (digits_value 10 (decimal n)) else Err Large) else Err Malformed) (digits_are n small)
    ∙ ap (λ v. if nat_le v message_limit then Ok v else Err Large) value ∙ ap (λ b. if b then Ok n else Err Large) fits

-- ---- values that were read

digits_parts : (bytes : List ℕ) → is_digits bytes ≡ true → (0 < length bytes) × (list_all is_ascii_digit bytes ≡ true)
digits_parts bytes is =
    let both = Decides-and (nat_lt 0 (length bytes)) (list_all is_ascii_digit bytes) ((λ e. grind (arith, nat_tests)), (λ (h : 0 < length bytes). grind (arith, nat_tests))) ((λ e. e), (λ e. e)) in
    both.0 is

-- digits are a text
pub digits_text : (bytes : List ℕ) → is_digits bytes ≡ true → IsUtf8 bytes
digits_text bytes is = IsUtf8-from_ascii bytes (IsAscii-from_digits bytes (own.to bytes (digits_parts bytes is).1))

-- digits that are no number of 64 bits write too large a length
pub length_past : {E : Type 0} (value : List ℕ) (r : Result ℕ E) (e : E) → is_digits value ≡ true → ParsesUnsigned 64 10 value r → r ≡ Err e → Err Large ≡ length_in value
length_past value r e is parsed failed = go (nat_le (digits_value 10 value) message_limit) refl
  where
    go : (b : Bool) → nat_le (digits_value 10 value) message_limit ≡ b → Err Large ≡ length_in value
    go true few =
        let small : digits_value 10 value < 2 ^ 64 = let le : digits_value 10 value ≤ message_limit = grind (arith, nat_tests) in omega (arith, le) in
        absurd (OkIff-at_err r _ _ e (parse_digits own 64 value r parsed (digits_parts value is).1) failed ((digits_parts value is).0, small))
    go false over =
        sym (ap (λ b. if b then (if nat_le (digits_value 10 value) message_limit then Ok (digits_value 10 value) else Err Large) else Err Malformed) is
        ∙ ap (λ b. if b then Ok (digits_value 10 value) else Err Large) over)
