-- A text literal as it is written means the text, and is UTF-8 where that is.
use Rattle.std.proofs.Common.{◌≡◌, ℕ, true, List, [], ◌∷◌, ◌++◌, Some, refl, sym, subst, append_assoc, inl, inr, arith}
use Rattle.std.specs.Prelude.{flat_map}
use Rattle.std.specs.Str.{IsUtf8}
use Rattle.std.proofs.lemmas.Bool.{cases_eq}
use Rattle.std.proofs.lemmas.Bool.Decides.{nat_tests}
use Rattle.std.proofs.lemmas.Str.{IsUtf8-append}
use Rattle.lk_parse.specs.Pieces.{IsContent, is_plain, escaped}
use Rattle.lk_parse.proofs.Content.{escaped_small}
use Rattle.lk_parse.proofs.TextLiterals.{ascii_apart, ascii_one}
use Rattle.lk_print.specs.Written.{quoted, quoted_byte}

-- a byte stands as it is, or an escape means it
data IsQuoted : ℕ → List ℕ → Type 0 where
  plain : (c : ℕ) → is_plain c ≡ true → IsQuoted c (c ∷ [])
  escape : (c d : ℕ) → escaped c ≡ Some d → IsQuoted d (92 ∷ c ∷ [])

unescaped : (c : ℕ) → (c ≡ 34 → ⊥) → (c ≡ 92 → ⊥) → (c ≡ 10 → ⊥) → (c ≡ 13 → ⊥) → (c ≡ 9 → ⊥) → quoted_byte c ≡ c ∷ []
unescaped c quote backslash feed return tab = grind (arith, nat_tests)

is_unescaped : (c : ℕ) → (c ≡ 34 → ⊥) → (c ≡ 92 → ⊥) → (c ≡ 10 → ⊥) → (c ≡ 13 → ⊥) → is_plain c ≡ true
is_unescaped c quote backslash feed return = grind (arith, nat_tests)

quoted_as : (c : ℕ) → IsQuoted c (quoted_byte c)
quoted_as c = elim (cases_eq c 34) [
  | inl e ↦ at 34 e (IsQuoted.escape 34 34 refl)
  | inr quote ↦ elim (cases_eq c 92) [
    | inl e ↦ at 92 e (IsQuoted.escape 92 92 refl)
    | inr backslash ↦ elim (cases_eq c 10) [
      | inl e ↦ at 10 e (IsQuoted.escape 110 10 refl)
      | inr feed ↦ elim (cases_eq c 13) [
        | inl e ↦ at 13 e (IsQuoted.escape 114 13 refl)
        | inr return ↦ elim (cases_eq c 9) [
          | inl e ↦ at 9 e (IsQuoted.escape 116 9 refl)
          | inr tab ↦ subst (IsQuoted c) (sym (unescaped c quote backslash feed return tab)) (IsQuoted.plain c (is_unescaped c quote backslash feed return))
        ]
      ]
    ]
  ]
]
  where
    at : (d : ℕ) → c ≡ d → IsQuoted d (quoted_byte d) → IsQuoted c (quoted_byte c)
    at d e h = subst (λ (b : ℕ). IsQuoted b (quoted_byte b)) (sym e) h

byte_content : (c : ℕ) (bytes w m : List ℕ) → IsQuoted c bytes → IsContent w m → IsContent (bytes ++ w) (c ∷ m)
byte_content c bytes w m (IsQuoted.plain _ h) k = IsContent.plain c h k
byte_content d bytes w m (IsQuoted.escape c _ h) k = IsContent.escape c d h k

pub quoted_content : (meant : List ℕ) → IsContent (flat_map quoted_byte meant) meant
quoted_content [] = IsContent.nothing
quoted_content (c ∷ meant) = byte_content c (quoted_byte c) (flat_map quoted_byte meant) meant (quoted_as c) (quoted_content meant)

byte_utf8 : (front rest : List ℕ) (c : ℕ) (bytes : List ℕ) → IsQuoted c bytes → IsUtf8 (front ++ c ∷ rest) → IsUtf8 ((front ++ bytes) ++ rest)
byte_utf8 front rest c bytes (IsQuoted.plain _ h) utf8 = subst IsUtf8 (sym (append_assoc front (c ∷ []) rest)) utf8
byte_utf8 front rest d bytes (IsQuoted.escape c _ h) utf8 =
    let small = escaped_small c d h in
    let apart = ascii_apart front rest d small.1 utf8 in
    let escape_utf8 = IsUtf8-append (92 ∷ []) (c ∷ []) (ascii_one 92 (omega arith)) (ascii_one c small.0) in
    IsUtf8-append (front ++ 92 ∷ c ∷ []) rest (IsUtf8-append front (92 ∷ c ∷ []) apart.0 escape_utf8) apart.1

between_utf8 : (front meant : List ℕ) → IsUtf8 (front ++ meant) → IsUtf8 (front ++ flat_map quoted_byte meant)
between_utf8 front [] utf8 = utf8
between_utf8 front (c ∷ meant) utf8 =
    subst IsUtf8 (append_assoc front (quoted_byte c) (flat_map quoted_byte meant)) (between_utf8 (front ++ quoted_byte c) meant (byte_utf8 front meant c (quoted_byte c) (quoted_as c) utf8))

pub quoted_utf8 : (meant : List ℕ) → IsUtf8 meant → IsUtf8 (quoted meant)
quoted_utf8 meant utf8 =
    let quote = ascii_one 34 (omega arith) in
    IsUtf8-append (34 ∷ []) (flat_map quoted_byte meant ++ 34 ∷ []) quote (IsUtf8-append (flat_map quoted_byte meant) (34 ∷ []) (between_utf8 [] meant utf8) quote)
