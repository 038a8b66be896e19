-- Fields of a name, one after another.
use Rattle.std.proofs.Common.{◌≡◌, Bool, true, false, ◌<◌, ◌+◌, ◌-◌, ℕ, List, ◌∷◌, length, get_or, map, take, drop, refl, sym, ap, ◌∙◌, if◌then◌else◌}
use Rattle.std.specs.Char.{to_ascii_lowercase}
use Rattle.std.specs.Str.{str_eq_ignore_ascii_case}
use Rattle.std.proofs.lemmas.List.{drop_more, take_rest}
use Rattle.std.proofs.lemmas.Slice.Eq.{bytes_eq-Decides}
use Rattle.httparse.specs.Spans.{header_bytes, span_bytes}
use Rattle.httparse.specs.declared.spans.HeaderSpan.{HeaderSpan}
use Rattle.lk_http.specs.Fields.{values_in}

-- names that are equal but for the case of their letters
same_name : (a b : List ℕ) → map to_ascii_lowercase a ≡ map to_ascii_lowercase b → str_eq_ignore_ascii_case a b ≡ true
same_name a b same = (bytes_eq-Decides (map to_ascii_lowercase a) (map to_ascii_lowercase b)).1 same

other_name : (a b : List ℕ) → (map to_ascii_lowercase a ≡ map to_ascii_lowercase b → ⊥) → str_eq_ignore_ascii_case a b ≡ false
other_name a b other = go (str_eq_ignore_ascii_case a b) refl
  where
    go : (t : Bool) → str_eq_ignore_ascii_case a b ≡ t → str_eq_ignore_ascii_case a b ≡ false
    go true is = absurd (other ((bytes_eq-Decides (map to_ascii_lowercase a) (map to_ascii_lowercase b)).0 is))
    go false is = is

-- the values in the fields from a place on
abbrev pub values_from : List ℕ → List ℕ → List HeaderSpan → List (List ℕ)
values_from head name fields = values_in name (map (header_bytes head) fields)

module _ (head name : List ℕ) (fields : List HeaderSpan) (i : ℕ) (d : HeaderSpan) (inside : i < length fields) where
  -- by whether the one at the place has the name
  at_place : (t : Bool) → str_eq_ignore_ascii_case (span_bytes head (get_or fields i d).name) name ≡ t → values_from head name (drop i fields)
      ≡ (if t then span_bytes head (get_or fields i d).value ∷ values_from head name (drop (i + 1) fields) else values_from head name (drop (i + 1) fields))
  at_place t is =
      ap (values_from head name) (drop_more fields i d inside)
      ∙ ap (λ b. if b then span_bytes head (get_or fields i d).value ∷ values_from head name (drop (i + 1) fields) else values_from head name (drop (i + 1) fields)) is

  pub named_here : (found value other : List ℕ) → values_from head name (drop i fields) ≡ values_from head name fields
      → found ≡ span_bytes head (get_or fields i d).name → value ≡ span_bytes head (get_or fields i d).value → other ≡ name
      → map to_ascii_lowercase found ≡ map to_ascii_lowercase other
      → values_from head name fields ≡ value ∷ values_from head name (take (length fields - (i + 1)) (drop (i + 1) fields))
  named_here found value other kept found_is value_is other_is same =
      sym kept ∙ at_place true (same_name _ name (ap (map to_ascii_lowercase) (sym found_is) ∙ same ∙ ap (map to_ascii_lowercase) other_is))
      ∙ ap (λ v. v ∷ values_from head name (drop (i + 1) fields)) (sym value_is)
      ∙ ap (λ rest. value ∷ values_from head name rest) (sym (take_rest fields (i + 1)))

  pub named_behind : (found other : List ℕ) → values_from head name (drop i fields) ≡ values_from head name fields
      → found ≡ span_bytes head (get_or fields i d).name → other ≡ name → (map to_ascii_lowercase found ≡ map to_ascii_lowercase other → ⊥)
      → values_from head name (drop (i + 1) fields) ≡ values_from head name fields
  named_behind found other kept found_is other_is differ =
      sym (at_place false (other_name _ name (λ same. differ (ap (map to_ascii_lowercase) found_is ∙ same ∙ ap (map to_ascii_lowercase) (sym other_is))))) ∙ kept
