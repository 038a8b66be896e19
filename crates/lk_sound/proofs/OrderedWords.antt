-- Words in byte order are the same words.
use Rattle.std.proofs.Common.{◌≡◌, refl, sym, ap, ◌∙◌, ℕ, Bool, true, false, ◌||◌, List, [], ◌∷◌, map, inl, inr, is_some}
use Rattle.std.proofs.lemmas.Cmp.{nat_list_cmp_total}
use Rattle.std.proofs.lemmas.Map.Text.{is_eq-slice_cmp}
use Rattle.std.specs.Cmp.Lexicographic.{slice_cmp, bytes_decides}
use Rattle.std.specs.FinMap as finite
use Rattle.std.specs.FinMap.Entries.{is_some-find}
use Rattle.std.specs.List.{list_any}
use Rattle.std.specs.Ordering.{nat_cmp, eq_by_cmp}
use Rattle.std.specs.Str.{bytes_eq}
use Rattle.std.specs.declared.cmp.Ordering.{Ordering}
use Rattle.lk_index.specs.Free.{in_byte_order}
use Rattle.lk_sound.proofs.Names.{IsAmong}
use Rattle.lk_types.specs.Rows.{Label}

abbrev order : List ℕ → List ℕ → Ordering
order = slice_cmp nat_cmp

-- whether it is one of the words
abbrev is_among : List (List ℕ) → List ℕ → Bool
is_among xs x = list_any (eq_by_cmp order x) xs

among_of : (x : Label) (xs : List Label) → is_among xs x ≡ true → IsAmong x xs
among_of x [] is = absurd cc
among_of x (y ∷ xs) is = by_test (bytes_eq x y) refl (among_of x xs) (ap (λ b. b || is_among xs x) (sym (is_eq-slice_cmp x y)) ∙ is)
  where
    by_test : (b : Bool) → bytes_eq x y ≡ b → (is_among xs x ≡ true → IsAmong x xs) → (b || is_among xs x) ≡ true → IsAmong x (y ∷ xs)
    by_test true same behind is = inl (sym ((bytes_decides x y).0 same))
    by_test false other behind is = inr (behind is)

among_is : (x : Label) (xs : List Label) → IsAmong x xs → is_among xs x ≡ true
among_is x [] among = absurd among
among_is x (y ∷ xs) (inl same) = ap (λ b. b || is_among xs x) (is_eq-slice_cmp x y ∙ ap (bytes_eq x) same ∙ itself) where
  itself : bytes_eq x x ≡ true
  itself = (bytes_decides x x).1 refl
among_is x (y ∷ xs) (inr among) = ap (λ b. eq_by_cmp order x y || b) (among_is x xs among) ∙ or_true (eq_by_cmp order x y)
  where
    or_true : (b : Bool) → (b || true) ≡ true
    or_true true = refl
    or_true false = refl

abbrev keyed : List (List ℕ) → List (List ℕ × Unit {0})
keyed words = map (λ word. (word, tt {0})) words

keys_keyed : (words : List (List ℕ)) → map (λ e. e.0) (keyed words) ≡ words
keys_keyed [] = refl
keys_keyed (word ∷ words) = ap (λ rest. word ∷ rest) (keys_keyed words)

ordered_same : (x : Label) (words : List Label) → is_among (in_byte_order words) x ≡ is_among words x
ordered_same x words =
    sym (finite.contains_key-keys (finite.from_entries {R = order} (keyed words)) x) ∙ ap is_some (finite.get-from_entries nat_list_cmp_total (keyed words) x) ∙ is_some-find order x (keyed words) ∙ ap (λ xs. is_among xs x) (keys_keyed words)

-- each of the words is among them in byte order
pub ordered_holds : (words : List Label) (x : Label) → IsAmong x words → IsAmong x (in_byte_order words)
ordered_holds words x among = among_of x (in_byte_order words) (ordered_same x words ∙ among_is x words among)

-- and no other
pub ordered_of : (words : List Label) (x : Label) → IsAmong x (in_byte_order words) → IsAmong x words
ordered_of words x among = among_of x words (sym (ordered_same x words) ∙ among_is x (in_byte_order words) among)
