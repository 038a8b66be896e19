-- Fields that are put into a row, the last one first.
use Rattle.std.proofs.Common.{◌≡◌, ℕ, ◌+◌, ◌-◌, ◌<◌, ◌≤◌, List, ◌∷◌, length, drop, get_or, ap, sym, subst, ◌∙◌, arith}
use Rattle.std.proofs.lemmas.List.{drop_more}
use Rattle.std.specs.FinMap as fin
use Rattle.lk_types.specs.Rows.{Label}
use Rattle.lk_types.specs.declared.levels.LevelField.{LevelField}
use Rattle.lk_ground_types.specs.Becoming.{fields_put, number_at}
use Rattle.lk_ground_types.specs.Grounds.{Parts}

one_more_put : (ns : List ℕ) (fs : List LevelField) (i : ℕ) (f d : LevelField) (old row new : Parts) (n : ℕ) (l : Label) → i < length fs → f ≡ get_or fs i d → row ≡ fields_put ns (drop (i + 1) fs) old
    → n ≡ number_at ns f.part → l ≡ f.label → new ≡ fin.insert row l n → new ≡ fields_put ns (drop i fs) old
one_more_put ns fs i f d old row new n l below f_is before n_is l_is new_is =
    new_is ∙ (λ j. fin.insert (before j) (l_is j) (n_is j)) ∙ ap (λ fs. fields_put ns fs old) (sym (drop_more fs i d below ∙ ap (λ f. f ∷ drop (i + 1) fs) (sym f_is)))

before_one : (i : ℕ) → 0 < i → (i - 1) + 1 ≡ i
before_one i above = omega arith

pub one_before_put : (ns : List ℕ) (fs : List LevelField) (i : ℕ) (f d : LevelField) (old row new : Parts) (n : ℕ) (l : Label) → 0 < i → i ≤ length fs → f ≡ get_or fs (i - 1) d → row ≡ fields_put ns (drop i fs) old
    → n ≡ number_at ns f.part → l ≡ f.label → new ≡ fin.insert row l n → new ≡ fields_put ns (drop (i - 1) fs) old
one_before_put ns fs i f d old row new n l above within f_is before n_is l_is new_is =
    one_more_put ns fs (i - 1) f d old row new n l (omega arith) f_is (subst (λ i. row ≡ fields_put ns (drop i fs) old) (sym (before_one i above)) before) n_is l_is new_is
