-- What is left of a list behind its first elements.
use Rattle.std.proofs.Common.{◌≡◌, ℕ, ◌+◌, ◌<◌, List, ◌∷◌, drop, length, sym, ap, ◌∙◌, slice_index_or}
use Rattle.std.proofs.lemmas.List.{drop_more}

-- it begins with the element in turn
pub left_first : {A : Type 0} (xs : List A) (n : ℕ) (x : A) → n < length xs → x ≡ slice_index_or xs n x → drop n xs ≡ x ∷ drop (n + 1) xs
left_first xs n x lt is = drop_more xs n x lt ∙ ap (λ y. y ∷ drop (n + 1) xs) (sym is)
