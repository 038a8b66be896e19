-- Lists whose elements are all of a form, and one of which isn't.
use Rattle.std.proofs.Common.{◌≡◌, List, [], ◌∷◌, ◌++◌, map}

-- what stands behind the first ones has that form too
pub of_form : {A B : Type 0} (f : A → B) (done : List A) (y : B) (rest : List B) (all : List A) → map f done ++ y ∷ rest ≡ map f all → (x : A) × (y ≡ f x)
of_form f [] y rest [] is = absurd cc
of_form f [] y rest (x ∷ xs) is = (x, cc)
of_form f (d ∷ done) y rest [] is = absurd cc
of_form f (d ∷ done) y rest (x ∷ xs) is = of_form f done y rest xs cc
