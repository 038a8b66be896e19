-- What holds of each element of a list, or of one of them.
use Rattle.std.proofs.Common.{ℕ, zero, suc, ◌<◌, inl, inr, List, [], ◌∷◌, length, get_or, map, arith}
use Rattle.lk_types.specs.Each.{Each, OneOf}

pub Each-get_or : {A : Type 0} (P : A → Type 0) (xs : List A) (k : ℕ) (d : A) → k < length xs → Each P xs → P (get_or xs k d)
Each-get_or P [] k d h e = absurd (omega arith)
Each-get_or P (x ∷ xs) zero d h e = e.0
Each-get_or P (x ∷ xs) (suc k) d h e = Each-get_or P xs k d (omega arith) e.1

pub Each-of_all : {A : Type 0} (P : A → Type 0) (xs : List A) (d : A) → ((k : ℕ) → k < length xs → P (get_or xs k d)) → Each P xs
Each-of_all P [] d h = tt
Each-of_all P (x ∷ xs) d h = (h zero (omega arith), Each-of_all P xs d (λ k l. h (suc k) (omega arith)))

-- with what holds of each element besides
pub Each-zip : {A : Type 0} (P Q R : A → Type 0) → ((x : A) → P x → Q x → R x) → (xs : List A) → Each P xs → Each Q xs → Each R xs
Each-zip P Q R f [] d e = tt
Each-zip P Q R f (x ∷ xs) d e = (f x d.0 e.0, Each-zip P Q R f xs d.1 e.1)

pub OneOf-get_or : {A : Type 0} (P : A → Type 0) (xs : List A) (k : ℕ) (d : A) → k < length xs → P (get_or xs k d) → OneOf P xs
OneOf-get_or P [] k d h p = absurd (omega arith)
OneOf-get_or P (x ∷ xs) zero d h p = inl p
OneOf-get_or P (x ∷ xs) (suc k) d h p = inr (OneOf-get_or P xs k d (omega arith) p)

pub OneOf-to_map : {A B : Type 0} (P : B → Type 0) (f : A → B) (xs : List A) → OneOf (λ x. P (f x)) xs → OneOf P (map f xs)
OneOf-to_map P f [] e = e
OneOf-to_map P f (x ∷ xs) (inl p) = inl p
OneOf-to_map P f (x ∷ xs) (inr e) = inr (OneOf-to_map P f xs e)

-- one of them with what holds of each
pub OneOf-with : {A : Type 0} (P Q R : A → Type 0) → ((x : A) → P x → Q x → R x) → (xs : List A) → OneOf P xs → Each Q xs → OneOf R xs
OneOf-with P Q R f [] o e = o
OneOf-with P Q R f (x ∷ xs) (inl p) e = inl (f x p e.0)
OneOf-with P Q R f (x ∷ xs) (inr o) e = inr (OneOf-with P Q R f xs o e.1)

pub OneOf-none : {A : Type 0} (P : A → Type 0) → ((x : A) → P x → ⊥) → (xs : List A) → OneOf P xs → ⊥
OneOf-none P f [] o = o
OneOf-none P f (x ∷ xs) (inl p) = f x p
OneOf-none P f (x ∷ xs) (inr o) = OneOf-none P f xs o

pub OneOf-at : {A : Type 0} (P : A → Type 0) (xs : List A) (d : A) → OneOf P xs → (k : ℕ) × (k < length xs) × P (get_or xs k d)
OneOf-at P [] d o = absurd o
OneOf-at P (x ∷ xs) d (inl p) = (zero, omega arith, p)
OneOf-at P (x ∷ xs) d (inr o) = let r = OneOf-at P xs d o in (suc r.0, (let l = r.1 in omega arith), r.2)
