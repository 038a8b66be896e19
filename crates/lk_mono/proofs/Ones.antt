-- What holds of each element of a list, or of one of them.
use Rattle.std.proofs.Common.{◌≡◌, ℕ, zero, suc, inl, inr, List, [], ◌∷◌, Some, None, slice_get, refl, subst}
use Rattle.lk_types.specs.Each.{Each, OneOf}

pub each_as : {A : Type 0} (P Q : A → Type 0) (xs : List A) → ((x : A) → P x → Q x) → Each P xs → Each Q xs
each_as P Q [] f d = tt
each_as P Q (x ∷ xs) f d = (f x d.0, each_as P Q xs f d.1)

-- one of them by its place
pub one_at : {A : Type 0} (P : A → Type 0) (xs : List A) (i : ℕ) (x : A) → slice_get xs i ≡ Some x → P x → OneOf P xs
one_at P [] i x is holds = let no : None ≡ Some x = is in cc
one_at P (y ∷ xs) zero x is holds = inl (let same : x ≡ y = cc in subst P same holds)
one_at P (y ∷ xs) (suc i) x is holds = inr (one_at P xs i x is holds)

pub at_one : {A : Type 0} (P : A → Type 0) (xs : List A) → OneOf P xs → (i : ℕ) × (x : A) × (slice_get xs i ≡ Some x) × P x
at_one P [] one = absurd one
at_one P (x ∷ xs) (inl here) = (0, x, refl, here)
at_one P (x ∷ xs) (inr there) = let found = at_one P xs there in (suc found.0, found.1, found.2, found.3)
