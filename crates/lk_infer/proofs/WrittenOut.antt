-- The first two types of a table.
use Rattle.std.proofs.Common.{◌≡◌, List, [], ◌∷◌, drop, ap, ◌∙◌, Some}
use Rattle.std.proofs.lemmas.Option.{none-some}
use Rattle.std.specs.Prelude.{slice_get}
use Rattle.lk_types.proofs.Parts.{same_some}
use Rattle.lk_types.specs.declared.ty.Ty.{Ty}

-- the types at the first two places
pub two_first : (ts : List Ty) (a b : Ty) → slice_get ts 0 ≡ Some a → slice_get ts 1 ≡ Some b → ts ≡ a ∷ (b ∷ drop 2 ts)
two_first [] a b first second = absurd (none-some a first)
two_first (x ∷ []) a b first second = absurd (none-some b second)
two_first (x ∷ y ∷ ts) a b first second = ap (λ z. z ∷ (y ∷ ts)) (same_some first) ∙ ap (λ z. a ∷ (z ∷ ts)) (same_some second)
