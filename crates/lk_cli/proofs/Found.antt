-- What is found in a list.
use Rattle.std.proofs.Common.{◌≡◌, refl, List, [], ◌∷◌, find, All, Bool, true, false, cond}
use Rattle.std.specs.Prelude.{IfSome, Option, Some}
use Rattle.std.specs.List.{AllByRecursion}
use Rattle.std.proofs.lemmas.List.Elements.{recursion_from_All}

found_by : {X : Type 0} (P : X → Type 0) (test : X → Bool) (xs : List X) → AllByRecursion P xs → IfSome (find test xs) P
found_by P test [] h = tt
found_by {X} P test (x ∷ xs) h = elim (test x) as (λ b. IfSome (cond b (Some x) (find test xs)) P) [ true ↦ h.0 | false ↦ found_by P test xs h.1 ]

-- what holds of each element holds of the first that passes a test
pub holds_of_found : {X : Type 0} (P : X → Type 0) (test : X → Bool) (xs : List X) → All P xs → IfSome (find test xs) P
holds_of_found P test xs h = found_by P test xs (recursion_from_All P xs h)

-- and the test passes of it
by_test : {X : Type 0} (P : X → Type 0) (x : X) (o : Option X) (b : Bool) → (b ≡ true → P x) → IfSome o P → IfSome (cond b (Some x) o) P
by_test P x o true here later = here refl
by_test P x o false here later = later

pub passes : {X : Type 0} (test : X → Bool) (P : X → Type 0) (xs : List X) → ((x : X) → test x ≡ true → P x) → IfSome (find test xs) P
passes test P [] h = tt
passes test P (x ∷ xs) h = by_test P x (find test xs) (test x) (h x) (passes test P xs h)
