-- Lists of tests against lists of other lengths.
use Rattle.std.proofs.Common.{◌≡◌, ◌≢◌, Bool, true, false, ◌&&◌, List, [], ◌∷◌, map, length, suc, refl, ap}
use Rattle.lk_operators.specs.Order.{all_pass}

behind : (b c : Bool) → false ≡ c → false ≡ (b && c)
behind true c p = p
behind false c p = refl

pub all_pass_lengths : {A : Type 0} (f : A → A → Bool) (xs ys : List A) → length xs ≢ length ys → false ≡ all_pass (map f xs) ys
all_pass_lengths f [] [] apart = absurd (apart refl)
all_pass_lengths f [] (y ∷ ys) apart = refl
all_pass_lengths f (x ∷ xs) [] apart = refl
all_pass_lengths f (x ∷ xs) (y ∷ ys) apart = behind (f x y) _ (all_pass_lengths f xs ys (λ e. apart (ap suc e)))
