-- Constraints and their equations and sizings as lists of their own.
use Rattle.std.proofs.Common.{◌≡◌, ℕ, zero, suc, ◌+◌, ◌<◌, List, [], ◌∷◌, length, take, get_or, Some, refl, ◌∙◌, ap, subst, arith}
use Rattle.lk_types.specs.declared.equation.Equation.{Equation}
use Rattle.lk_unify.specs.Constraints.{equations_of, end_of}
use Rattle.lk_unify.specs.SideSizes.{joined, sizings_of}
use Rattle.lk_unify.specs.declared.constraint.Constraint.{Constraint}
use Rattle.lk_unify.specs.declared.constraint.Sizing.{Sizing}

joined_of : (cs : List Constraint) → joined (equations_of cs) (sizings_of cs) ≡ cs
joined_of [] = refl
joined_of (c ∷ cs) = ap (λ rest. c ∷ rest) (joined_of cs)

pub joined_by : (es : List Equation) (ss : List Sizing) (cs : List Constraint) → es ≡ equations_of cs → ss ≡ sizings_of cs → joined es ss ≡ cs
joined_by es ss cs equations sizings = (λ i. joined (equations i) (sizings i)) ∙ joined_of cs

pub equations_joined : (es : List Equation) (ss : List Sizing) → length ss ≡ length es → equations_of (joined es ss) ≡ es
equations_joined [] ss same = refl
equations_joined (e ∷ es) [] same = absurd (omega arith)
equations_joined (e ∷ es) (s ∷ ss) same = ap (λ rest. e ∷ rest) (equations_joined es ss (omega arith))

pub sizings_joined : (es : List Equation) (ss : List Sizing) → length ss ≡ length es → sizings_of (joined es ss) ≡ ss
sizings_joined [] [] same = refl
sizings_joined [] (s ∷ ss) same = absurd (omega arith)
sizings_joined (e ∷ es) [] same = absurd (omega arith)
sizings_joined (e ∷ es) (s ∷ ss) same = ap (λ rest. s ∷ rest) (sizings_joined es ss (omega arith))

pub joined_length : (es : List Equation) (ss : List Sizing) → length ss ≡ length es → length (joined es ss) ≡ length es
joined_length [] ss same = refl
joined_length (e ∷ es) [] same = absurd (omega arith)
joined_length (e ∷ es) (s ∷ ss) same = ap suc (joined_length es ss (omega arith))

-- the first of them
pub joined_first : (es : List Equation) (ss : List Sizing) (k : ℕ) → take k (joined es ss) ≡ joined (take k es) (take k ss)
joined_first es ss zero = refl
joined_first [] ss (suc k) = refl
joined_first (e ∷ es) [] (suc k) = refl
joined_first (e ∷ es) (s ∷ ss) (suc k) = ap (λ rest. record { equation = e; sizing = s } ∷ rest) (joined_first es ss k)

pub equations_first : (es : List Equation) (ss : List Sizing) (k : ℕ) → length ss ≡ length es → equations_of (take k (joined es ss)) ≡ take k es
equations_first es ss zero same = refl
equations_first [] ss (suc k) same = refl
equations_first (e ∷ es) [] (suc k) same = absurd (omega arith)
equations_first (e ∷ es) (s ∷ ss) (suc k) same = ap (λ rest. e ∷ rest) (equations_first es ss k (omega arith))

pub sizings_first : (es : List Equation) (ss : List Sizing) (k : ℕ) → length ss ≡ length es → sizings_of (take k (joined es ss)) ≡ take k ss
sizings_first es ss zero same = refl
sizings_first [] [] (suc k) same = refl
sizings_first [] (s ∷ ss) (suc k) same = absurd (omega arith)
sizings_first (e ∷ es) [] (suc k) same = absurd (omega arith)
sizings_first (e ∷ es) (s ∷ ss) (suc k) same = ap (λ rest. s ∷ rest) (sizings_first es ss k (omega arith))

-- the last of the first
its_end : (es : List Equation) (ss : List Sizing) (k : ℕ) (d : Sizing) → k < length es → length ss ≡ length es → end_of (take (suc k) (joined es ss)) ≡ Some (get_or ss k d)
its_end [] ss k d below same = absurd (omega arith)
its_end (e ∷ es) [] k d below same = absurd (omega arith)
its_end (e ∷ es) (s ∷ ss) zero d below same = refl
its_end (e ∷ []) (s ∷ ss) (suc k) d below same = absurd (omega arith)
its_end (e ∷ f ∷ es) (s ∷ []) (suc k) d below same = absurd (omega arith)
its_end (e ∷ f ∷ es) (s ∷ t ∷ ss) (suc k) d below same = its_end (f ∷ es) (t ∷ ss) k d (omega arith) (omega arith)

pub end_first : (es : List Equation) (ss : List Sizing) (k : ℕ) (d : Sizing) → k < length es → length ss ≡ length es → end_of (take (k + 1) (joined es ss)) ≡ Some (get_or ss k d)
end_first es ss k d below same = subst (λ n. end_of (take n (joined es ss)) ≡ Some (get_or ss k d)) (let one : suc k ≡ k + 1 = omega arith in one) (its_end es ss k d below same)
