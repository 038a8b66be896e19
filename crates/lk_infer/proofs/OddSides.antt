-- What is answered of the sides of an equation that are read back before other equations.
use Rattle.std.proofs.Common.{◌≡◌, ℕ, zero, suc, ◌+◌, ◌≤◌, inl, inr, List, [], ◌∷◌, length, map, take, drop, Some, None, refl, sym, ap, subst, ◌∙◌, arith}
use Rattle.lk_types.specs.Each.{Each}
use Rattle.lk_types.specs.Grounding.{Grounding}
use Rattle.lk_types.specs.Solutions.{Solves}
use Rattle.lk_types.specs.declared.equation.Equation.{Equation}
use Rattle.lk_types.specs.declared.ty.Ty.{Ty}
use Rattle.lk_arena.specs.Openings.{Opening}
use Rattle.lk_unify.specs.Constraints.{equations_of, AreFirstSides, AreLarge, AreSides, IsFirstLarge, IsFirstUnmet, Makes}
use Rattle.lk_unify.specs.declared.constraint.Constraint.{Constraint}
use Rattle.lk_infer.specs.Disagreements.{sides_before, sized, IsReading}
use Rattle.lk_infer.specs.declared.disagreement.Disagreement.{Disagreement}
use Rattle.lk_unify.specs.InOrder.{IsInOrder}

-- ---- the constraints of an equation behind others

sized_equations : (es : List Equation) → equations_of (map sized es) ≡ es
sized_equations [] = refl
sized_equations (e ∷ es) = ap (λ others. e ∷ others) (sized_equations es)

taken_solved : (σ : Grounding) (n : ℕ) (cs : List Constraint) → Solves σ (equations_of cs) → Solves σ (equations_of (take n cs))
taken_solved σ zero cs solves = tt
taken_solved σ (suc n) [] solves = tt
taken_solved σ (suc n) (c ∷ cs) solves = (solves.0, taken_solved σ n cs solves.1)

-- ---- the first two types

begins_so : (ρ : Opening) (x y : Equation) (others : List Equation) (ts : List Ty) → Makes ρ (x ∷ (y ∷ others)) ts →
    (left : Ty) × (right : Ty) × (rest : List Ty) × (ts ≡ left ∷ (right ∷ rest))
begins_so ρ x y others [] makes = absurd makes
begins_so ρ x y others (t ∷ []) makes = absurd makes.2
begins_so ρ x y others (t ∷ (u ∷ ts)) makes = (t, u, ts, refl)

first_two_same : (a b c d : Ty) (more rest : List Ty) → a ∷ (b ∷ []) ≡ c ∷ (d ∷ more) → a ∷ (b ∷ rest) ≡ c ∷ (d ∷ rest)
first_two_same a b c d more rest is =
    let first : a ≡ c = cc in
    let second : b ≡ d = cc in
    ap (λ t. t ∷ (b ∷ rest)) first ∙ ap (λ t. c ∷ (t ∷ rest)) second

-- ---- what is answered

module _ (e : Equation) (others : List Equation) (cs : List Constraint) (is : cs ≡ map sized (sides_before e others)) where
  equations_are : equations_of cs ≡ sides_before e others
  equations_are = ap equations_of is ∙ sized_equations (sides_before e others)

  pub too_large : (k : ℕ) → IsFirstLarge cs k → IsReading e others None
  too_large k large = inr (k + 1, subst (λ ds. AreLarge (take (k + 1) ds)) is large.large)

  pub none_alone : (k : ℕ) → IsFirstUnmet cs k → IsReading e others None
  none_alone k unmet = inl (λ solution. unmet.none (solution.0, taken_solved solution.0 (k + 1) cs (subst (Solves solution.0) (sym equations_are) solution.1)))

  module _ (types : List Ty) (first : AreFirstSides 2 (equations_of cs) types) where
    its_sides : AreSides (sides_before e others) first.0
    its_sides = subst (λ es. AreSides es first.0) equations_are first.1

    its_parts : (left : Ty) × (right : Ty) × (rest : List Ty) × (first.0 ≡ left ∷ (right ∷ rest))
    its_parts = begins_so its_sides.opening _ _ others first.0 its_sides.sides

    pub two : 2 ≤ length types
    two =
        let is : types ≡ its_parts.0 ∷ (its_parts.1 ∷ []) = first.2 ∙ ap (take 2) its_parts.3 in
        let many : length types ≡ 2 = ap length is in
        omega arith

    pub reading : Each IsInOrder types → (it : Disagreement) → types ≡ it.left ∷ (it.right ∷ drop 2 types) → IsReading e others (Some it)
    reading each it parts =
        let ordered : Each IsInOrder (it.left ∷ (it.right ∷ drop 2 types)) = subst (Each IsInOrder) parts each in
        let is : its_parts.0 ∷ (its_parts.1 ∷ []) ≡ it.left ∷ (it.right ∷ drop 2 types) = sym (first.2 ∙ ap (take 2) its_parts.3) ∙ parts in
        let all : first.0 ≡ it.left ∷ (it.right ∷ its_parts.2) = its_parts.3 ∙ first_two_same _ _ _ _ _ its_parts.2 is in
        ((its_parts.2, subst (AreSides (sides_before e others)) all its_sides), ordered.0, ordered.1.0)
