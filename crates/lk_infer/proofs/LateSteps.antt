-- Where a type of a node in an earlier declaration is too large, the walk ends at its first step for a node.
use Rattle.std.proofs.Common.{◌≡◌, ℕ, zero, suc, ◌+◌, ◌<◌, ◌≤◌, ◌⊎◌, inl, inr, Bool, true, false, List, [], ◌∷◌, length, take, Option, Some, None, slice_get, get_or, refl, sym, ap, subst, ◌∙◌}
use native.Mathlib.Omega.{arith}
use Rattle.lk_ast.specs.declared.place.Span.{Span}
use Rattle.lk_types.specs.Each.{Each}
use Rattle.lk_typing.specs.Steps.{CanBeMet}
use Rattle.lk_typing.specs.declared.step.Said.{Said}
use Rattle.lk_typing.specs.declared.step.Said.TheVariants.{Same, Typed}
use Rattle.lk_typing.specs.declared.step.Step.{Step}
use Rattle.lk_unify.specs.Constraints.{AreFine, AreLarge, end_of}
use Rattle.lk_infer.proofs.FirstSteps.{solved_met}
use Rattle.lk_infer.specs.Refusals.{constraints_of, EndsAtNode, IsFine, AllFine, IsIllTyped, IsTooLarge}
use Rattle.lk_infer.specs.Walked.{is_node, NoNodes, IsFirstNode}

-- ---- first parts

taken_less : (k n : ℕ) (steps : List Step) → k ≤ n → take k (take n steps) ≡ take k steps
taken_less zero n steps le = refl
taken_less (suc k) zero steps le = absurd (omega arith)
taken_less (suc k) (suc n) [] le = refl
taken_less (suc k) (suc n) (step ∷ steps) le = ap (λ rest. step ∷ rest) (taken_less k n steps (omega arith))

taken_length : (n : ℕ) (steps : List Step) → length (take n steps) ≤ n
taken_length zero steps = omega arith
taken_length (suc n) [] = let le : 0 ≤ suc n = omega arith in le
taken_length (suc n) (step ∷ steps) = let le : length (take n steps) ≤ n = taken_length n steps in omega arith

taken_found : (n i : ℕ) (steps : List Step) (step : Step) → slice_get (take n steps) i ≡ Some step → (slice_get steps i ≡ Some step) × (i < n)
taken_found zero i steps step found = cc
taken_found (suc n) i [] step found = cc
taken_found (suc n) zero (s ∷ steps) step found = (found, omega arith)
taken_found (suc n) (suc i) (s ∷ steps) step found = let rest = taken_found n i steps step found in (rest.0, let less : i < n = rest.1 in omega arith)

each_taken : (k : ℕ) (steps : List Step) → NoNodes steps → NoNodes (take k steps)
each_taken zero steps each = tt
each_taken (suc k) [] each = tt
each_taken (suc k) (step ∷ steps) each = (each.0, each_taken k steps each.1)

-- ---- no steps for nodes

pub not_at_node : (steps : List Step) → NoNodes steps → EndsAtNode steps → ⊥
not_at_node [] none ends = cc
not_at_node (step ∷ []) none ends = by_said step.said none.0 ends
  where
    by_said : (said : Said) → is_node said ≡ false → Some (Rattle.lk_infer.specs.Refusals.sizing_of said) ≡ Some Rattle.lk_unify.specs.declared.constraint.Sizing.TheVariants.Late → ⊥
    by_said (Same equation) is ends = cc
    by_said (Typed n t) is ends = cc
not_at_node (step ∷ more ∷ steps) none ends = not_at_node (more ∷ steps) none.1 ends

-- what is fine is so whatever was too large before, where no step is one for a node
pub fine_without : (large : Bool) (steps : List Step) → NoNodes steps → AllFine false steps → AllFine large steps
fine_without large steps none fine k le = ((fine k le).0, λ ends. absurd (not_at_node (take k steps) (each_taken k steps none) ends))

pub ill_typed_without : (large : Bool) (steps : List Step) (at : Span) → NoNodes steps → IsIllTyped false steps at → IsIllTyped large steps at
ill_typed_without large steps at none ill = record {
  number = ill.number;
  step = ill.step;
  found = ill.found;
  here = ill.here;
  fine = fine_without large (take ill.number steps) (each_taken ill.number steps none) ill.fine;
  none = ill.none;
}

pub too_large_without : (large : Bool) (steps : List Step) (at : Span) → NoNodes steps → IsTooLarge false steps at → IsTooLarge large steps at
too_large_without large steps at none far = record {
  number = far.number;
  step = far.step;
  found = far.found;
  here = far.here;
  fine = fine_without large (take far.number steps) (each_taken far.number steps none) far.fine;
  some = far.some;
  large_here = by_case far.large_here;
}
  where
    by_case : AreLarge (constraints_of (take (far.number + 1) steps)) ⊎ (EndsAtNode (take (far.number + 1) steps) × (false ≡ true))
        → AreLarge (constraints_of (take (far.number + 1) steps)) ⊎ (EndsAtNode (take (far.number + 1) steps) × (large ≡ true))
    by_case (inl here) = inl here
    by_case (inr both) = absurd (let wrong : false ≡ true = both.1 in cc)

-- ---- up to the first step for a node

ends_there : (n : ℕ) (steps : List Step) (step : Step) → slice_get steps n ≡ Some step → is_node step.said ≡ true → EndsAtNode (take (n + 1) steps)
ends_there n steps step found node = subst (λ k. EndsAtNode (take k steps)) (let next : suc n ≡ n + 1 = omega arith in next) (ends_next n steps step found node)
  where
    ends_next : (n : ℕ) (steps : List Step) (step : Step) → slice_get steps n ≡ Some step → is_node step.said ≡ true → EndsAtNode (take (suc n) steps)
    ends_next n [] step found node = cc
    ends_next zero (s ∷ steps) step found node = by_said step.said (let same : s ≡ step = cc in ap (λ s. s.said) same) node
      where
        by_said : (said : Said) → s.said ≡ said → is_node said ≡ true → Some (Rattle.lk_infer.specs.Refusals.sizing_of s.said) ≡ Some Rattle.lk_unify.specs.declared.constraint.Sizing.TheVariants.Late
        by_said (Same equation) is node = cc
        by_said (Typed m t) is node = ap (λ said. Some (Rattle.lk_infer.specs.Refusals.sizing_of said)) is
    ends_next (suc n) (s ∷ []) step found node = cc
    ends_next (suc n) (s ∷ t ∷ steps) step found node = ends_next n (t ∷ steps) step found node

module _ (steps : List Step) (n : ℕ) (first : IsFirstNode steps n) where
  abbrev front : List Step
  front = take (n + 1) steps

  shorter : (k : ℕ) → k ≤ n → AllFine false (take k front) → AllFine true (take k steps)
  shorter k le fine =
      let same : take k front ≡ take k steps = taken_less k (n + 1) steps (omega arith) in
      fine_without true (take k steps) (subst NoNodes (taken_less k n steps le) (each_taken k (take n steps) first.before)) (subst (AllFine false) same fine)

  pub late_ill_typed : (at : Span) → IsIllTyped false front at → IsIllTyped true steps at
  late_ill_typed at ill =
      let found = taken_found (n + 1) ill.number steps ill.step ill.found in
      let less : ill.number < n + 1 = found.1 in
      record {
        number = ill.number;
        step = ill.step;
        found = found.0;
        here = ill.here;
        fine = shorter ill.number (omega arith) ill.fine;
        none = subst (λ part. CanBeMet part → ⊥) (taken_less (ill.number + 1) (n + 1) steps (omega arith)) ill.none;
      }

  pub late_too_large : (at : Span) → IsTooLarge false front at → IsTooLarge true steps at
  late_too_large at far =
      let found = taken_found (n + 1) far.number steps far.step far.found in
      let less : far.number < n + 1 = found.1 in
      let same : take (far.number + 1) front ≡ take (far.number + 1) steps = taken_less (far.number + 1) (n + 1) steps (omega arith) in
      record {
        number = far.number;
        step = far.step;
        found = found.0;
        here = far.here;
        fine = shorter far.number (omega arith) far.fine;
        some = subst CanBeMet same far.some;
        large_here = by_case (subst (λ part. AreLarge (constraints_of part) ⊎ (EndsAtNode part × (false ≡ true))) same far.large_here);
      }
    where
      by_case : AreLarge (constraints_of (take (far.number + 1) steps)) ⊎ (EndsAtNode (take (far.number + 1) steps) × (false ≡ true))
          → AreLarge (constraints_of (take (far.number + 1) steps)) ⊎ (EndsAtNode (take (far.number + 1) steps) × (true ≡ true))
      by_case (inl here) = inl here
      by_case (inr both) = absurd (let wrong : false ≡ true = both.1 in cc)

  -- where all up to the first step for a node is fine, that step is refused
  pub late_node : (at : Span) → at ≡ first.step.at → AllFine false front → IsTooLarge true steps at
  late_node at here fine =
      let whole : AreFine (constraints_of front) = subst (λ part. AreFine (constraints_of part)) (whole_part front) (fine (length front) (omega arith)).0 in
      record {
        number = n;
        step = first.step;
        found = first.found;
        here = here;
        fine = shorter n (omega arith) (λ k le. subst (IsFine false) (sym (taken_less k n front (let short : length (take n front) ≤ n = taken_length n front in omega arith))) (fine k (longer k le)));
        some = (whole.1.some.0, solved_met whole.1.some.0 front whole.1.some.1);
        large_here = inr (ends_there n steps first.step first.found first.node, refl);
      }
    where
      whole_part : (part : List Step) → take (length part) part ≡ part
      whole_part [] = refl
      whole_part (step ∷ part) = ap (λ rest. step ∷ rest) (whole_part part)

      part_length : (k : ℕ) (part : List Step) → length (take k part) ≤ length part
      part_length zero part = omega arith
      part_length (suc k) [] = omega arith
      part_length (suc k) (step ∷ part) = let le : length (take k part) ≤ length part = part_length k part in omega arith

      longer : (k : ℕ) → k ≤ length (take n front) → k ≤ length front
      longer k le = let more : length (take n front) ≤ length front = part_length n front in omega arith

pub first_node_at : (steps : List Step) (n : ℕ) (default : Step) → n < length steps → true ≡ is_node (get_or steps n default).said → NoNodes (take n steps) → IsFirstNode steps n
first_node_at steps n default below node before = record { step = get_or steps n default; found = found_at steps n below; node = sym node; before = before }
  where
    found_at : (steps : List Step) (n : ℕ) → n < length steps → slice_get steps n ≡ Some (get_or steps n default)
    found_at [] n below = absurd (let wrong : n < 0 = below in omega arith)
    found_at (step ∷ steps) zero below = refl
    found_at (step ∷ steps) (suc n) below = found_at steps n (omega arith)
