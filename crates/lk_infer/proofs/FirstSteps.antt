-- The first constraint of a walk that can't be met or is too large is one of its steps.
use Rattle.std.proofs.Common.{◌≡◌, ℕ, zero, suc, ◌+◌, ◌<◌, ◌≤◌, ◌⊎◌, inl, inr, Bool, true, false, List, [], ◌∷◌, ◌++◌, length, map, take, Option, Some, None, slice_get, refl, sym, ap, subst, ◌∙◌}
use Rattle.std.proofs.lemmas.Bool.{cases_lt}
use Rattle.std.proofs.Math.Nat.{suc-add}
use Rattle.std.proofs.Math.Numerals.{add-one}
use native.Mathlib.Omega.{arith}
use Rattle.lk_ast.specs.declared.place.Span.{Span}
use Rattle.lk_types.proofs.Members.{each_both}
use Rattle.lk_types.specs.Each.{Each}
use Rattle.lk_types.specs.Grounding.{Grounding}
use Rattle.lk_types.specs.Solutions.{HasSolution, IsMet, Solves}
use Rattle.lk_types.specs.declared.ty.Ty.{Ty}
use Rattle.lk_typing.specs.Steps.{Meets, CanBeMet}
use Rattle.lk_typing.specs.declared.step.Step.{Step}
use Rattle.lk_unify.specs.Constraints.{equations_of, AreFine, AreLarge, AllFine, IsFirstUnmet, IsFirstLarge}
use Rattle.lk_unify.specs.declared.constraint.Constraint.{Constraint}
use Rattle.lk_unify.specs.Constraints.{AreTooMany, end_of}
use Rattle.lk_unify.specs.declared.constraint.Sizing.{Sizing}
use Rattle.lk_infer.proofs.WalkSteps.{asked_met, maps_append, fine_left, large_left, never_matters}
use Rattle.lk_infer.specs.Refusals as walk
use Rattle.lk_infer.specs.Refusals.{constraint_of, constraints_of, IsIllTyped, IsTooLarge}
use Rattle.lk_infer.specs.Walked.{asked, IsPlain}

-- ---- numbers, and first parts of lists

none_more : (j : ℕ) → 0 + j ≡ j
none_more j = omega arith

take_asked : (front : List Ty) (cs : List Constraint) (j : ℕ) → take (length front + j) (map asked front ++ cs) ≡ map asked front ++ take j cs
take_asked [] cs j = ap (λ n. take n cs) (none_more j)
take_asked (t ∷ front) cs j = ap (λ n. take n (map asked (t ∷ front) ++ cs)) (suc-add (length front) j) ∙ ap (λ zs. asked t ∷ zs) (take_asked front cs j)

length_asked : (front : List Ty) (cs : List Constraint) → length (map asked front ++ cs) ≡ length front + length cs
length_asked [] cs = sym (none_more (length cs))
length_asked (t ∷ front) cs = ap suc (length_asked front cs) ∙ sym (suc-add (length front) (length cs))

-- a first part that ends among types that are only read back can be met
front_met : (σ : Grounding) (front : List Ty) → Each IsPlain front → (cs : List Constraint) (k : ℕ) → k < length front → Solves σ (equations_of (take (suc k) (map asked front ++ cs)))
front_met σ [] plain cs k below = absurd (let wrong : k < 0 = below in omega arith)
front_met σ (t ∷ front) plain cs zero below = let one = asked_met σ (t ∷ []) (plain.0, tt) in (one.0, tt)
front_met σ (t ∷ front) plain cs (suc k) below = let one = asked_met σ (t ∷ []) (plain.0, tt) in (one.0, front_met σ front plain.1 cs k (omega arith))

-- how far a number is beyond another one
beyond : (n k : ℕ) → n ≤ k → (j : ℕ) × (k ≡ n + j)
beyond zero k le = (k, sym (none_more k))
beyond (suc n) zero le = absurd (omega arith)
beyond (suc n) (suc k) le = let rest = beyond n k (omega arith) in (rest.0, ap suc rest.1 ∙ sym (suc-add n rest.0))

-- ---- without the types that are only read back

pub all_fine_left : (front : List Ty) → Each IsPlain front → (cs : List Constraint) → AllFine (map asked front ++ cs) → AllFine cs
all_fine_left front plain cs fine k le =
    fine_left front plain (take k cs) (subst AreFine (take_asked front cs k) (fine (length front + k) (let n : length (map asked front ++ cs) ≡ length front + length cs = length_asked front cs in omega arith)))

behind_front : (front : List Ty) → Each IsPlain front → (cs : List Constraint) (k : ℕ) → (HasSolution (equations_of (take (k + 1) (map asked front ++ cs))) → ⊥) → length front ≤ k
behind_front front plain cs k none = by_case (cases_lt k (length front))
  where
    σ : Grounding
    σ = record { plain = λ n. Rattle.lk_types.specs.declared.ground.Ground.TheVariants.Int; rows = λ n. Rattle.lk_types.specs.Rows.no_fields; effects = λ n. Rattle.lk_types.specs.Rows.no_effects }

    by_case : (k < length front) ⊎ (length front ≤ k) → length front ≤ k
    by_case (inl less) = absurd (none (σ, subst (λ n. Solves σ (equations_of (take n (map asked front ++ cs)))) (sym (add-one k)) (front_met σ front plain cs k less)))
    by_case (inr le) = le

-- the constraint of that number among those of the steps
pub record IsBehind (front : List Ty) (k : ℕ) (P : ℕ → Type 0) : Type 0 where
  pub number : ℕ
  pub is : k ≡ length front + number
  pub so : P number

fine_before : (front : List Ty) → Each IsPlain front → (cs : List Constraint) (j : ℕ) → AllFine (take (length front + j) (map asked front ++ cs)) → AllFine (take j cs)
fine_before front plain cs j fine = all_fine_left front plain (take j cs) (subst AllFine (take_asked front cs j) fine)

next_number : (n j : ℕ) → (n + j) + 1 ≡ n + (j + 1)
next_number n j = omega arith

pub unmet_left : (front : List Ty) → Each IsPlain front → (cs : List Constraint) (k : ℕ) → IsFirstUnmet (map asked front ++ cs) k → IsBehind front k (IsFirstUnmet cs)
unmet_left front plain cs k unmet =
    let at = beyond (length front) k (behind_front front plain cs k unmet.none) in
    let fine : AllFine (take (length front + at.0) (map asked front ++ cs)) = subst (λ n. AllFine (take n (map asked front ++ cs))) at.1 unmet.fine in
    let none : HasSolution (equations_of (take ((length front + at.0) + 1) (map asked front ++ cs))) → ⊥ = subst (λ n. HasSolution (equations_of (take (n + 1) (map asked front ++ cs))) → ⊥) at.1 unmet.none in
    let within : length front + at.0 < length front + length cs = subst (λ n. length front + at.0 < n) (length_asked front cs) (subst (λ n. n < length (map asked front ++ cs)) at.1 unmet.within) in
    record {
      number = at.0;
      is = at.1;
      so = record {
        within = omega arith;
        fine = fine_before front plain cs at.0 fine;
        none = λ solution. none (
          solution.0,
          subst (Solves solution.0)
              (sym (ap (λ n. equations_of (take n (map asked front ++ cs))) (next_number (length front) at.0) ∙ ap equations_of (take_asked front cs (at.0 + 1)) ∙ maps_append (map asked front) (take (at.0 + 1) cs)))
              (each_both (IsMet solution.0) (equations_of (map asked front)) (equations_of (take (at.0 + 1) cs)) (asked_met solution.0 front plain) solution.1),
        );
      };
    }

-- no size matters of types that are only read back
front_few : (end : Option Sizing) (front : List Ty) (cs : List Constraint) (k : ℕ) (types : List Ty) → k < length front → AreTooMany end (take (suc k) (map asked front ++ cs)) types → ⊥
front_few end [] cs k types below many = absurd (let wrong : k < 0 = below in omega arith)
front_few end (t ∷ front) cs zero [] below many = many
front_few end (t ∷ front) cs zero (u ∷ types) below (inl wrong) = never_matters end wrong.0
front_few end (t ∷ front) cs zero (u ∷ types) below (inr many) = none_left types many
  where
    none_left : (types : List Ty) → AreTooMany end [] types → ⊥
    none_left types many = many
front_few end (t ∷ front) cs (suc k) [] below many = many
front_few end (t ∷ front) cs (suc k) (u ∷ types) below (inl wrong) = never_matters end wrong.0
front_few end (t ∷ front) cs (suc k) (u ∷ types) below (inr many) = front_few end front cs k types (omega arith) many

large_behind : (front : List Ty) (cs : List Constraint) (k : ℕ) → AreLarge (take (k + 1) (map asked front ++ cs)) → length front ≤ k
large_behind front cs k large = by_case (cases_lt k (length front))
  where
    by_case : (k < length front) ⊎ (length front ≤ k) → length front ≤ k
    by_case (inl less) =
        let here : AreLarge (take (suc k) (map asked front ++ cs)) = subst (λ n. AreLarge (take n (map asked front ++ cs))) (add-one k) large in
        absurd (front_few (end_of (take (suc k) (map asked front ++ cs))) front cs k here.0 less here.2)
    by_case (inr le) = le

-- a first part with one constraint at least begins with one
taken_first : (cs : List Constraint) (j : ℕ) → j < length cs → (c : Constraint) × (rest : List Constraint) × (take (j + 1) cs ≡ c ∷ rest)
taken_first [] j below = absurd (let wrong : j < 0 = below in omega arith)
taken_first (c ∷ cs) j below = (c, take j cs, ap (λ n. take n (c ∷ cs)) (add-one j))

pub first_large_left : (front : List Ty) → Each IsPlain front → (cs : List Constraint) (k : ℕ) → IsFirstLarge (map asked front ++ cs) k → IsBehind front k (IsFirstLarge cs)
first_large_left front plain cs k large =
    let at = beyond (length front) k (large_behind front cs k large.large) in
    let fine : AllFine (take (length front + at.0) (map asked front ++ cs)) = subst (λ n. AllFine (take n (map asked front ++ cs))) at.1 large.fine in
    let within : length front + at.0 < length front + length cs = subst (λ n. length front + at.0 < n) (length_asked front cs) (subst (λ n. n < length (map asked front ++ cs)) at.1 large.within) in
    let first = taken_first cs at.0 (omega arith) in
    let here : AreLarge (map asked front ++ take (at.0 + 1) cs) =
    subst AreLarge (take_asked front cs (at.0 + 1)) (subst (λ n. AreLarge (take n (map asked front ++ cs))) (next_number (length front) at.0) (subst (λ n. AreLarge (take (n + 1) (map asked front ++ cs))) at.1 large.large)) in
    record {
      number = at.0;
      is = at.1;
      so = record {
        within = omega arith;
        fine = fine_before front plain cs at.0 fine;
        large = subst AreLarge (sym first.2) (large_left front plain first.0 first.1 (subst (λ ds. AreLarge (map asked front ++ ds)) first.2 here));
      };
    }

-- ---- of the steps

taken_steps : (k : ℕ) (steps : List Step) → take k (constraints_of steps) ≡ constraints_of (take k steps)
taken_steps zero steps = refl
taken_steps (suc k) [] = refl
taken_steps (suc k) (step ∷ steps) = ap (λ cs. constraint_of step ∷ cs) (taken_steps k steps)

steps_length : (steps : List Step) → length (constraints_of steps) ≡ length steps
steps_length [] = refl
steps_length (step ∷ steps) = ap suc (steps_length steps)

pub steps_fine : (steps : List Step) → AllFine (constraints_of steps) → walk.AllFine false steps
steps_fine steps fine k le = (subst AreFine (taken_steps k steps) (fine k (subst (λ n. k ≤ n) (sym (steps_length steps)) le)), λ ends. refl)

pub solved_met : (σ : Grounding) (steps : List Step) → Solves σ (equations_of (constraints_of steps)) → Meets σ steps
solved_met σ [] solves = tt
solved_met σ (step ∷ steps) solves = (solves.0, solved_met σ steps solves.1)

pub met_solved : (σ : Grounding) (steps : List Step) → Meets σ steps → Solves σ (equations_of (constraints_of steps))
met_solved σ [] meets = tt
met_solved σ (step ∷ steps) meets = (meets.0, met_solved σ steps meets.1)

-- the place of the step of that number
abbrev pub IsPlace : List Step → ℕ → Span → Type 0
IsPlace steps j at = (step : Step) × (slice_get steps j ≡ Some step) × (at ≡ step.at)

pub ill_typed_at : (steps : List Step) (j : ℕ) (at : Span) → IsFirstUnmet (constraints_of steps) j → IsPlace steps j at → IsIllTyped false steps at
ill_typed_at steps j at unmet place = record {
  number = j;
  step = place.0;
  found = place.1;
  here = place.2;
  fine = steps_fine (take j steps) (subst AllFine (taken_steps j steps) unmet.fine);
  none = λ can. unmet.none (can.0, subst (λ cs. Solves can.0 (equations_of cs)) (sym (taken_steps (j + 1) steps)) (met_solved can.0 (take (j + 1) steps) can.1));
}

pub too_large_at : (steps : List Step) (j : ℕ) (at : Span) → IsFirstLarge (constraints_of steps) j → IsPlace steps j at → IsTooLarge false steps at
too_large_at steps j at large place =
    let here : AreLarge (constraints_of (take (j + 1) steps)) = subst AreLarge (taken_steps (j + 1) steps) large.large in
    record {
      number = j;
      step = place.0;
      found = place.1;
      here = place.2;
      fine = steps_fine (take j steps) (subst AllFine (taken_steps j steps) large.fine);
      some = (here.1.some.0, solved_met here.1.some.0 (take (j + 1) steps) here.1.some.1);
      large_here = inl here;
    }
