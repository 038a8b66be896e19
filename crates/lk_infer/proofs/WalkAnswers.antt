-- What unification answers of the constraints of a walk, said of its steps.
use Rattle.std.proofs.Common.{◌≡◌, ℕ, zero, suc, ◌+◌, ◌<◌, Bool, false, List, [], ◌∷◌, ◌++◌, length, map, Some, slice_get, get_or, refl, sym, ap, subst, ◌∙◌}
use native.Mathlib.Omega.{arith}
use Rattle.lk_ast.specs.declared.place.Span.{Span}
use Rattle.lk_types.proofs.Members.{each_both}
use Rattle.lk_types.specs.Each.{Each}
use Rattle.lk_types.specs.declared.ty.Ty.{Ty}
use Rattle.lk_typing.specs.declared.step.Step.{Step}
use Rattle.lk_unify.specs.Constraints as unify
use Rattle.lk_unify.specs.Constraints.{IsFirstUnmet, IsFirstLarge}
use Rattle.lk_unify.specs.declared.constraint.Constraint.{Constraint}
use Rattle.lk_infer.proofs.FirstSteps.{IsBehind, IsPlace, all_fine_left, unmet_left, first_large_left, steps_fine, ill_typed_at, too_large_at}
use Rattle.lk_infer.specs.Refusals.{constraints_of, AllFine, IsIllTyped, IsTooLarge}
use Rattle.lk_infer.specs.Walked.{asked, walk_constraints, places_of, IsPlain, IsNumber}
use Rattle.lk_walk.specs.declared.group.GroupWalk.{GroupWalk}

both_asked : (ts us : List Ty) (cs : List Constraint) → map asked ts ++ (map asked us ++ cs) ≡ map asked (ts ++ us) ++ cs
both_asked [] us cs = refl
both_asked (t ∷ ts) us cs = ap (λ ds. asked t ∷ ds) (both_asked ts us cs)

both_length : (ts us : List Ty) → length (ts ++ us) ≡ length ts + length us
both_length [] us = let same : length us ≡ 0 + length us = omega arith in same
both_length (t ∷ ts) us = let rest : length (ts ++ us) ≡ length ts + length us = both_length ts us in omega arith

abbrev pub nowhere : Span
nowhere = record { start = 0; end = 0 }

place_there : (steps : List Step) (j : ℕ) → j < length steps → IsPlace steps j (get_or (places_of steps) j nowhere)
place_there [] j below = absurd (let wrong : j < 0 = below in omega arith)
place_there (step ∷ steps) zero below = (step, refl, refl)
place_there (step ∷ steps) (suc j) below = place_there steps j (omega arith)

places_length : (steps : List Step) → length (places_of steps) ≡ length steps
places_length [] = refl
places_length (step ∷ steps) = ap suc (places_length steps)

constraints_length : (steps : List Step) → length (constraints_of steps) ≡ length steps
constraints_length [] = refl
constraints_length (step ∷ steps) = ap suc (constraints_length steps)

module _ (walk : GroupWalk) (functions : Each IsPlain walk.functions) (nodes : Each IsPlain walk.nodes) (cs : List Constraint) (is : cs ≡ walk_constraints walk)
    (asked_count : ℕ) (count_is : asked_count ≡ length walk.functions + length walk.nodes) (places : List Span) (places_are : places ≡ places_of walk.steps) where
  abbrev front : List Ty
  front = walk.functions ++ walk.nodes

  plain : Each IsPlain front
  plain = each_both IsPlain walk.functions walk.nodes functions nodes

  whole : cs ≡ map asked front ++ constraints_of walk.steps
  whole = is ∙ both_asked walk.functions walk.nodes (constraints_of walk.steps)

  front_count : length front ≡ asked_count
  front_count = both_length walk.functions walk.nodes ∙ sym count_is

  pub walk_fine : unify.AllFine cs → AllFine false walk.steps
  walk_fine fine = steps_fine walk.steps (all_fine_left front plain (constraints_of walk.steps) (subst unify.AllFine whole fine))

  unmet_behind : (k : ℕ) → IsFirstUnmet cs k → IsBehind front k (IsFirstUnmet (constraints_of walk.steps))
  unmet_behind k unmet = unmet_left front plain (constraints_of walk.steps) k (subst (λ ds. IsFirstUnmet ds k) whole unmet)

  large_behind : (k : ℕ) → IsFirstLarge cs k → IsBehind front k (IsFirstLarge (constraints_of walk.steps))
  large_behind k large = first_large_left front plain (constraints_of walk.steps) k (subst (λ ds. IsFirstLarge ds k) whole large)

  number_by : (k j : ℕ) → k ≡ length front + j → j < length (constraints_of walk.steps) → IsNumber (length places) asked_count k
  number_by k j at below =
      (j, at ∙ ap (λ n. n + j) front_count, subst (λ n. j < n) (constraints_length walk.steps ∙ sym (places_length walk.steps) ∙ ap length (sym places_are)) below)

  pub unmet_number : (k : ℕ) → IsFirstUnmet cs k → IsNumber (length places) asked_count k
  unmet_number k unmet = let b = unmet_behind k unmet in number_by k b.number b.is b.so.within

  pub large_number : (k : ℕ) → IsFirstLarge cs k → IsNumber (length places) asked_count k
  large_number k large = let b = large_behind k large in number_by k b.number b.is b.so.within

  place_by : (k j : ℕ) → k ≡ length front + j → j < length (constraints_of walk.steps) → (at : Span) → ((i : ℕ) → k ≡ asked_count + i → at ≡ get_or places i nowhere) → IsPlace walk.steps j at
  place_by k j is below at found =
      subst (IsPlace walk.steps j) (sym (found j (is ∙ ap (λ n. n + j) front_count) ∙ ap (λ ps. get_or ps j nowhere) places_are))
      (place_there walk.steps j (subst (λ n. j < n) (constraints_length walk.steps) below))

  pub ill_typed_here : (k : ℕ) → IsFirstUnmet cs k → (at : Span) → ((i : ℕ) → k ≡ asked_count + i → at ≡ get_or places i nowhere) → IsIllTyped false walk.steps at
  ill_typed_here k unmet at found =
      let b = unmet_behind k unmet in
      ill_typed_at walk.steps b.number at b.so (place_by k b.number b.is b.so.within at found)

  pub too_large_here : (k : ℕ) → IsFirstLarge cs k → (at : Span) → ((i : ℕ) → k ≡ asked_count + i → at ≡ get_or places i nowhere) → IsTooLarge false walk.steps at
  too_large_here k large at found =
      let b = large_behind k large in
      too_large_at walk.steps b.number at b.so (place_by k b.number b.is b.so.within at found)
