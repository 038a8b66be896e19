-- The first equation with which what is said can't hold is that of the step that is ill typed.
use Rattle.std.proofs.Common.{◌≡◌, ℕ, zero, suc, ◌+◌, ◌<◌, ◌≤◌, ◌⊎◌, inl, inr, Bool, false, List, [], ◌∷◌, length, take, Option, Some, None, slice_get, refl, sym, ap, subst, subst₂, ◌∙◌}
use Rattle.std.specs.Prelude.{Result, Ok, Err, IfOk, IfSome, IfNone}
use native.Mathlib.Omega.{arith}
use Rattle.lk_ast.specs.declared.memory.NoMemory.{NoMemory}
use Rattle.lk_ast.specs.Tables.{tables_of}
use Rattle.lk_ast.specs.declared.declaration.Program.{Program}
use Rattle.lk_ast.specs.declared.place.Span.{Span}
use Rattle.lk_types.specs.Each.{Each}
use Rattle.lk_types.specs.Grounding.{Grounding}
use Rattle.lk_types.specs.Solutions.{HasSolution, IsMet, Solves}
use Rattle.lk_types.specs.declared.equation.Equation.{Equation}
use Rattle.lk_types.specs.declared.ty.Ty.{Ty}
use Rattle.lk_typing.specs.Steps.{equation_of, CanBeMet, Meets}
use Rattle.lk_typing.specs.declared.step.Step.{Step}
use Rattle.lk_unify.specs.Constraints.{AreFine}
use Rattle.lk_unify.specs.Solving.{IsFirstWithout}
use Rattle.lk_infer.proofs.FirstSteps.{solved_met}
use Rattle.lk_infer.specs.Disagreements.{all_said, AreAtOdds, AreMade, AreUntold, EndsAtOdds, IsFinding, IsReading, IsRefused, IsUntold, NoneAtOdds}
use Rattle.lk_infer.specs.Programs.{Ends}
use Rattle.lk_infer.specs.Refusals.{constraints_of, AllFine, IsIllTyped, IsTooLarge}
use Rattle.lk_infer.specs.declared.disagreement.Disagreement.{Disagreement}
use Rattle.lk_infer.specs.declared.error.InferError.{InferError}
use Rattle.lk_infer.specs.declared.error.InferError.TheVariants as errors
use Rattle.lk_unify.specs.InOrder.{IsInOrder}

abbrev pub Answer : Type 0
Answer = Result (Option Disagreement) NoMemory

-- ---- first parts

each_less : {A : Type 0} (P : A → Type 0) (j k : ℕ) (xs : List A) → j ≤ k → Each P (take k xs) → Each P (take j xs)
each_less P zero k xs le all = tt
each_less P (suc j) zero xs le all = absurd (omega arith)
each_less P (suc j) (suc k) [] le all = tt
each_less P (suc j) (suc k) (x ∷ xs) le all = (all.0, each_less P j k xs (omega arith) all.1)

compared : (m n : ℕ) → (m < n) ⊎ ((n < m) ⊎ (m ≡ n))
compared zero zero = inr (inr refl)
compared zero (suc n) = inl (omega arith)
compared (suc m) zero = inr (inl (omega arith))
compared (suc m) (suc n) = by_case (compared m n)
  where
    by_case : (m < n) ⊎ ((n < m) ⊎ (m ≡ n)) → (suc m < suc n) ⊎ ((suc n < suc m) ⊎ (suc m ≡ suc n))
    by_case (inl less) = inl (omega arith)
    by_case (inr (inl more)) = inr (inl (omega arith))
    by_case (inr (inr same)) = inr (inr (ap suc same))

whole_part : (steps : List Step) → take (length steps) steps ≡ steps
whole_part [] = refl
whole_part (step ∷ steps) = ap (λ rest. step ∷ rest) (whole_part steps)

said_taken : (k : ℕ) (steps : List Step) → take k (all_said steps) ≡ all_said (take k steps)
said_taken zero steps = refl
said_taken (suc k) [] = refl
said_taken (suc k) (step ∷ steps) = ap (λ es. equation_of step.said ∷ es) (said_taken k steps)

said_at : (steps : List Step) (n : ℕ) (step : Step) → slice_get steps n ≡ Some step → slice_get (all_said steps) n ≡ Some (equation_of step.said)
said_at [] n step found = cc
said_at (s ∷ steps) zero step found = let same : s ≡ step = cc in ap (λ it. Some (equation_of it.said)) same
said_at (s ∷ steps) (suc n) step found = said_at steps n step found

some_same : {A : Type 0} (o : Option A) (a b : A) → o ≡ Some a → o ≡ Some b → a ≡ b
some_same o a b first second = cc

-- ---- what is met

met_said : (σ : Grounding) (steps : List Step) → Meets σ steps → Solves σ (all_said steps)
met_said σ [] meets = tt
met_said σ (step ∷ steps) meets = (meets.0, met_said σ steps meets.1)

said_met : (σ : Grounding) (steps : List Step) → Solves σ (all_said steps) → Meets σ steps
said_met σ [] solves = tt
said_met σ (step ∷ steps) solves = (solves.0, said_met σ steps solves.1)

fine_met : (large : Bool) (steps : List Step) → AllFine large steps → CanBeMet steps
fine_met large steps fine =
    let whole : AreFine (constraints_of steps) = subst (λ part. AreFine (constraints_of part)) (whole_part steps) (fine (length steps) (omega arith)).0 in
    (whole.1.some.0, solved_met whole.1.some.0 steps whole.1.some.1)

module _ (large : Bool) (steps : List Step) (at : Span) (ill : IsIllTyped large steps at) where
  -- not all can be met
  pub never_met : HasSolution (all_said steps) → ⊥
  never_met solution = ill.none (solution.0, said_met solution.0 (take (ill.number + 1) steps) (subst (Solves solution.0) (said_taken (ill.number + 1) steps) (part (ill.number + 1) (all_said steps) solution.1)))
    where
      part : (n : ℕ) (es : List Equation) → Solves solution.0 es → Solves solution.0 (take n es)
      part zero es solves = tt
      part (suc n) [] solves = tt
      part (suc n) (e ∷ es) solves = (solves.0, part n es solves.1)

  module _ (k : ℕ) (first : IsFirstWithout (all_said steps) k) where
    same_number : k ≡ ill.number
    same_number = by_case (compared k ill.number)
      where
        by_case : (k < ill.number) ⊎ ((ill.number < k) ⊎ (k ≡ ill.number)) → k ≡ ill.number
        by_case (inl less) =
            let met = fine_met large (take ill.number steps) ill.fine in
            let solves : Solves met.0 (take ill.number (all_said steps)) = subst (Solves met.0) (sym (said_taken ill.number steps)) (met_said met.0 (take ill.number steps) met.1) in
            absurd (first.none (met.0, each_less (IsMet met.0) (k + 1) ill.number (all_said steps) (omega arith) solves))
        by_case (inr (inl more)) =
            let solves : Solves first.before.0 (take (ill.number + 1) (all_said steps)) = each_less (IsMet first.before.0) (ill.number + 1) k (all_said steps) (omega arith) first.before.1 in
            absurd (ill.none (first.before.0, said_met first.before.0 (take (ill.number + 1) steps) (subst (Solves first.before.0) (said_taken (ill.number + 1) steps) solves)))
        by_case (inr (inr same)) = same

    module _ (others : List Equation) (e : Equation) (before : others ≡ take k (all_said steps)) (found : slice_get (all_said steps) k ≡ Some e) where
      others_are : others ≡ all_said (take ill.number steps)
      others_are = before ∙ ap (λ n. take n (all_said steps)) same_number ∙ said_taken ill.number steps

      equation_is : e ≡ equation_of ill.step.said
      equation_is = some_same (slice_get (all_said steps) ill.number) e (equation_of ill.step.said) (subst (λ n. slice_get (all_said steps) n ≡ Some e) same_number found) (said_at steps ill.number ill.step ill.found)

      at_odds : (left right : Ty) → AreMade e others left right → AreAtOdds large steps left right
      at_odds left right made = record {
        number = ill.number;
        step = ill.step;
        found = ill.found;
        fine = ill.fine;
        none = ill.none;
        made = subst₂ (λ x xs. AreMade x xs left right) equation_is others_are made;
      }

      untold : AreUntold e others → IsUntold large steps
      untold are = record {
        number = ill.number;
        step = ill.step;
        found = ill.found;
        fine = ill.fine;
        none = ill.none;
        untold = subst₂ AreUntold equation_is others_are are;
      }

      finding : (found : Option Disagreement) → IsReading e others found → IsFinding large steps found
      finding (Some it) reading = (at_odds it.left it.right reading.0, reading.1, reading.2)
      finding None are = inl (untold are)

      pub found_of : (r : Answer) → IfOk r (IsReading e others) → IfOk r (IsFinding large steps)
      found_of (Ok found) reading = finding found reading
      found_of (Err error) reading = reading

-- ---- of a program

pub order_found : (large : Bool) (steps : List Step) (r : Answer) → IfOk r (IsFinding large steps) → IfOk r (λ found. IfSome found (λ it. IsInOrder it.left × IsInOrder it.right))
order_found large steps (Ok (Some it)) finding = (finding.1, finding.2)
order_found large steps (Ok None) finding = tt
order_found large steps (Err error) finding = tt

-- what is so of the answer of a walk at which a program ends
module _ (program : Program) (large : Bool) (steps : List Step) (ends : (P : Bool → List Step → Type 0) → P large steps → Ends (tables_of program) P false [] program.decls) where
  pub odds_found : (r : Answer) → IfOk r (IsFinding large steps) → IfOk r (λ found. IfSome found (λ it. EndsAtOdds program it.left it.right))
  odds_found (Ok (Some it)) finding = ends (λ large steps. AreAtOdds large steps it.left it.right) finding.0
  odds_found (Ok None) finding = tt
  odds_found (Err error) finding = tt

  pub none_found : (r : Answer) → IfOk r (IsFinding large steps) → IfOk r (λ found. IfNone found (NoneAtOdds program))
  none_found (Ok (Some it)) finding = tt
  none_found (Ok None) (inl untold) = NoneAtOdds.untold (ends IsUntold untold)
  none_found (Ok None) (inr far) = NoneAtOdds.too_large far.0 (ends (λ large steps. IsTooLarge large steps far.0) far.1)
  none_found (Err error) finding = tt

-- what a refusal says of the walk
pub refused : (large : Bool) (steps : List Step) (error : InferError) → ((at : Span) → error ≡ errors.IllTyped at → IsIllTyped large steps at)
    → ((at : Span) → error ≡ errors.TypeTooLarge at → IsTooLarge large steps at) → IsRefused large steps error
refused large steps (errors.IllTyped at) ill far = ill at refl
refused large steps (errors.TypeTooLarge at) ill far = far at refl
refused large steps errors.NoMemory ill far = tt
