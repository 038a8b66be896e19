-- What unification says of the constraints of a walk, said of its steps: types that are only read back stand before them, of which
-- nothing is said.
use Rattle.std.proofs.Common.{◌≡◌, ℕ, zero, suc, ◌+◌, ◌<◌, ◌≤◌, ◌⊎◌, inl, inr, Bool, true, false, List, [], ◌∷◌, ◌++◌, length, map, take, Option, Some, None, IsSome, slice_get, refl, sym, ap, subst, ◌∙◌}
use native.Mathlib.Omega.{arith}
use Rattle.lk_types.proofs.Members.{each_both, each_back}
use Rattle.lk_types.specs.Each.{Each}
use Rattle.lk_types.specs.Grounding.{Grounding, under}
use Rattle.lk_types.specs.Sizes.{most_nodes, nodes}
use Rattle.lk_types.specs.Solutions.{HasSolution, IsMet, Solves}
use Rattle.lk_types.specs.Variables.{equation_variables, variables_of}
use Rattle.lk_types.specs.declared.equation.Equation.{Equation}
use Rattle.lk_types.specs.declared.ty.Ty.{Ty}
use Rattle.lk_types.specs.declared.ty.Variable.{Variable}
use Rattle.lk_arena.specs.Openings.{Opening, OpensTo}
use Rattle.lk_typing.specs.Steps.{Meets, CanBeMet}
use Rattle.lk_typing.specs.Unknowns.{same}
use Rattle.lk_typing.specs.declared.step.Step.{Step}
use Rattle.lk_unify.specs.Constraints.{equations_of, AreSides, Makes, AreFew, AreTooMany, AreFine, AreLarge, AllFine, IsFirstUnmet, IsFirstLarge, end_of, matters}
use Rattle.lk_unify.specs.declared.constraint.Constraint.{Constraint}
use Rattle.lk_unify.specs.declared.constraint.Sizing.{Sizing}
use Rattle.lk_unify.specs.declared.constraint.Sizing.TheVariants.{Always, Late, Never}
use Rattle.lk_infer.specs.Refusals.{constraints_of, constraint_of}
use Rattle.lk_infer.specs.Walked.{asked, IsPlain}

-- ---- types that are only read back

-- whatever stands for the variables, they hold
pub asked_met : (σ : Grounding) (ts : List Ty) → Each IsPlain ts → Solves σ (equations_of (map asked ts))
asked_met σ [] plain = tt
asked_met σ (t ∷ ts) plain = (by_some (under σ t) refl (plain.0 σ), asked_met σ ts plain.1)
  where
    by_some : (o : Option _) → under σ t ≡ o → IsSome o → IsMet σ (same t t)
    by_some None is some = cc
    by_some (Some g) is some = (g, is, is)

variables_after : (P : Variable → Type 0) (es fs : List Equation) → Each P (equation_variables (es ++ fs)) → Each P (equation_variables fs)
variables_after P [] fs each = each
variables_after P (e ∷ es) fs each =
    variables_after P es fs (each_back P (variables_of e.right) (equation_variables (es ++ fs)) (each_back P (variables_of e.left) (variables_of e.right ++ equation_variables (es ++ fs)) each))

-- types of some sides before others
pub record Split (ρ : Opening) (es fs : List Equation) (types : List Ty) : Type 0 where
  pub front : List Ty
  pub back : List Ty
  pub is : types ≡ front ++ back
  pub as_many : length front ≡ length es
  pub makes : Makes ρ fs back

pub split : (ρ : Opening) (es fs : List Equation) (types : List Ty) → Makes ρ (es ++ fs) types → Split ρ es fs types
split ρ [] fs types makes = record { front = []; back = types; is = refl; as_many = refl; makes = makes }
split ρ (e ∷ es) fs [] makes = absurd makes
split ρ (e ∷ es) fs (t ∷ types) makes =
    let rest = split ρ es fs types makes.2 in
    record { front = t ∷ rest.front; back = rest.back; is = ap (λ ts. t ∷ ts) rest.is; as_many = ap suc rest.as_many; makes = rest.makes }

pub maps_append : (cs ds : List Constraint) → equations_of (cs ++ ds) ≡ equations_of cs ++ equations_of ds
maps_append [] ds = refl
maps_append (c ∷ cs) ds = ap (λ es. c.equation ∷ es) (maps_append cs ds)

-- ---- what is said of a list with such types before it

sides_left : (front : List Ty) → Each IsPlain front → (cs : List Constraint) (types : List Ty) → AreSides (equations_of (map asked front ++ cs)) types
    → (back : List Ty) × AreSides (equations_of cs) back × ((fs : List Ty) × (types ≡ fs ++ back) × (length fs ≡ length front))
sides_left front plain cs types sides =
    let both : equations_of (map asked front ++ cs) ≡ equations_of (map asked front) ++ equations_of cs = maps_append (map asked front) cs in
    let parts = split sides.opening (equations_of (map asked front)) (equations_of cs) types (subst (λ es. Makes sides.opening es types) both sides.sides) in
    let some : Solves sides.some.0 (equations_of (map asked front) ++ equations_of cs) = subst (Solves sides.some.0) both sides.some.1 in (
      parts.back,
      record {
        some = (sides.some.0, each_back (IsMet sides.some.0) (equations_of (map asked front)) (equations_of cs) some);
        opening = sides.opening;
        sides = parts.makes;
        general = λ σ solves.
            let all : Solves σ (equations_of (map asked front) ++ equations_of cs) = each_both (IsMet σ) (equations_of (map asked front)) (equations_of cs) (asked_met σ front plain) solves in
            let found = sides.general σ (subst (Solves σ) (sym both) all) in (
              found.0,
              variables_after (λ x. OpensTo found.0 sides.opening σ x) (equations_of (map asked front)) (equations_of cs)
                  (subst (λ es. Each (OpensTo found.0 sides.opening σ) (equation_variables es)) both found.1),
            );
      },
      (parts.front, parts.is, parts.as_many ∙ lengths front),
    )
  where
    lengths : (ts : List Ty) → length (equations_of (map asked ts)) ≡ length ts
    lengths [] = refl
    lengths (t ∷ ts) = ap suc (lengths ts)

-- the last sizing is that of the steps where there are steps
end_behind : (front : List Ty) (c : Constraint) (cs : List Constraint) → end_of (map asked front ++ c ∷ cs) ≡ end_of (c ∷ cs)
end_behind [] c cs = refl
end_behind (t ∷ []) c cs = refl
end_behind (t ∷ u ∷ front) c cs = end_behind (u ∷ front) c cs

few_after : (end : Option Sizing) (fs : List Ty) (front : List Ty) (cs : List Constraint) (ts : List Ty) → length fs ≡ length front
    → AreFew end (map asked front ++ cs) (fs ++ ts) → AreFew end cs ts
few_after end [] [] cs ts fit few = few
few_after end [] (t ∷ front) cs ts fit few = absurd (let wrong : 0 ≡ suc (length front) = fit in omega arith)
few_after end (f ∷ fs) [] cs ts fit few = absurd (let wrong : suc (length fs) ≡ 0 = fit in omega arith)
few_after end (f ∷ fs) (t ∷ front) cs ts fit few = few_after end fs front cs ts (omega arith) few.1

pub never_matters : (end : Option Sizing) → matters end Never ≡ true → ⊥
never_matters None e = cc
never_matters (Some Always) e = cc
never_matters (Some Late) e = cc
never_matters (Some Never) e = cc

many_after : (end : Option Sizing) (fs : List Ty) (front : List Ty) (cs : List Constraint) (ts : List Ty) → length fs ≡ length front
    → AreTooMany end (map asked front ++ cs) (fs ++ ts) → AreTooMany end cs ts
many_after end [] [] cs ts fit many = many
many_after end [] (t ∷ front) cs ts fit many = absurd (let wrong : 0 ≡ suc (length front) = fit in omega arith)
many_after end (f ∷ fs) [] cs ts fit many = absurd (let wrong : suc (length fs) ≡ 0 = fit in omega arith)
many_after end (f ∷ fs) (t ∷ front) cs ts fit (inl wrong) = absurd (never_matters end wrong.0)
many_after end (f ∷ fs) (t ∷ front) cs ts fit (inr many) = many_after end fs front cs ts (omega arith) many

-- what is fine with them is fine without them
pub fine_left : (front : List Ty) → Each IsPlain front → (cs : List Constraint) → AreFine (map asked front ++ cs) → AreFine cs
fine_left front plain [] fine =
    let left = sides_left front plain [] fine.0 fine.1 in
    (left.0, left.1, tt)
fine_left front plain (c ∷ cs) fine =
    let left = sides_left front plain (c ∷ cs) fine.0 fine.1 in
    let few : AreFew (end_of (c ∷ cs)) (map asked front ++ c ∷ cs) (left.2.0 ++ left.0) =
    subst (λ end. AreFew end (map asked front ++ c ∷ cs) (left.2.0 ++ left.0)) (end_behind front c cs) (subst (AreFew (end_of (map asked front ++ c ∷ cs)) (map asked front ++ c ∷ cs)) left.2.1 fine.2) in
    (left.0, left.1, few_after (end_of (c ∷ cs)) left.2.0 front (c ∷ cs) left.0 left.2.2 few)

pub large_left : (front : List Ty) → Each IsPlain front → (c : Constraint) (cs : List Constraint) → AreLarge (map asked front ++ c ∷ cs) → AreLarge (c ∷ cs)
large_left front plain c cs large =
    let left = sides_left front plain (c ∷ cs) large.0 large.1 in
    let many : AreTooMany (end_of (c ∷ cs)) (map asked front ++ c ∷ cs) (left.2.0 ++ left.0) =
    subst (λ end. AreTooMany end (map asked front ++ c ∷ cs) (left.2.0 ++ left.0)) (end_behind front c cs) (subst (AreTooMany (end_of (map asked front ++ c ∷ cs)) (map asked front ++ c ∷ cs)) left.2.1 large.2) in
    (left.0, left.1, many_after (end_of (c ∷ cs)) left.2.0 front (c ∷ cs) left.0 left.2.2 many)
