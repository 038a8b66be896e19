-- Equations are small where constraints make none of their sides too large of which all sizes matter.
use Rattle.std.proofs.Common.{◌≡◌, ℕ, suc, zero, ◌+◌, ◌<◌, ◌≤◌, true, inl, inr, List, [], ◌∷◌, length, map, take, Option, refl, sym, ◌∙◌, ap, subst, arith}
use Rattle.std.proofs.lemmas.List.{length-take-le}
use Rattle.std.specs.Prelude.{replicate}
use Rattle.lk_types.specs.Each.{Each, OneOf}
use Rattle.lk_types.specs.Sizes.{most_nodes, AreSmall, IsFirstTooLarge}
use Rattle.lk_types.specs.Solutions.{HasSolution}
use Rattle.lk_types.specs.declared.equation.Equation.{Equation}
use Rattle.lk_types.specs.declared.ty.Ty.{Ty}
use Rattle.lk_unify.proofs.Fine.{fine, too_large, IsSideOf}
use Rattle.lk_unify.proofs.Firsts.{solution_first}
use Rattle.lk_unify.proofs.Joined.{equations_first, joined_first, joined_length, sizings_first}
use Rattle.lk_unify.proofs.Loadeds.{each_first}
use Rattle.lk_unify.proofs.SideTypes.{its_opening}
use Rattle.lk_unify.specs.Constraints.{end_of, equations_of, matters, Makes}
use Rattle.lk_unify.specs.Nodes.{count}
use Rattle.lk_unify.specs.SideSizes.{joined, AllMakeFew, AreAllWithin, HasFew, HasMany, IsFirstMany, IsOneBeyond}
use Rattle.lk_unify.specs.Small.{OwnNodes}
use Rattle.lk_unify.specs.declared.constraint.Sizing.{Sizing}
use Rattle.lk_unify.specs.declared.constraint.Sizing.TheVariants.{Always}

abbrev pub AllMatter : List Sizing → Type 0
AllMatter ss = Each (λ s. s ≡ Always) ss

pub always : (n : ℕ) → AllMatter (replicate n Always)
always zero = tt
always (suc n) = (refl, always n)

it_matters : (end : Option Sizing) (s : Sizing) → s ≡ Always → matters end s ≡ true
it_matters end s is = ap (matters end) is

-- ---- the sides

module _ {es : List Equation} (o : OwnNodes es) (end : Option Sizing) where
  each_within : (xs : List Equation) (ts : List Ty) (ss : List Sizing) → length ss ≡ length xs → AllMatter ss → Makes (its_opening o) xs ts →
      AreAllWithin end ss (map (count 0) ts) → Each (IsSideOf o (λ n. n ≤ most_nodes)) xs
  each_within [] ts ss same all makes within = tt
  each_within (e ∷ xs) ts [] same all makes within = absurd (omega arith)
  each_within (e ∷ xs) [] (s ∷ ss) same all makes within = absurd makes
  each_within (e ∷ xs) (t ∷ ts) (s ∷ ss) same all makes within =
      ((t, makes.0, within.0 (it_matters end s all.0)), each_within xs ts ss (omega arith) all.1 makes.2 within.1)

  one_beyond : (xs : List Equation) (ts : List Ty) (ss : List Sizing) → Makes (its_opening o) xs ts → IsOneBeyond end ss (map (count 0) ts) → OneOf (IsSideOf o (λ n. most_nodes < n)) xs
  one_beyond [] [] [] makes one = absurd one
  one_beyond [] [] (s ∷ ss) makes one = absurd one
  one_beyond [] (t ∷ ts) ss makes one = absurd makes
  one_beyond (e ∷ xs) ts [] makes one = absurd one
  one_beyond (e ∷ xs) [] (s ∷ ss) makes one = absurd makes
  one_beyond (e ∷ xs) (t ∷ ts) (s ∷ ss) makes (inl is) = inl (t, makes.0, is.1)
  one_beyond (e ∷ xs) (t ∷ ts) (s ∷ ss) makes (inr one) = inr (one_beyond xs ts ss makes.2 one)

-- ---- each first part

pub all_small : (es : List Equation) (ss : List Sizing) → length ss ≡ length es → AllMatter ss → HasSolution es → AllMakeFew (joined es ss) → AreSmall es
all_small es ss same all solution few k h =
    let whole = joined_length es ss same in
    let end : Option Sizing = end_of (take k (joined es ss)) in
    let has : HasFew end (take k es) (take k ss) =
    subst (λ xs. HasFew end xs (take k ss)) (equations_first es ss k same)
    (subst (λ ys. HasFew end (equations_of (take k (joined es ss))) ys) (sizings_first es ss k same) (few k (omega arith))) in
    let many : length (take k ss) ≡ k = length-take-le k ss (omega arith) in
    let as_many : length (take k es) ≡ k = length-take-le k es h in
    fine (take k es) has.0.own
    (each_within has.0.own end (take k es) has.0.types (take k ss) (many ∙ sym as_many) (each_first (λ s. s ≡ Always) k ss all) has.0.makes has.1) (solution_first es k solution)

pub first_too_large : (es : List Equation) (ss : List Sizing) → length ss ≡ length es → AllMatter ss → HasSolution es → (k : ℕ) → IsFirstMany (joined es ss) k → IsFirstTooLarge es k
first_too_large es ss same all solution k first =
    let whole = joined_length es ss same in
    let under = first.within in
    let end : Option Sizing = end_of (take (k + 1) (joined es ss)) in
    let has : HasMany end (take (k + 1) es) (take (k + 1) ss) =
    subst (λ xs. HasMany end xs (take (k + 1) ss)) (equations_first es ss (k + 1) same)
    (subst (λ ys. HasMany end (equations_of (take (k + 1) (joined es ss))) ys) (sizings_first es ss (k + 1) same) first.many) in
    let many : length (take k ss) ≡ k = length-take-le k ss (omega arith) in
    let as_many : length (take k es) ≡ k = length-take-le k es (omega arith) in
    record {
      within = omega arith;
      small =
          all_small (take k es) (take k ss) (many ∙ sym as_many) (each_first (λ s. s ≡ Always) k ss all) (solution_first es k solution)
          (subst AllMakeFew (joined_first es ss k) first.few);
      large = too_large (take (k + 1) es) has.0.own (one_beyond has.0.own end (take (k + 1) es) has.0.types (take (k + 1) ss) has.0.makes has.1) (solution_first es (k + 1) solution);
    }
