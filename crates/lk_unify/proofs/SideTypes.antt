-- The types that the values of nodes make of the sides of the equations that the nodes say.
use Rattle.std.proofs.Common.{◌≡◌, ℕ, zero, suc, ◌<◌, ◌≤◌, true, inl, inr, List, [], ◌∷◌, length, map, take, Option, Some, refl, sym, ◌∙◌, ap, subst, arith}
use Rattle.std.proofs.lemmas.List.{length-take-le, take-map, take_all}
use Rattle.std.specs.Option.{option_map}
use Rattle.std.specs.Prelude.{IfOk, Result, Ok, Err}
use Rattle.std.proofs.lemmas.Option.{same_Some}
use Rattle.lk_types.specs.Each.{Each}
use Rattle.lk_types.specs.Solutions.{HasSolution}
use Rattle.lk_types.specs.Variables.{equation_variables}
use Rattle.lk_types.specs.declared.equation.Equation.{Equation}
use Rattle.lk_types.specs.declared.ty.Ty.{Ty}
use Rattle.lk_unify.proofs.Decided.{says_all}
use Rattle.lk_unify.proofs.Generality.{instance_by, opens_all}
use Rattle.lk_unify.proofs.Loadeds.{sides_below}
use Rattle.lk_unify.proofs.OwnInOrder.{types_in_order}
use Rattle.lk_unify.proofs.SolvedForm.{own_solves}
use Rattle.lk_unify.proofs.Within.{own_agrees, own_nodes, own_by_names, its_count, whole_sides, IsSideWith}
use Rattle.lk_arena.specs.Counting.{saturated, count_at, AreCountsOf, IsPartsFirst}
use Rattle.lk_arena.specs.Kinds.{Kind, OfTypes}
use Rattle.lk_arena.specs.Openings.{Opening, IsOpenMet, opened}
use Rattle.lk_arena.specs.Values.{Value, Plain}
use Rattle.lk_arena.specs.declared.counting.Count.{Count}
use Rattle.lk_unify.specs.Constraints.{matters, AreFirstSides, AreSides, Makes}
use Rattle.lk_unify.specs.InOrder.{IsInOrder}
use Rattle.lk_unify.specs.Levels.{CanReadAll}
use Rattle.lk_unify.specs.Loading.{IsKinded}
use Rattle.lk_unify.specs.Models.{IsOwn}
use Rattle.lk_unify.specs.Nodes.{count}
use Rattle.lk_unify.specs.Reading.{opening_by, type_in, IsNaming}
use Rattle.lk_unify.specs.SideSizes.{AreAllWithin, HasFew, HasMany, IsOneBeyond, OwnSides}
use Rattle.lk_unify.specs.Small.{OwnNodes}
use Rattle.lk_unify.specs.Solving.{AreLoaded, IsSide}
use Rattle.lk_unify.specs.Solving.{AreSides as AreSideNodes}
use Rattle.lk_unify.specs.declared.constraint.Sizing.{Sizing}
use Rattle.lk_unify.specs.declared.loader.Loader.{Loader}

first_each : {A : Type 0} (P : A → Type 0) (n : ℕ) (xs : List A) → Each P xs → Each P (take n xs)
first_each P zero xs each = tt
first_each P (suc n) [] each = tt
first_each P (suc n) (x ∷ xs) each = (each.0, first_each P n xs each.1)

-- ---- what the sides become

module _ {es : List Equation} (o : OwnNodes es) where
  abbrev pub its_opening : Opening
  its_opening = opening_by o.loader o.values

  abbrev pub type_at : ℕ → Ty
  type_at n = type_in (o.values n)

  pub type_is : (e : Equation) (n : ℕ) (t : Ty) → IsSide o.loader e n → opened its_opening e.left ≡ Some t → t ≡ type_at n
  type_is e n t side is = ap type_in (same_Some (Plain t) (o.values n) (sym (ap (option_map Plain) is) ∙ side.meaning o.values its_opening o.own.fits (own_agrees o)))

  pub side_made : (e : Equation) (n : ℕ) → IsSide o.loader e n → IsOpenMet its_opening e → (opened its_opening e.left ≡ Some (type_at n)) × (opened its_opening e.right ≡ Some (type_at n))
  side_made e n side met =
      let is : met.0 ≡ type_at n = type_is e n met.0 side met.1 in
      (met.1 ∙ ap Some is, met.2 ∙ ap Some is)

  pub sides_made : (xs : List Equation) (ns : List ℕ) → AreSideNodes o.loader xs ns → Each (IsOpenMet its_opening) xs → Makes its_opening xs (map type_at ns)
  sides_made [] [] sides met = tt
  sides_made (e ∷ xs) (n ∷ ns) sides met = let made = side_made e n sides.0 met.0 in (made.0, made.1, sides_made xs ns sides.1 met.1)
  sides_made [] (n ∷ ns) sides met = absurd sides
  sides_made (e ∷ xs) [] sides met = absurd sides

  -- and each solution is an instance
  pub are_sides : HasSolution es → (types : List Ty) → Makes its_opening es types → AreSides es types
  are_sides solution types makes = record {
    some = solution;
    opening = its_opening;
    sides = makes;
    general = λ σ solves. (
      instance_by o.loader o.kind o.kinded o.rank o.ranked o.name o.owner o.naming o.values o.own es o.says σ solves,
      opens_all o.loader o.kind o.kinded o.rank o.ranked o.name o.owner o.naming o.values o.own es o.says σ solves (equation_variables es) o.bound,
    );
  }

  abbrev pub own_sides : (ns : List ℕ) → AreSideNodes o.loader es ns → OwnSides es
  own_sides ns sides = record { own = o; types = map type_at ns; makes = sides_made es ns sides (own_solves es o) }

types_many : (ρ : Opening) (es : List Equation) (ts : List Ty) → Makes ρ es ts → length ts ≡ length es
types_many ρ [] [] makes = refl
types_many ρ (e ∷ es) (t ∷ ts) makes = ap suc (types_many ρ es ts makes.2)
types_many ρ [] (t ∷ ts) makes = absurd makes
types_many ρ (e ∷ es) [] makes = absurd makes

-- as many as there are equations are all
pub all_sides : (es : List Equation) (types : List Ty) → AreFirstSides (length es) es types → AreSides es types
all_sides es types first =
    let many : length first.0 ≡ length es = types_many first.1.opening es first.0 first.1.sides in
    subst (AreSides es) (sym (first.2 ∙ take_all (length es) first.0 (omega (arith, many)))) first.1

pub all_if_ok : {E : Type 0} (es : List Equation) (count : ℕ) (r : Result (List Ty) E) → count ≡ length es → IfOk r (AreFirstSides count es) → IfOk r (AreSides es)
all_if_ok es count (Ok types) many first = all_sides es types (subst (λ n. AreFirstSides n es types) many first)
all_if_ok es count (Err e) many first = tt

-- ---- their counts

module _ (closed : ℕ) {es : List Equation} (o : OwnNodes es) (counts : List Count) (counted : AreCountsOf (λ p. closed) o.loader.arena.shapes o.loader.arena.classes counts) (end : Option Sizing) where
  abbrev count_of : ℕ → ℕ
  count_of n = (count_at o.loader.arena.classes counts n).as_type

  count_is : (e : Equation) (n : ℕ) → IsSide o.loader e n → o.kind n ≡ OfTypes → count_of n ≡ saturated (count closed (type_at o n))
  unfolding IsSideWith
  count_is e n side kind =
      let is = its_count closed o counts counted e n side kind in
      subst (λ t. count_of n ≡ saturated (count closed t)) (type_is o e n is.0 side is.1) is.2

  pub types_within : (xs : List Equation) (ns : List ℕ) (ss : List Sizing) → AreSideNodes o.loader xs ns → Each (λ n. o.kind n ≡ OfTypes) ns →
      AreAllWithin end ss (map count_of ns) → AreAllWithin end ss (map (count closed) (map (type_at o) ns))
  types_within [] [] [] sides types all = tt
  types_within [] [] (s ∷ ss) sides types all = tt
  types_within (e ∷ xs) (n ∷ ns) [] sides types all = tt
  types_within (e ∷ xs) (n ∷ ns) (s ∷ ss) sides types all = (
    (λ (m : matters end s ≡ true). let is = count_is e n sides.0 types.0 in let bound = all.0 m in omega arith),
    types_within xs ns ss sides.1 types.1 all.1,
  )
  types_within [] (n ∷ ns) ss sides types all = absurd sides
  types_within (e ∷ xs) [] ss sides types all = absurd sides

  pub type_beyond : (xs : List Equation) (ns : List ℕ) (ss : List Sizing) → AreSideNodes o.loader xs ns → Each (λ n. o.kind n ≡ OfTypes) ns →
      IsOneBeyond end ss (map count_of ns) → IsOneBeyond end ss (map (count closed) (map (type_at o) ns))
  type_beyond [] [] [] sides types one = absurd one
  type_beyond [] [] (s ∷ ss) sides types one = absurd one
  type_beyond (e ∷ xs) (n ∷ ns) [] sides types one = absurd one
  type_beyond (e ∷ xs) (n ∷ ns) (s ∷ ss) sides types (inl beyond) = inl (beyond.0, (let is = count_is e n sides.0 types.0 in let more = beyond.1 in omega arith))
  type_beyond (e ∷ xs) (n ∷ ns) (s ∷ ss) sides types (inr one) = inr (type_beyond xs ns ss sides.1 types.1 one)
  type_beyond [] (n ∷ ns) ss sides types one = absurd sides
  type_beyond (e ∷ xs) [] ss sides types one = absurd sides

-- ---- as they are loaded

sides_many : (l : Loader) (es : List Equation) (ns : List ℕ) → AreSideNodes l es ns → length ns ≡ length es
sides_many l [] [] sides = refl
sides_many l (e ∷ es) (n ∷ ns) sides = ap suc (sides_many l es ns sides.1)
sides_many l [] (n ∷ ns) sides = absurd sides
sides_many l (e ∷ es) [] sides = absurd sides

pub sides_so_many : (l : Loader) (sides : List ℕ) (es : List Equation) (k : ℕ) → k ≤ length es → AreLoaded l sides es k → length sides ≡ k
sides_so_many l sides es k within loaded = sides_many l (take k es) sides loaded.sides_are ∙ length-take-le k es within

module _ (l : Loader) (sides : List ℕ) (es : List Equation) (loaded : AreLoaded l sides es (length es)) where
  pub sides_as_many : length sides ≡ length es
  sides_as_many = sides_many l es sides (whole_sides l sides es loaded)

  module _ (solution : HasSolution es) (counts : List Count) (counted : AreCountsOf (λ p. 0) l.arena.shapes l.arena.classes counts) (end : Option Sizing) (ss : List Sizing) where
    abbrev own : OwnNodes es
    own = own_nodes l sides es loaded solution

    pub has_few : AreAllWithin end ss (map (λ n. (count_at l.arena.classes counts n).as_type) sides) → HasFew end es ss
    has_few all =
        (own_sides own sides (whole_sides l sides es loaded), types_within 0 own counts counted end es sides ss (whole_sides l sides es loaded) loaded.types all)

    pub has_many : IsOneBeyond end ss (map (λ n. (count_at l.arena.classes counts n).as_type) sides) → HasMany end es ss
    has_many one =
        (own_sides own sides (whole_sides l sides es loaded), type_beyond 0 own counts counted end es sides ss (whole_sides l sides es loaded) loaded.types one)

  -- ---- as they are read

  pub first_can : (count : ℕ) (numbers order : List ℕ) → length numbers ≡ length l.arena.shapes → IsPartsFirst l.arena.shapes l.arena.classes order →
      CanReadAll l.arena numbers order (take count sides)
  first_can count numbers order many first = record {
    arena = loaded.says.whole.arena;
    count = many;
    kind = loaded.kind;
    kinded = loaded.kinded.nodes;
    order_is = first;
    below = first_each (λ n. n < length l.arena.shapes) count sides (sides_below l es sides (whole_sides l sides es loaded));
    types = first_each (λ n. loaded.kind n ≡ OfTypes) count sides loaded.types;
  }

  pub read_first : (count : ℕ) (name : ℕ → ℕ) (types : List Ty) → HasSolution es → ((kind : ℕ → Kind) → IsKinded l kind → (owner : ℕ → ℕ) × IsNaming l kind name owner) →
      ((u : ℕ → Value) → IsOwn l.arena.shapes l.arena.classes name u → types ≡ map (λ n. type_in (u n)) (take count sides)) → AreFirstSides count es types
  read_first count name types solution names read =
      let naming : (owner : ℕ → ℕ) × IsNaming l loaded.kind name owner = names loaded.kind loaded.kinded in
      let o : OwnNodes es = own_by_names l es (says_all l sides es loaded) solution loaded.bound loaded.kind loaded.kinded name naming.0 naming.1 in (
        map (type_at o) sides,
        are_sides o solution (map (type_at o) sides) (sides_made o es sides (whole_sides l sides es loaded) (own_solves es o)),
        read o.values o.own ∙ sym (take-map (type_at o) count sides),
      )

  pub first_in_order : (count : ℕ) (name : ℕ → ℕ) (types : List Ty) → HasSolution es → ((kind : ℕ → Kind) → IsKinded l kind → (owner : ℕ → ℕ) × IsNaming l kind name owner) →
      ((u : ℕ → Value) → IsOwn l.arena.shapes l.arena.classes name u → types ≡ map (λ n. type_in (u n)) (take count sides)) → Each IsInOrder types
  first_in_order count name types solution names read =
      let naming : (owner : ℕ → ℕ) × IsNaming l loaded.kind name owner = names loaded.kind loaded.kinded in
      let o : OwnNodes es = own_by_names l es (says_all l sides es loaded) solution loaded.bound loaded.kind loaded.kinded name naming.0 naming.1 in
      subst (Each IsInOrder) (sym (read o.values o.own))
      (types_in_order l.arena.shapes l.arena.classes o.rank name o.values loaded.says.whole.arena o.ranked o.own (take count sides)
      (first_each (λ n. n < length l.arena.shapes) count sides (sides_below l es sides (whole_sides l sides es loaded))))
