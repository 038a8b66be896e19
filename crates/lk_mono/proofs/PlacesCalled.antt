-- The places of instances that are listed for the uses among nodes, found by where the uses begin.
use Rattle.std.proofs.Common.{◌≡◌, refl, sym, ap, subst, ◌∙◌, arith, ℕ, Bool, true, false, ◌||◌, ◌==◌, if◌then◌else◌, List, [], ◌∷◌, ◌++◌, map, Some, None, slice_get}
use Rattle.std.proofs.lemmas.Bool.Decides.{nat_tests}
use Rattle.std.proofs.lemmas.Bool.{eqb-true}
use Rattle.std.proofs.lemmas.Option.{none-some}
use Rattle.lk_ground_types.proofs.Variables.{number_self}
use Rattle.lk_ground.specs.Language.{at_place}
use Rattle.lk_ground.specs.Sites.{PlacedUse, use_at}
use Rattle.lk_index.specs.Places.{IsNone, AreApart}
use Rattle.lk_mono.proofs.PlacedUses.{placed, use_placed}
use Rattle.lk_mono.specs.Grounded.{AreCalled}
use Rattle.lk_mono.specs.Grounded as grounded
use Rattle.lk_sound.specs.Nodes.{Use, TypedNode}
use Rattle.lk_types.proofs.Members.{each_weaker}
use Rattle.lk_types.specs.Each.{Each}

abbrev pub sites : List PlacedUse → List ℕ
sites uses = map (λ u. u.site) uses

other_number : (m n : ℕ) → (m ≡ n → ⊥) → (m == n) ≡ false
other_number m n other = grind (arith, nat_tests)

-- a place that is found isn't that of none
not_none : (uses : List PlacedUse) (places : List ℕ) (site n m : ℕ) → at_place uses places site ≡ Some n → IsNone m (sites uses) → m ≡ site → ⊥
not_none [] places site n m found none same = none-some n found
not_none (u ∷ uses) [] site n m found none same = none-some n found
not_none (u ∷ uses) (place ∷ places) site n m found none same = by_test (u.site == site) refl found (λ later. not_none uses places site n m later none.1 same)
  where
    by_test : (b : Bool) → (u.site == site) ≡ b → (if b then Some place else at_place uses places site) ≡ Some n → (at_place uses places site ≡ Some n → ⊥) → ⊥
    by_test true here found later = none.0 (same ∙ sym (eqb-true u.site site here))
    by_test false other found later = later found

-- it is found behind a use that begins elsewhere than all others
found_behind : (u : PlacedUse) (uses : List PlacedUse) (place : ℕ) (places : List ℕ) (site n : ℕ) → IsNone u.site (sites uses) → at_place uses places site ≡ Some n → at_place (u ∷ uses) (place ∷ places) site ≡ Some n
found_behind u uses place places site n none found =
    ap (λ b. if b then Some place else at_place uses places site) (other_number u.site site (not_none uses places site n u.site found none)) ∙ found

found_here : (u : PlacedUse) (uses : List PlacedUse) (place : ℕ) (places : List ℕ) → at_place (u ∷ uses) (place ∷ places) u.site ≡ Some place
found_here u uses place places = ap (λ b. if b then Some place else at_place uses places u.site) (number_self u.site)

module _ (mains helpers : List Use) (in_helper : Bool) where
  -- what a node uses is the instance at the place that is found where it begins, in the list in which it stands
  abbrev pub IsLed : List PlacedUse → List ℕ → TypedNode → Type 0
  IsLed uses places node = (u : Use) → node.part.use_of ≡ Some u
      → (n : ℕ) × (at_place uses places node.part.span.start ≡ Some n) × (slice_get (if in_helper || node.part.inside then helpers else mains) n ≡ Some u)

  behind : (v : PlacedUse) (uses : List PlacedUse) (place : ℕ) (places : List ℕ) → IsNone v.site (sites uses) → (node : TypedNode) → IsLed uses places node → IsLed (v ∷ uses) (place ∷ places) node
  behind v uses place places none node led u is =
      let found : (n : ℕ) × (at_place uses places node.part.span.start ≡ Some n) × (slice_get (if in_helper || node.part.inside then helpers else mains) n ≡ Some u) = led u is in
      (found.0, found_behind v uses place places node.part.span.start found.0 none found.1, found.2)

  here : (node : TypedNode) (u : Use) (uses : List PlacedUse) (place : ℕ) (places : List ℕ) → node.part.use_of ≡ Some u
      → slice_get (if in_helper || node.part.inside then helpers else mains) place ≡ Some u → IsLed (use_at u.name node.part.span.start ∷ uses) (place ∷ places) node
  here node u uses place places is at w is_w =
      let same : u ≡ w = cc in
      (place, found_here (use_at u.name node.part.span.start) uses place places, at ∙ ap Some same)

  -- a node that uses nothing places nothing
  no_use : (node : TypedNode) (nodes : List TypedNode) → node.part.use_of ≡ None → placed (node ∷ nodes) ≡ placed nodes
  no_use node nodes is = ap (λ o. use_placed node.part.span.start o ++ placed nodes) is

  one_use : (node : TypedNode) (nodes : List TypedNode) (u : Use) → node.part.use_of ≡ Some u → placed (node ∷ nodes) ≡ use_at u.name node.part.span.start ∷ placed nodes
  one_use node nodes u is = ap (λ o. use_placed node.part.span.start o ++ placed nodes) is

  pub places_called : (nodes : List TypedNode) (places : List ℕ) → AreCalled mains helpers in_helper nodes places → AreApart (sites (placed nodes)) → Each (IsLed (placed nodes) places) nodes
  places_called [] [] grounded.AreCalled.none apart = tt
  places_called [] (place ∷ places) called apart = elim called [ ]
  places_called (node ∷ nodes) places (grounded.AreCalled.other is more) apart =
      let same : placed (node ∷ nodes) ≡ placed nodes = no_use node nodes is in
      subst (λ uses. Each (IsLed uses places) (node ∷ nodes)) (sym same)
      (λ u uses. absurd (none-some u (sym is ∙ uses)), places_called nodes places more (subst (λ uses. AreApart (sites uses)) same apart))
  places_called (node ∷ nodes) (place ∷ places) (grounded.AreCalled.called {u} is at more) apart =
      let same : placed (node ∷ nodes) ≡ use_at u.name node.part.span.start ∷ placed nodes = one_use node nodes u is in
      let both : AreApart (sites (use_at u.name node.part.span.start ∷ placed nodes)) = subst (λ uses. AreApart (sites uses)) same apart in
      subst (λ uses. Each (IsLed uses (place ∷ places)) (node ∷ nodes)) (sym same) (
        here node u (placed nodes) place places is at,
        each_weaker (IsLed (placed nodes) places) (IsLed (use_at u.name node.part.span.start ∷ placed nodes) (place ∷ places)) (behind (use_at u.name node.part.span.start) (placed nodes) place places both.0) nodes
            (places_called nodes places more both.1),
      )
