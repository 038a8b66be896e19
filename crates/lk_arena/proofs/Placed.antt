-- Where parts come first in an order, a class has its place in it as a rank.
use Rattle.std.proofs.Common.{◌≡◌, ℕ, zero, suc, ◌<◌, Bool, true, false, ◌⊎◌, inl, inr, ⊎_elim, List, [], ◌∷◌, length, take, get_or, refl, sym, ◌∙◌, ap, subst, arith}
use Rattle.std.proofs.lemmas.Bool.{eqb-true, eq-eqb}
use Rattle.std.specs.Prelude.{◌==◌, cond}
use Rattle.lk_classes.specs.Classes.{class_at}
use Rattle.lk_types.specs.Each.{Each, OneOf}
use Rattle.lk_arena.proofs.EachLemmas.{Each-zip}
use Rattle.lk_arena.specs.Counting.{IsAmong, IsPartsFirst}
use Rattle.lk_arena.specs.Order.{IsRanked}
use Rattle.lk_arena.specs.Shapes.{shape_at, parts_of, IsArena}
use Rattle.lk_arena.specs.declared.node.Shape.{Shape}

abbrev place_of : List ℕ → ℕ → ℕ
place_of [] x = 0
place_of (d ∷ ds) x = cond (d == x) 0 (suc (place_of ds x))

-- at the first, or behind it
place_cases : (d : ℕ) (ds : List ℕ) (x : ℕ) → ((d ≡ x) × (place_of (d ∷ ds) x ≡ 0)) ⊎ ((d ≡ x → ⊥) × (place_of (d ∷ ds) x ≡ suc (place_of ds x)))
place_cases d ds x = by_test (d == x) refl
  where
    by_test : (b : Bool) → (d == x) ≡ b → ((d ≡ x) × (place_of (d ∷ ds) x ≡ 0)) ⊎ ((d ≡ x → ⊥) × (place_of (d ∷ ds) x ≡ suc (place_of ds x)))
    by_test true is = inl (eqb-true d x is, ap (λ b. cond b 0 (suc (place_of ds x))) is)
    by_test false is = inr (λ same. (let f : false ≡ true = sym is ∙ eq-eqb d x same in cc), ap (λ b. cond b 0 (suc (place_of ds x))) is)

place_behind : (ds : List ℕ) (d x : ℕ) → OneOf (λ d. d ≡ x) ds → (place_of ds x < length ds) × (get_or ds (place_of ds x) 0 ≡ x) →
    (place_of (d ∷ ds) x < length (d ∷ ds)) × (get_or (d ∷ ds) (place_of (d ∷ ds) x) 0 ≡ x)
place_behind ds d x o rest =
    ⊎_elim
    (λ (a : (d ≡ x) × (place_of (d ∷ ds) x ≡ 0)). ((let e = a.1 in omega arith), ap (λ k. get_or (d ∷ ds) k 0) a.1 ∙ a.0))
    (λ (b : (d ≡ x → ⊥) × (place_of (d ∷ ds) x ≡ suc (place_of ds x))). (
      (let e = b.1 in let l = rest.0 in omega arith),
      ap (λ k. get_or (d ∷ ds) k 0) b.1 ∙ rest.1,
    ))
    (place_cases d ds x)

place_at : (ds : List ℕ) (x : ℕ) → OneOf (λ d. d ≡ x) ds → (place_of ds x < length ds) × (get_or ds (place_of ds x) 0 ≡ x)
place_at [] x o = absurd o
place_at (d ∷ ds) x (inl is) =
    ⊎_elim
    (λ (a : (d ≡ x) × (place_of (d ∷ ds) x ≡ 0)). ((let e = a.1 in omega arith), ap (λ k. get_or (d ∷ ds) k 0) a.1 ∙ a.0))
    (λ (b : (d ≡ x → ⊥) × (place_of (d ∷ ds) x ≡ suc (place_of ds x))). absurd (b.0 is))
    (place_cases d ds x)
place_at (d ∷ ds) x (inr o) = place_behind ds d x o (place_at ds x o)

place_first : (k : ℕ) (ds : List ℕ) (x : ℕ) → OneOf (λ d. d ≡ x) (take k ds) → place_of ds x < k
place_first zero ds x o = absurd o
place_first (suc k) [] x o = absurd o
place_first (suc k) (d ∷ ds) x (inl is) =
    ⊎_elim
    (λ (a : (d ≡ x) × (place_of (d ∷ ds) x ≡ 0)). let e = a.1 in omega arith)
    (λ (b : (d ≡ x → ⊥) × (place_of (d ∷ ds) x ≡ suc (place_of ds x))). absurd (b.0 is))
    (place_cases d ds x)
place_first (suc k) (d ∷ ds) x (inr o) =
    let ih = place_first k ds x o in
    ⊎_elim
    (λ (a : (d ≡ x) × (place_of (d ∷ ds) x ≡ 0)). let e = a.1 in omega arith)
    (λ (b : (d ≡ x → ⊥) × (place_of (d ∷ ds) x ≡ suc (place_of ds x))). let e = b.1 in omega arith)
    (place_cases d ds x)

module _ (shapes : List Shape) (classes : List ℕ) (order : List ℕ) (arena : IsArena shapes classes) (first : IsPartsFirst shapes classes order) where
  abbrev pub place : ℕ → ℕ
  place i = place_of order (class_at classes i)

  found : (i : ℕ) → i < length shapes → (place i < length order) × (get_or order (place i) 0 ≡ class_at classes i)
  found i b = place_at order (class_at classes i) (first.whole (class_at classes i) (arena.named.below i b) (arena.named.named i b))

  placed : IsRanked shapes classes place
  placed i b named =
      let at = found i b in
      let here : get_or order (place i) 0 ≡ i = at.1 ∙ named in
      Each-zip (IsAmong classes (take (place i) order)) (λ p. p < length shapes) (λ p. place (class_at classes p) < place i)
      (λ p among below.
      let same : class_at classes (class_at classes p) ≡ class_at classes p = arena.named.named p below in
      subst (λ c. place_of order c < place i) (sym same) (place_first (place i) order (class_at classes p) among))
      (parts_of (shape_at shapes i))
      (subst (λ c. Each (IsAmong classes (take (place i) order)) (parts_of (shape_at shapes c))) here (first.parts (place i) at.0))
      (arena.nodes i b)

  -- all places are in the order
  pub places : (rank : ℕ → ℕ) × IsRanked shapes classes rank × ((i : ℕ) → i < length shapes → rank i < length order)
  places = (place, placed, λ i b. (found i b).0)
