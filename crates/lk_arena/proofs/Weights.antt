-- The weight of nodes and classes under the steps of merging.
use Rattle.std.proofs.Common.{◌≡◌, ◌≢◌, ℕ, zero, suc, ◌+◌, ◌<◌, ◌≤◌, ⊎_elim, Bool, true, false, List, [], ◌∷◌, ◌++◌, length, refl, sym, ◌∙◌, ap, subst, arith}
use Rattle.std.proofs.lemmas.Bool.{cases_eq, eq-eqb, ne_eqb}
use Rattle.std.specs.Prelude.{◌==◌}
use Rattle.lk_types.specs.Each.{Each}
use Rattle.lk_arena.proofs.Growth.{more_count, old_shape, new_shape, old_class, new_class}
use Rattle.lk_arena.proofs.Relabel.{IsRelabeled, class_cases}
use Rattle.lk_arena.specs.Measures.{worth, worth_at, total_below, weight}
use Rattle.lk_classes.specs.Classes.{class_at, AreClasses}
use Rattle.lk_arena.specs.Shapes.{shape_at, parts_of, IsArena}
use Rattle.lk_arena.specs.Steps.{AreApart}
use Rattle.lk_arena.specs.declared.node.Shape.{Shape}
use Rattle.lk_arena.specs.declared.node.Shape.TheVariants.{Free, Open, Empty, Made}
use Rattle.lk_arena.specs.declared.node.Shape.TheVariants as shape

-- ---- sums

total-le : (f g : ℕ → ℕ) (n : ℕ) → ((i : ℕ) → i < n → f i ≤ g i) → total_below f n ≤ total_below g n
total-le f g zero h = omega arith
total-le f g (suc n) h = let first = h n (omega arith) in let rest = total-le f g n (λ i b. h i (omega arith)) in omega arith

total-lt : (f g : ℕ → ℕ) (n k : ℕ) → ((i : ℕ) → i < n → f i ≤ g i) → k < n → f k < g k → total_below f n < total_below g n
total-lt f g zero k h below less = absurd (omega arith)
total-lt f g (suc n) k h below less =
    ⊎_elim
    (λ (e : k ≡ n). let first : f n < g n = subst (λ i. f i < g i) e less in let rest = total-le f g n (λ i b. h i (omega arith)) in omega arith)
    (λ (ne : k ≡ n → ⊥). let first = h n (omega arith) in let rest = total-lt f g n k (λ i b. h i (omega arith)) (omega arith) less in omega arith)
    (cases_eq k n)

total-same : (f g : ℕ → ℕ) (n : ℕ) → ((i : ℕ) → i < n → f i ≡ g i) → total_below f n ≡ total_below g n
total-same f g zero h = refl
total-same f g (suc n) h = let first = h n (omega arith) in let rest = total-same f g n (λ i b. h i (omega arith)) in omega arith

-- ---- what a node counts

unnamed : (s : Shape) (b : Bool) → b ≡ false → worth b s ≡ 0
unnamed s b e = ap (λ b. worth b s) e

a_class : (s : Shape) → 1 ≤ worth true s
a_class Free = omega arith
a_class Open = omega arith
a_class Empty = omega arith
a_class (Made h ps) = omega arith
a_class (shape.Row fs t) = omega arith

-- ---- one class put into another

module _ (shapes : List Shape) (old new : List ℕ) (from to : ℕ) (c : AreClasses (length shapes) old) (d : AreApart (length shapes) old from to) (r : IsRelabeled old new from to) where
  no_name : (i : ℕ) → class_at new i ≢ i → worth_at shapes new i ≡ 0
  no_name i ne = unnamed (shape_at shapes i) (class_at new i == i) (ne_eqb (class_at new i) i ne)

  worth-le : (i : ℕ) → i < length shapes → worth_at shapes new i ≤ worth_at shapes old i
  worth-le i h =
      ⊎_elim
      (λ (p : (class_at old i ≡ from) × (class_at new i ≡ to)).
      let apart : class_at new i ≢ i = λ e. d.apart (sym p.0 ∙ ap (class_at old) (sym e ∙ p.1) ∙ d.to_named) in
      let none : worth_at shapes new i ≡ 0 = no_name i apart in
      omega arith)
      (λ (p : (class_at old i ≢ from) × (class_at new i ≡ class_at old i)).
      let same : worth_at shapes new i ≡ worth_at shapes old i = ap (λ k. worth (k == i) (shape_at shapes i)) p.1 in
      omega arith)
      (class_cases (length shapes) old new from to c d r i h)

  worth-lt : worth_at shapes new from < worth_at shapes old from
  worth-lt =
      ⊎_elim
      (λ (p : (class_at old from ≡ from) × (class_at new from ≡ to)).
      let none : worth_at shapes new from ≡ 0 = no_name from (λ e. d.apart (sym e ∙ p.1)) in
      let was : worth_at shapes old from ≡ worth true (shape_at shapes from) = ap (λ b. worth b (shape_at shapes from)) (eq-eqb (class_at old from) from p.0) in
      let some = a_class (shape_at shapes from) in
      omega arith)
      (λ (p : (class_at old from ≢ from) × (class_at new from ≡ class_at old from)). absurd (p.0 d.from_named))
      (class_cases (length shapes) old new from to c d r from d.from_below)

  pub weight-unite : weight shapes new < weight shapes old
  unfolding weight
  weight-unite = total-lt (worth_at shapes new) (worth_at shapes old) (length shapes) from worth-le d.from_below worth-lt

-- ---- a new node

module _ (shapes : List Shape) (classes : List ℕ) (s : Shape) (arena : IsArena shapes classes) (parts : Each (λ p. p < length shapes) (parts_of s)) where
  abbrev after : ℕ → ℕ
  after = worth_at (shapes ++ s ∷ []) (classes ++ length shapes ∷ [])

  same : (i : ℕ) → i < length shapes → after i ≡ worth_at shapes classes i
  same i h = (λ k. worth (old_class shapes classes s arena parts i h k == i) (old_shape shapes classes s arena parts i h k))

  last : after (length shapes) ≡ worth true s
  last =
      (λ k. worth (new_class shapes classes s arena parts k == length shapes) (new_shape shapes classes s arena parts k))
      ∙ ap (λ b. worth b s) (eq-eqb (length shapes) (length shapes) refl)

  pushed : total_below after (length (shapes ++ s ∷ [])) ≡ total_below (worth_at shapes classes) (length shapes) + worth true s
  pushed =
      let count : length (shapes ++ s ∷ []) ≡ suc (length shapes) = (let m = more_count shapes classes s arena parts in omega arith) in
      let sum : total_below after (length (shapes ++ s ∷ [])) ≡ after (length shapes) + total_below after (length shapes) = ap (total_below after) count in
      let rest = total-same after (worth_at shapes classes) (length shapes) same in
      let own = last in
      omega arith

pub weight-push : (shapes : List Shape) (classes : List ℕ) (s : Shape) (more : List Shape) (names : List ℕ) → IsArena shapes classes → Each (λ p. p < length shapes) (parts_of s) → more ≡ shapes ++ s ∷ []
    → names ≡ classes ++ length shapes ∷ [] → weight more names ≡ weight shapes classes + worth true s
unfolding weight
weight-push shapes classes s more names arena parts a b = rw (a, b) (pushed shapes classes s arena parts)

-- ---- a row of which something is known now

pub weight-bind : (shapes new : List Shape) (classes : List ℕ) (node : ℕ) (fs : List _) (t : ℕ) → length new ≡ length shapes → node < length shapes → class_at classes node ≡ node
    → shape_at shapes node ≡ Open → shape_at new node ≡ shape.Row fs t → ((i : ℕ) → i ≢ node → shape_at new i ≡ shape_at shapes i)
    → weight new classes < weight shapes classes
unfolding weight
weight-bind shapes new classes node fs t count below named is now others =
    rw count (total-lt (worth_at new classes) (worth_at shapes classes) (length shapes) node less below here)
  where
    name : (class_at classes node == node) ≡ true
    name = eq-eqb (class_at classes node) node named

    here : worth_at new classes node < worth_at shapes classes node
    here =
        let after : worth_at new classes node ≡ 1 = (λ i. worth (name i) (now i)) in
        let before : worth_at shapes classes node ≡ 2 = (λ i. worth (name i) (is i)) in
        omega arith

    less : (i : ℕ) → i < length shapes → worth_at new classes i ≤ worth_at shapes classes i
    less i h =
        ⊎_elim
        (λ (e : i ≡ node). subst (λ k. worth_at new classes k ≤ worth_at shapes classes k) (sym e) (omega (arith, here)))
        (λ (ne : i ≢ node). let same : worth_at new classes i ≡ worth_at shapes classes i = ap (λ s. worth (class_at classes i == i) s) (others i ne) in omega arith)
        (cases_eq i node)
