-- One class put into another: values that fit are those that fitted and have one value at both.
use Rattle.std.proofs.Common.{◌≡◌, ◌≢◌, ℕ, zero, suc, ◌<◌, List, [], ◌∷◌, map, length, refl, sym, ◌∙◌, ap, subst, ◌⊎◌, inl, inr, ⊎_elim, arith}
use Rattle.std.proofs.lemmas.Bool.{cases_eq}
use Rattle.std.proofs.lemmas.Bool.Decides.{nat_tests}
use Rattle.lk_classes.specs.Classes.{AreClasses, class_at, relabeled}
use Rattle.lk_arena.specs.Covering.{SameCounts}
use Rattle.lk_arena.specs.Shapes.{shape_at, Respects, IsArena, FitsNodes, IsBuilt, BuildsBut, WeakNodes}
use Rattle.lk_arena.specs.Steps.{AreApart}
use Rattle.lk_arena.specs.Values.{Value}
use Rattle.lk_arena.specs.declared.node.Shape.{Shape}

pub relabeled_cases : (a b c : ℕ) → ((c ≡ a) × (relabeled a b c ≡ b)) ⊎ ((c ≢ a) × (relabeled a b c ≡ c))
relabeled_cases a b c = grind (arith, nat_tests)

pub record IsRelabeled (old new : List ℕ) (from to : ℕ) : Type 0 where
  pub count : length new ≡ length old
  pub each : (k : ℕ) → k < length old → class_at new k ≡ relabeled from to (class_at old k)

-- the list of names in which each is another one
pub renamed_each : (old : List ℕ) (from to : ℕ) → IsRelabeled old (map (relabeled from to) old) from to
renamed_each old from to = record { count = as_many old; each = at old }
  where
    as_many : (classes : List ℕ) → length (map (relabeled from to) classes) ≡ length classes
    as_many [] = refl
    as_many (c ∷ cs) = ap suc (as_many cs)

    at : (classes : List ℕ) (k : ℕ) → k < length classes → class_at (map (relabeled from to) classes) k ≡ relabeled from to (class_at classes k)
    at [] k below = let no : ⊥ = omega arith in absurd no
    at (c ∷ cs) zero below = refl
    at (c ∷ cs) (suc k) below = at cs k (omega arith)

module _ (n : ℕ) (old new : List ℕ) (from to : ℕ) (c : AreClasses n old) (d : AreApart n old from to) (r : IsRelabeled old new from to) where
  pub class_cases : (i : ℕ) → i < n → ((class_at old i ≡ from) × (class_at new i ≡ to)) ⊎ ((class_at old i ≢ from) × (class_at new i ≡ class_at old i))
  class_cases i h =
      let e : class_at new i ≡ relabeled from to (class_at old i) = r.each i (omega (arith, c.count)) in
      ⊎_elim (λ p. inl (p.0, e ∙ p.1)) (λ p. inr (p.0, e ∙ p.1)) (relabeled_cases from to (class_at old i))

  pub new_at : (i : ℕ) → i < n → class_at old i ≡ i → i ≢ from → class_at new i ≡ i
  new_at i h e ne = ⊎_elim (λ p. absurd (ne (sym e ∙ p.0))) (λ p. p.1 ∙ e) (class_cases i h)

  new_from : class_at new from ≡ to
  new_from = ⊎_elim (λ p. p.1) (λ p. absurd (p.0 d.from_named)) (class_cases from d.from_below)

  new_to : class_at new to ≡ to
  new_to = new_at to d.to_below d.to_named (λ e. d.apart (sym e))

  pub AreClasses-relabel : AreClasses n new
  AreClasses-relabel = record {
    count = r.count ∙ c.count;
    below = λ i h. ⊎_elim (λ p. let e : class_at new i ≡ to = p.1 in let b : to < n = d.to_below in omega (arith, e))
        (λ p. let e : class_at new i ≡ class_at old i = p.1 in let b : class_at old i < n = c.below i h in omega (arith, e)) (class_cases i h);
    named = λ i h. ⊎_elim (λ p. ap (class_at new) p.1 ∙ new_to ∙ sym p.1)
        (λ p. ap (class_at new) p.1 ∙ new_at (class_at old i) (c.below i h) (c.named i h) p.0 ∙ sym p.1) (class_cases i h);
  }

  module _ (w : ℕ → Value) where
    pub same_from_to : Respects new w → w from ≡ w to
    same_from_to h = h from (let b : from < n = d.from_below in omega (arith, r.count, c.count)) ∙ ap w new_from

    pub Respects-old : Respects new w → Respects old w
    Respects-old h i l =
        let below : i < n = omega (arith, c.count) in
        let e : w i ≡ w (class_at new i) = h i (omega (arith, r.count)) in
        ⊎_elim (λ p. e ∙ ap w p.1 ∙ sym (same_from_to h) ∙ ap w (sym p.0)) (λ p. e ∙ ap w p.1) (class_cases i below)

    pub Respects-new : Respects old w → w from ≡ w to → Respects new w
    Respects-new h s i l =
        let below : i < n = omega (arith, c.count, r.count) in
        let e : w i ≡ w (class_at old i) = h i (omega (arith, r.count)) in
        ⊎_elim (λ p. e ∙ ap w p.0 ∙ s ∙ ap w (sym p.1)) (λ p. e ∙ ap w (sym p.1)) (class_cases i below)

module _ (shapes : List Shape) (old new : List ℕ) (from to : ℕ) (arena : IsArena shapes old) (d : AreApart (length shapes) old from to) (r : IsRelabeled old new from to) where
  pub relabel_arena : IsArena shapes new
  relabel_arena = record { nodes = arena.nodes; named = AreClasses-relabel (length shapes) old new from to arena.named d r; distinct = arena.distinct; filled = arena.filled }

  pub relabel_back : (v : ℕ → Value) → FitsNodes shapes new v → FitsNodes shapes old v × (v from ≡ v to)
  relabel_back v fits = (
    record { builds = fits.builds; respects = Respects-old (length shapes) old new from to arena.named d r v fits.respects },
    same_from_to (length shapes) old new from to arena.named d r v fits.respects,
  )

  pub relabel_forth : (v : ℕ → Value) → FitsNodes shapes old v → v from ≡ v to → FitsNodes shapes new v
  relabel_forth v fits e = record { builds = fits.builds; respects = Respects-new (length shapes) old new from to arena.named d r v fits.respects e }

-- ---- values that fit at the names of classes

-- numbers of the nodes
module _ (n : ℕ) (old new : List ℕ) (from to : ℕ) (classes : AreClasses n old) (d : AreApart n old from to) (r : IsRelabeled old new from to) (c : ℕ → ℕ) (same : SameCounts new c) where
  pub count_from_to : c from ≡ c to
  count_from_to = same from (let b : from < n = d.from_below in omega (arith, r.count, classes.count)) ∙ ap c (new_from n old new from to classes d r)

  pub same_counts_old : SameCounts old c
  same_counts_old i l =
      let h : i < n = omega (arith, classes.count) in
      let e : c i ≡ c (class_at new i) = same i (omega (arith, r.count)) in
      ⊎_elim (λ p. e ∙ ap c p.1 ∙ sym count_from_to ∙ ap c (sym p.0)) (λ p. e ∙ ap c p.1) (class_cases n old new from to classes d r i h)

-- with what fits at the hole
pub weak_whole : (ss : List Shape) (cs : List ℕ) (hole : ℕ) (v : ℕ → Value) → BuildsBut hole ss cs v → Respects cs v → IsBuilt (shape_at ss hole) v (v hole) → WeakNodes ss cs v
weak_whole ss cs hole v but respects built = record {
  builds = λ i h n. ⊎_elim (λ (e : i ≡ hole). subst (λ k. IsBuilt (shape_at ss k) v (v k)) (sym e) built) (λ (ne : i ≡ hole → ⊥). but i h n ne) (cases_eq i hole);
  respects = respects;
}
