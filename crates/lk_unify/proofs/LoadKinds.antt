-- Kinds of the nodes that are loaded.
use Rattle.std.proofs.Common.{◌≡◌, ◌≢◌, ℕ, ◌<◌, ◌≤◌, ⊎_elim, List, [], ◌∷◌, ◌++◌, length, refl, sym, ◌∙◌, ap, subst, arith, Option, Some, cond}
use Rattle.std.proofs.lemmas.Bool.{cases_eq, eq-eqb, ne_eqb}
use Rattle.std.specs.Prelude.{◌==◌}
use Rattle.lk_types.proofs.Members.{each_weaker, each_from_map}
use Rattle.lk_types.specs.Each.{Each}
use Rattle.lk_arena.specs.Openings.{Opening}
use Rattle.lk_arena.proofs.EachLemmas.{Each-zip}
use Rattle.lk_arena.proofs.Growth.{old_shape, new_shape, old_class, new_class, map-each}
use Rattle.lk_unify.proofs.LoadSteps.{one_longer, more_to}
use Rattle.lk_arena.specs.Kinds.{Kind, OfTypes, OfFields, OfEffects, OfUnit, OfNothing, TakesKinds, HasKind, IsEffectName, AreKinded}
use Rattle.lk_unify.specs.Loading.{IsLoader, KindsTo, LoadsTo, Loads, Adds, Makes}
use Rattle.lk_classes.specs.Classes.{class_at}
use Rattle.lk_arena.specs.Shapes.{shape_at, parts_of, IsBuilt}
use Rattle.lk_arena.specs.Values.{Value}
use Rattle.lk_unify.specs.declared.loader.Loader.{Loader}
use Rattle.lk_arena.specs.declared.node.Head.{Head}
use Rattle.lk_arena.specs.declared.node.Head.TheVariants as head
use Rattle.lk_arena.specs.declared.node.Shape.{Shape}
use Rattle.lk_arena.specs.declared.node.Shape.TheVariants.{Free, Open, Empty, Made}
use Rattle.lk_arena.specs.declared.node.Shape.TheVariants as shape

-- ---- a shape's kind speaks of its parts alone

module _ (k j : ℕ → Kind) where
  is_unit : (h : Head) (ps : List ℕ) → Each (λ p. j p ≡ k p) ps → HasKind k OfUnit (Made h ps) → HasKind j OfUnit (Made h ps)
  is_unit head.Fields (p ∷ []) e b = e.0 ∙ b
  is_unit head.Fields [] e b = absurd b
  is_unit head.Fields (p ∷ q ∷ ps) e b = absurd b
  is_unit head.Int ps e b = absurd b
  is_unit head.Bool ps e b = absurd b
  is_unit head.Text ps e b = absurd b
  is_unit head.List ps e b = absurd b
  is_unit head.Tags ps e b = absurd b
  is_unit head.Fun ps e b = absurd b

  pub HasKind-same : (kind : Kind) (s : Shape) → Each (λ p. j p ≡ k p) (parts_of s) → HasKind k kind s → HasKind j kind s
  HasKind-same OfTypes Free e b = tt
  HasKind-same OfTypes (Made h ps) e b = subst (TakesKinds h) (map-each k j ps e) b
  HasKind-same OfTypes Open e b = absurd b
  HasKind-same OfTypes Empty e b = absurd b
  HasKind-same OfTypes (shape.Row fs t) e b = absurd b
  HasKind-same OfFields Free e b = absurd b
  HasKind-same OfFields (Made h ps) e b = absurd b
  HasKind-same OfFields Open e b = tt
  HasKind-same OfFields Empty e b = tt
  HasKind-same OfFields (shape.Row fs t) e b = (
    Each-zip (λ f. k f.node ≡ OfTypes) (λ f. j f.node ≡ k f.node) (λ f. j f.node ≡ OfTypes) (λ f p q. q ∙ p) fs b.0 (each_from_map (λ p. j p ≡ k p) (λ f. f.node) fs e.1),
    e.0 ∙ b.1,
  )
  HasKind-same OfEffects Free e b = absurd b
  HasKind-same OfEffects (Made h ps) e b = absurd b
  HasKind-same OfEffects Open e b = tt
  HasKind-same OfEffects Empty e b = tt
  HasKind-same OfEffects (shape.Row fs t) e b = (
    Each-zip (λ f. IsEffectName f.label × (k f.node ≡ OfUnit)) (λ f. j f.node ≡ k f.node) (λ f. IsEffectName f.label × (j f.node ≡ OfUnit)) (λ f p q. (p.0, q ∙ p.1)) fs b.0
        (each_from_map (λ p. j p ≡ k p) (λ f. f.node) fs e.1),
    e.0 ∙ b.1,
  )
  HasKind-same OfUnit Free e b = absurd b
  HasKind-same OfUnit (Made h ps) e b = is_unit h ps e b
  HasKind-same OfUnit Open e b = absurd b
  HasKind-same OfUnit Empty e b = absurd b
  HasKind-same OfUnit (shape.Row fs t) e b = absurd b
  HasKind-same OfNothing Free e b = absurd b
  HasKind-same OfNothing (Made h ps) e b = absurd b
  HasKind-same OfNothing Open e b = absurd b
  HasKind-same OfNothing Empty e b = tt
  HasKind-same OfNothing (shape.Row fs t) e b = absurd b

-- ---- steps

pub kinds_nothing : (l : Loader) → KindsTo l l (λ j. Unit {0})
kinds_nothing l = record { local = λ k j s p. tt; kinds = λ k kinded. (k, (λ i h. refl), kinded, tt) }

pub kinds_both : (a b c : Loader) (P Q : (ℕ → Kind) → Type 0) → length a.arena.shapes ≤ length b.arena.shapes → length b.arena.shapes ≤ length c.arena.shapes → KindsTo a b P → KindsTo b c Q → KindsTo a c (λ j. P j × Q j)
kinds_both a b c P Q first second f g = record {
  local = λ k j s p. (f.local k j (λ i h. s i (omega arith)) p.0, g.local k j s p.1);
  kinds = λ k kinded.
      let p = f.kinds k kinded in
      let q = g.kinds p.0 p.2 in
      (q.0, (λ i h. q.1 i (omega arith) ∙ p.1 i h), q.2, (f.local p.0 q.0 q.1 p.3, q.3));
}

-- what comes behind alone
pub kinds_behind : (a b c : Loader) (P Q : (ℕ → Kind) → Type 0) → length a.arena.shapes ≤ length b.arena.shapes → length b.arena.shapes ≤ length c.arena.shapes → KindsTo a b P → KindsTo b c Q → KindsTo a c Q
kinds_behind a b c P Q first second f g = record {
  local = g.local;
  kinds = λ k kinded. let p = (kinds_both a b c P Q first second f g).kinds k kinded in (p.0, p.1, p.2, p.3.1);
}

pub kinds_as : (a b : Loader) (P Q : (ℕ → Kind) → Type 0) → ((j : ℕ → Kind) → P j → Q j) → ((j : ℕ → Kind) → Q j → P j) → KindsTo a b P → KindsTo a b Q
kinds_as a b P Q to back f = record {
  local = λ k j s q. to j (f.local k j s (back k q));
  kinds = λ k kinded. let p = f.kinds k kinded in (p.0, p.1, p.2, to p.0 p.3);
}

-- ---- a node more

pub put : (ℕ → Kind) → ℕ → Kind → ℕ → Kind
put j n x i = cond (i == n) x (j i)

put_at : (j : ℕ → Kind) (n : ℕ) (x : Kind) → put j n x n ≡ x
unfolding put
put_at j n x = ap (λ b. cond b x (j n)) (eq-eqb n n refl)

put_other : (j : ℕ → Kind) (n : ℕ) (x : Kind) (i : ℕ) → i ≢ n → put j n x i ≡ j i
unfolding put
put_other j n x i h = ap (λ b. cond b x (j i)) (ne_eqb i n h)

module _ (b c : Loader) (s : Shape) (n : ℕ) (x : Kind) (whole : IsLoader b) (add : Adds b c s n) (parts : Each (λ p. p < length b.arena.shapes) (parts_of s)) (k : ℕ → Kind) (nodes : AreKinded b.arena.shapes b.arena.classes k)
    (fits : HasKind k x s) where
  abbrev j : ℕ → Kind
  j = put k n x

  pub new_kind : j n ≡ x
  new_kind = put_at k n x

  pub old_kind : (i : ℕ) → i < length b.arena.shapes → j i ≡ k i
  old_kind i h = put_other k n x i (let e = add.number in omega arith)

  shape_old : (i : ℕ) → i < length b.arena.shapes → shape_at c.arena.shapes i ≡ shape_at b.arena.shapes i
  shape_old i h = ap (λ ss. shape_at ss i) add.shapes ∙ old_shape b.arena.shapes b.arena.classes s whole.arena parts i h

  shape_new : shape_at c.arena.shapes n ≡ s
  shape_new = (λ q. shape_at (add.shapes q) (add.number q)) ∙ new_shape b.arena.shapes b.arena.classes s whole.arena parts

  names_are : c.arena.classes ≡ b.arena.classes ++ length b.arena.shapes ∷ []
  names_are = add.classes ∙ ap (λ m. b.arena.classes ++ m ∷ []) whole.arena.named.count

  class_old : (i : ℕ) → i < length b.arena.shapes → class_at c.arena.classes i ≡ class_at b.arena.classes i
  class_old i h = ap (λ cs. class_at cs i) names_are ∙ old_class b.arena.shapes b.arena.classes s whole.arena parts i h

  class_new : class_at c.arena.classes n ≡ n
  class_new = (λ q. class_at (names_are q) (add.number q)) ∙ new_class b.arena.shapes b.arena.classes s whole.arena parts ∙ sym add.number

  pub kinded_nodes : AreKinded c.arena.shapes c.arena.classes j
  kinded_nodes i h =
      ⊎_elim
      (λ (e : i ≡ n).
      subst (λ m. (j (class_at c.arena.classes m) ≡ j m) × HasKind j (j m) (shape_at c.arena.shapes m)) (sym e) (
        ap j class_new,
        subst (λ t. HasKind j (j n) t) (sym shape_new) (subst (λ y. HasKind j y s) (sym new_kind)
            (HasKind-same k j x s (each_weaker (λ p. p < length b.arena.shapes) (λ p. j p ≡ k p) (λ p l. old_kind p l) (parts_of s) parts) fits)),
      ))
      (λ (ne : i ≢ n).
      let low : i < length b.arena.shapes = (let l = one_longer b c s n whole add parts in let e = add.number in omega arith) in
      let old = nodes i low in (
        ap j (class_old i low) ∙ old_kind (class_at b.arena.classes i) (whole.arena.named.below i low) ∙ old.0 ∙ sym (old_kind i low),
        subst (λ t. HasKind j (j i) t) (sym (shape_old i low)) (subst (λ y. HasKind j y (shape_at b.arena.shapes i)) (sym (old_kind i low))
            (HasKind-same k j (k i) (shape_at b.arena.shapes i)
            (each_weaker (λ p. p < length b.arena.shapes) (λ p. j p ≡ k p) (λ p l. old_kind p l) (parts_of (shape_at b.arena.shapes i)) (whole.arena.nodes i low)) old.1)),
      ))
      (cases_eq i n)

pub kinds_more : (a b c : Loader) (P : (ℕ → Kind) → Type 0) (s : Shape) (n : ℕ) (x : Kind) → length a.arena.shapes ≤ length b.arena.shapes → KindsTo a b P → Makes b c x s n
    → ((j : ℕ → Kind) → P j → HasKind j x s) → KindsTo a c (λ j. j n ≡ x)
kinds_more a b c P s n x longer f makes fits = record {
  local = λ k j same p. same n makes.below ∙ p;
  kinds = λ k kinded.
      let p = f.kinds k kinded in
      let q = makes.kinds p.0 p.2 (fits p.0 p.3) in
      (q.0, (λ i h. q.1 i (omega arith) ∙ p.1 i h), q.2, q.3);
}

-- a node on what was loaded
module _ {A : Type 0} (a b c : Loader) (m : Opening → Option A) (r : (ℕ → Value) → A) (s : Shape) (k : ℕ) (n : Opening → Option Value) (l : LoadsTo a b m r) (P : (ℕ → Kind) → Type 0) (x : Kind)
    (makes : Makes b c x s k) (f : KindsTo a b P) (fits : (j : ℕ → Kind) → P j → HasKind j x s) where
  pub loads_more : ((v : ℕ → Value) (y : Value) (ρ : Opening) → m ρ ≡ Some (r v) → IsBuilt s v y → n ρ ≡ Some y)
      → ((y : Value) (ρ : Opening) → n ρ ≡ Some y → (z : A) × (m ρ ≡ Some z) × ((w : ℕ → Value) → r w ≡ z → IsBuilt s w y))
      → Loads a c x n k
  loads_more says builds = record {
    below = makes.below;
    kinds = kinds_more a b c P s k x l.longer f makes fits;
    to = more_to a b c m r x s k n l makes says builds;
  }
