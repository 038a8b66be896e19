-- Numbers given one after another to the classes of which nothing is known.
use Rattle.std.proofs.Common.{◌≡◌, ℕ, zero, suc, ◌+◌, ◌<◌, ◌≤◌, Bool, true, false, ◌⊎◌, inl, inr, ⊎_elim, List, [], ◌∷◌, ◌++◌, length, refl, sym, ◌∙◌, ap, subst, arith, None}
use Rattle.std.proofs.lemmas.Bool.{cases_eq, eqb-true, eq-eqb}
use Rattle.std.specs.Prelude.{◌==◌, ◌&&◌, cond}
use Rattle.lk_classes.specs.Classes.{class_at}
use Rattle.lk_arena.specs.Kinds.{Kind, OfTypes, OfFields, OfEffects, OfUnit, OfNothing}
use Rattle.lk_unify.specs.Loading.{node_for}
use Rattle.lk_unify.specs.Reading.{name_in, own_variable, is_own_class, IsNaming, IsUnused}
use Rattle.lk_arena.specs.Shapes.{shape_at, is_loose_shape}
use Rattle.lk_unify.specs.declared.loader.Loader.{Loader}

-- the first n nodes have numbers, all below `next`: of two classes of which nothing is known the later one has the larger number
pub record IsNumbered (l : Loader) (numbers : List ℕ) (n next : ℕ) : Type 0 where
  pub count : length numbers ≡ n
  pub below : (i : ℕ) → i < n → is_own_class l i ≡ true → name_in numbers i < next
  pub rises : (i j : ℕ) → i < j → j < n → is_own_class l i ≡ true → is_own_class l j ≡ true → name_in numbers i < name_in numbers j
  pub unused : (i : ℕ) → i < n → is_own_class l i ≡ true → IsUnused l (name_in numbers i)

-- ---- a number behind the others

name_before : (numbers : List ℕ) (x i : ℕ) → i < length numbers → name_in (numbers ++ x ∷ []) i ≡ name_in numbers i
name_before [] x i h = absurd (omega arith)
name_before (y ∷ ys) x zero h = refl
name_before (y ∷ ys) x (suc i) h = name_before ys x i (omega arith)

name_last : (numbers : List ℕ) (x : ℕ) → name_in (numbers ++ x ∷ []) (length numbers) ≡ x
name_last [] x = refl
name_last (y ∷ ys) x = name_last ys x

one_longer : (numbers : List ℕ) (x : ℕ) → length (numbers ++ x ∷ []) ≡ length numbers + 1
one_longer [] x = refl
one_longer (y ∷ ys) x = let ih = one_longer ys x in omega arith

-- either it is one of the first, or the last one
last_or : (i n : ℕ) → i < n + 1 → (i < n) ⊎ (i ≡ n)
last_or i n h = ⊎_elim (λ (e : i ≡ n). inr e) (λ (ne : i ≡ n → ⊥). inl (omega arith)) (cases_eq i n)

module _ (l : Loader) (numbers : List ℕ) (n next : ℕ) (old : IsNumbered l numbers n next) (x : ℕ) where
  kept : (i : ℕ) → i < n → name_in (numbers ++ x ∷ []) i ≡ name_in numbers i
  kept i h = name_before numbers x i (subst (λ n. i < n) (sym old.count) h)

  new : (i : ℕ) → i ≡ n → name_in (numbers ++ x ∷ []) i ≡ x
  new i e = ap (name_in (numbers ++ x ∷ [])) (e ∙ sym old.count) ∙ name_last numbers x

  counted : length (numbers ++ x ∷ []) ≡ n + 1
  counted = one_longer numbers x ∙ ap (λ n. n + 1) old.count

  -- a node that names no class of which nothing is known
  pub numbered_other : is_own_class l n ≡ false → IsNumbered l (numbers ++ x ∷ []) (n + 1) next
  numbered_other not_own = record {
    count = counted;
    below = λ i h o. ⊎_elim (λ (k : i < n). subst (λ m. m < next) (sym (kept i k)) (old.below i k o)) (λ (e : i ≡ n). absurd (clash i e o)) (last_or i n h);
    rises = λ i j h k o p.
        ⊎_elim
        (λ (b : j < n).
        let a : i < n = omega arith in
        let c : name_in numbers i < name_in numbers j = old.rises i j h b o p in
        let e = kept i a in
        let f = kept j b in
        omega arith)
        (λ (e : j ≡ n). absurd (clash j e p))
        (last_or j n k);
    unused = λ i h o. ⊎_elim (λ (k : i < n). subst (IsUnused l) (sym (kept i k)) (old.unused i k o)) (λ (e : i ≡ n). absurd (clash i e o)) (last_or i n h);
  }
    where
      clash : (i : ℕ) → i ≡ n → is_own_class l i ≡ true → ⊥
      clash i e o = let f : false ≡ true = sym not_own ∙ ap (is_own_class l) (sym e) ∙ o in cc

  -- a class that gets a number
  pub numbered_more : next ≤ x → IsUnused l x → IsNumbered l (numbers ++ x ∷ []) (n + 1) (x + 1)
  numbered_more from free = record {
    count = counted;
    below = λ i h o.
        ⊎_elim
        (λ (k : i < n).
        let b : name_in numbers i < next = old.below i k o in
        let e = kept i k in
        omega arith)
        (λ (is : i ≡ n). let e = new i is in omega arith)
        (last_or i n h);
    rises = λ i j h k o p.
        ⊎_elim
        (λ (b : j < n).
        let a : i < n = omega arith in
        let c : name_in numbers i < name_in numbers j = old.rises i j h b o p in
        let e = kept i a in
        let f = kept j b in
        omega arith)
        (λ (is : j ≡ n).
        let a : i < n = omega arith in
        let c : name_in numbers i < next = old.below i a o in
        let e = kept i a in
        let f = new j is in
        omega arith)
        (last_or j n k);
    unused = λ i h o. ⊎_elim (λ (k : i < n). subst (IsUnused l) (sym (kept i k)) (old.unused i k o)) (λ (e : i ≡ n). subst (IsUnused l) (sym (new i e)) free) (last_or i n h);
  }

-- ---- the class that a number belongs to

abbrev owner_below : Loader → List ℕ → ℕ → ℕ → ℕ
owner_below l numbers zero x = 0
owner_below l numbers (suc i) x = cond (is_own_class l i && (name_in numbers i == x)) i (owner_below l numbers i x)

both_true : (a b : Bool) → a ≡ true → b ≡ true → a && b ≡ true
both_true true b p q = q
both_true false b p q = let f : false ≡ true = p in cc

first_true : (a b : Bool) → a && b ≡ true → a ≡ true
first_true true b e = refl
first_true false b e = let f : false ≡ true = e in cc

second_true : (a b : Bool) → a && b ≡ true → b ≡ true
second_true true b e = e
second_true false b e = let f : false ≡ true = e in cc

own : (l : Loader) (i : ℕ) → class_at l.arena.classes i ≡ i → is_loose_shape (shape_at l.arena.shapes i) ≡ true → is_own_class l i ≡ true
own l i c s = both_true _ _ (eq-eqb (class_at l.arena.classes i) i c) s

module _ (l : Loader) (numbers : List ℕ) (n next : ℕ) (numbered : IsNumbered l numbers n next) where
  -- two classes with one number are one
  same_class : (i j : ℕ) → i < n → j < n → is_own_class l i ≡ true → is_own_class l j ≡ true → name_in numbers i ≡ name_in numbers j → (i ≡ j → ⊥) → ⊥
  same_class i j h k o p e ne =
      ⊎_elim
      (λ (a : i < j). let c = numbered.rises i j a k o p in omega arith)
      (λ (a : j < i). let c = numbered.rises j i a h p o in omega arith)
      (less_or i j ne)
    where
      less_or : (i j : ℕ) → (i ≡ j → ⊥) → (i < j) ⊎ (j < i)
      less_or zero zero ne = absurd (ne refl)
      less_or zero (suc j) ne = inl (omega arith)
      less_or (suc i) zero ne = inr (omega arith)
      less_or (suc i) (suc j) ne = ⊎_elim (λ (a : i < j). inl (omega arith)) (λ (a : j < i). inr (omega arith)) (less_or i j (λ e. ne (ap suc e)))

  owner_is : (m i : ℕ) → m ≤ n → i < m → is_own_class l i ≡ true → owner_below l numbers m (name_in numbers i) ≡ i
  owner_is zero i h k o = absurd (omega arith)
  owner_is (suc m) i h k o = by_test (is_own_class l m && (name_in numbers m == name_in numbers i)) refl (λ k. owner_is m i (omega arith) k o)
    where
      by_test : (b : Bool) → (is_own_class l m && (name_in numbers m == name_in numbers i)) ≡ b → (i < m → owner_below l numbers m (name_in numbers i) ≡ i) →
          cond b m (owner_below l numbers m (name_in numbers i)) ≡ i
      by_test true is below =
          ⊎_elim (λ (e : m ≡ i). e)
          (λ (ne : m ≡ i → ⊥). absurd (same_class m i (omega arith) (omega arith) (first_true _ _ is) o (eqb-true (name_in numbers m) (name_in numbers i) (second_true (is_own_class l m) _ is)) ne))
          (cases_eq m i)
      by_test false is below =
          ⊎_elim
          (λ (e : m ≡ i).
          let t : (is_own_class l m && (name_in numbers m == name_in numbers i)) ≡ true =
          both_true _ _ (ap (is_own_class l) e ∙ o) (eq-eqb (name_in numbers m) (name_in numbers i) (ap (name_in numbers) e)) in
          let f : false ≡ true = sym is ∙ t in
          absurd (cc))
          (λ (ne : m ≡ i → ⊥). below (omega arith))
          (cases_eq m i)

  unused_by : (kind : Kind) (x : ℕ) → IsUnused l x → node_for l (own_variable kind x) ≡ None
  unused_by OfTypes x u = u.0
  unused_by OfFields x u = u.1
  unused_by OfEffects x u = u.2
  unused_by OfUnit x u = u.0
  unused_by OfNothing x u = u.1

  pub its_naming : n ≡ length l.arena.shapes → (kind : ℕ → Kind) → (owner : ℕ → ℕ) × IsNaming l kind (name_in numbers) owner
  its_naming all kind = (
    owner_below l numbers n,
    record {
      owned = λ i h c s. owner_is n i (omega arith) (subst (λ m. i < m) (sym all) h) (own l i c s);
      unused = λ i h c s. unused_by (kind i) (name_in numbers i) (numbered.unused i (subst (λ m. i < m) (sym all) h) (own l i c s));
    },
  )
