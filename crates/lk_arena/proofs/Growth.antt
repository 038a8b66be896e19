-- One node more: the arena stays one, and values that fit are those that fitted, with a value for the new node.
use Rattle.std.proofs.Common.{◌≡◌, ◌≢◌, ℕ, ◌+◌, ◌<◌, List, [], ◌∷◌, ◌++◌, ◌⊎◌, inl, inr, ⊎_elim, length, map, refl, sym, ◌∙◌, ap, subst, arith, Option, Some, None, length-append, cond}
use Rattle.std.proofs.lemmas.Bool.{cases_eq, eq-eqb, ne_eqb}
use Rattle.std.proofs.lemmas.List.{get_or_append_left, get_or_push}
use Rattle.std.specs.FinMap as fin
use Rattle.std.specs.Prelude.{◌==◌}
use Rattle.lk_types.proofs.Members.{each_weaker, each_from_map}
use Rattle.lk_types.specs.Each.{Each}
use Rattle.lk_arena.proofs.EachLemmas.{Each-zip}
use Rattle.lk_arena.proofs.RowAlgebra.{found_prop}
use Rattle.lk_classes.specs.Classes.{class_at}
use Rattle.lk_arena.specs.Shapes.{shape_at, parts_of, found_at, plain_of, value_at, IsPlain, IsRowOf, IsBuilt, IsDistinct, FitsNodes, IsArena, fields_in, HasFields, HasNode, WeakNodes}
use Rattle.lk_arena.specs.Values.{Value, IsMadeOf}
use Rattle.lk_arena.specs.declared.node.Field.{Field}
use Rattle.lk_arena.specs.declared.node.Shape.{Shape}
use Rattle.lk_arena.specs.declared.node.Shape.TheVariants.{Free, Open, Empty, Made}
use Rattle.lk_arena.specs.declared.node.Shape.TheVariants as shape

pub map-each : {A B : Type 0} (f g : A → B) (xs : List A) → Each (λ x. g x ≡ f x) xs → map f xs ≡ map g xs
map-each f g [] e = refl
map-each f g (x ∷ xs) e = let h = e.0 in let t = map-each f g xs e.1 in cc

value_at-same : (v w : ℕ → Value) (o : Option ℕ) (d : Option _) → ((x : ℕ) → o ≡ Some x → w x ≡ v x) → value_at v o d ≡ value_at w o d
value_at-same v w None d h = refl
value_at-same v w (Some x) d h = ap plain_of (sym (h x refl))

pub IsRowOf-same : (fs : List Field) (v w : ℕ → Value) (y z x : Value) → z ≡ y → Each (λ f. w f.node ≡ v f.node) fs → IsRowOf fs v y x → IsRowOf fs w z x
IsRowOf-same fs v w y z x tail same r = record {
  tail = r.tail;
  row = r.row;
  tail_is = tail ∙ r.tail_is;
  row_is = r.row_is;
  plain = Each-zip (λ f. IsPlain (v f.node)) (λ f. w f.node ≡ v f.node) (λ f. IsPlain (w f.node)) (λ f p e. (p.0, e ∙ p.1)) fs r.plain same;
  fresh = r.fresh;
  at = λ l. r.at l ∙ value_at-same v w (found_at fs l) (fin.get r.tail.fields l) (λ n e. found_prop (λ n. w n ≡ v n) fs l n same e);
  same_end = r.same_end;
}

-- a shape speaks of its parts alone
pub IsBuilt-same : (s : Shape) (v w : ℕ → Value) (x : Value) → Each (λ p. w p ≡ v p) (parts_of s) → IsBuilt s v x → IsBuilt s w x
IsBuilt-same Free v w x e b = b
IsBuilt-same Open v w x e b = b
IsBuilt-same Empty v w x e b = b
IsBuilt-same (Made h ps) v w x e b = subst (λ vs. IsMadeOf h vs x) (map-each v w ps e) b
IsBuilt-same (shape.Row fs t) v w x e b = IsRowOf-same fs v w (v t) (w t) x e.0 (each_from_map (λ p. w p ≡ v p) (λ f. f.node) fs e.1) b

pub put : (ℕ → Value) → ℕ → Value → ℕ → Value
put v n x i = cond (i == n) x (v i)

pub put_at : (v : ℕ → Value) (n : ℕ) (x : Value) → put v n x n ≡ x
unfolding put
put_at v n x = ap (λ b. cond b x (v n)) (eq-eqb n n refl)

pub put_other : (v : ℕ → Value) (n : ℕ) (x : Value) (i : ℕ) → i ≢ n → put v n x i ≡ v i
unfolding put
put_other v n x i h = ap (λ b. cond b x (v i)) (ne_eqb i n h)

module _ (shapes : List Shape) (classes : List ℕ) (s : Shape) (arena : IsArena shapes classes) (parts : Each (λ p. p < length shapes) (parts_of s)) where
  pub more_count : length (shapes ++ s ∷ []) ≡ length shapes + 1
  more_count = length-append shapes (s ∷ [])

  pub old_shape : (i : ℕ) → i < length shapes → shape_at (shapes ++ s ∷ []) i ≡ shape_at shapes i
  old_shape i h = get_or_append_left shapes (s ∷ []) Free i h

  pub new_shape : shape_at (shapes ++ s ∷ []) (length shapes) ≡ s
  new_shape = get_or_push shapes s Free (length shapes) refl

  pub old_class : (i : ℕ) → i < length shapes → class_at (classes ++ length shapes ∷ []) i ≡ class_at classes i
  old_class i h = get_or_append_left classes (length shapes ∷ []) 0 i (let e : length classes ≡ length shapes = arena.named.count in omega arith)

  pub new_class : class_at (classes ++ length shapes ∷ []) (length shapes) ≡ length shapes
  new_class = get_or_push classes (length shapes) 0 (length shapes) arena.named.count

  -- an old node or the new one
  pub old_or_new : (i : ℕ) → i < length (shapes ++ s ∷ []) → (i < length shapes) ⊎ (i ≡ length shapes)
  old_or_new i h = ⊎_elim (λ e. inr e) (λ ne. inl (omega (arith, more_count))) (cases_eq i (length shapes))

  pub push_arena : IsDistinct (fields_in s) → HasFields s → IsArena (shapes ++ s ∷ []) (classes ++ length shapes ∷ [])
  push_arena distinct filled = record {
    nodes = λ i h. each_weaker (λ p. p < length shapes) (λ p. p < length (shapes ++ s ∷ [])) (λ p l. omega (arith, more_count)) (parts_of (shape_at (shapes ++ s ∷ []) i))
        (⊎_elim (λ l. subst (λ t. Each (λ p. p < length shapes) (parts_of t)) (sym (old_shape i l)) (arena.nodes i l))
        (λ e. subst (λ k. Each (λ p. p < length shapes) (parts_of (shape_at (shapes ++ s ∷ []) k))) (sym e)
        (subst (λ t. Each (λ p. p < length shapes) (parts_of t)) (sym new_shape) parts)) (old_or_new i h));
    named = record {
      count = (let a = length-append classes (length shapes ∷ []) in let c : length classes ≡ length shapes = arena.named.count in omega (arith, more_count));
      below = λ i h. ⊎_elim
          (λ l. let b : class_at classes i < length shapes = arena.named.below i l in let e = old_class i l in omega (arith, more_count))
          (λ e. let f : class_at (classes ++ length shapes ∷ []) i ≡ length shapes = ap (class_at (classes ++ length shapes ∷ [])) e ∙ new_class in omega (arith, more_count)) (old_or_new i h);
      named = λ i h. ⊎_elim
          (λ l. ap (class_at (classes ++ length shapes ∷ [])) (old_class i l) ∙ old_class (class_at classes i) (arena.named.below i l) ∙ arena.named.named i l ∙ sym (old_class i l))
          (λ e. let f : class_at (classes ++ length shapes ∷ []) i ≡ length shapes = ap (class_at (classes ++ length shapes ∷ [])) e ∙ new_class in
          ap (class_at (classes ++ length shapes ∷ [])) f ∙ new_class ∙ sym f) (old_or_new i h);
    };
    distinct = λ i h. ⊎_elim (λ l. subst (λ t. IsDistinct (fields_in t)) (sym (old_shape i l)) (arena.distinct i l))
        (λ e. subst (λ k. IsDistinct (fields_in (shape_at (shapes ++ s ∷ []) k))) (sym e) (subst (λ t. IsDistinct (fields_in t)) (sym new_shape) distinct)) (old_or_new i h);
    filled = λ i h. ⊎_elim (λ l. subst HasFields (sym (old_shape i l)) (arena.filled i l))
        (λ e. subst (λ k. HasFields (shape_at (shapes ++ s ∷ []) k)) (sym e) (subst HasFields (sym new_shape) filled)) (old_or_new i h);
  }

  module _ (v : ℕ → Value) (x : Value) (fits : FitsNodes shapes classes v) (built : IsBuilt s v x) where
    below_same : (i : ℕ) → i < length shapes → put v (length shapes) x i ≡ v i
    below_same i h = put_other v (length shapes) x i (omega arith)

    pub push_forth : FitsNodes (shapes ++ s ∷ []) (classes ++ length shapes ∷ []) (put v (length shapes) x)
    push_forth = record {
      builds = λ i h. ⊎_elim
          (λ l. subst (λ t. IsBuilt t (put v (length shapes) x) (put v (length shapes) x i)) (sym (old_shape i l))
          (subst (IsBuilt (shape_at shapes i) (put v (length shapes) x)) (sym (below_same i l))
          (IsBuilt-same (shape_at shapes i) v (put v (length shapes) x) (v i)
          (each_weaker (λ p. p < length shapes) (λ p. put v (length shapes) x p ≡ v p) (λ p b. below_same p b) (parts_of (shape_at shapes i)) (arena.nodes i l))
          (fits.builds i l))))
          (λ e. subst (λ k. IsBuilt (shape_at (shapes ++ s ∷ []) k) (put v (length shapes) x) (put v (length shapes) x k)) (sym e)
          (subst (λ t. IsBuilt t (put v (length shapes) x) (put v (length shapes) x (length shapes))) (sym new_shape)
          (subst (IsBuilt s (put v (length shapes) x)) (sym (put_at v (length shapes) x))
          (IsBuilt-same s v (put v (length shapes) x) x
          (each_weaker (λ p. p < length shapes) (λ p. put v (length shapes) x p ≡ v p) (λ p b. below_same p b) (parts_of s) parts) built))))
          (old_or_new i h);
      respects = λ i h.
          let c : length classes ≡ length shapes = arena.named.count in
          let a = length-append classes (length shapes ∷ []) in
          ⊎_elim
          (λ l. below_same i l ∙ fits.respects i (omega arith) ∙ sym (below_same (class_at classes i) (arena.named.below i l)) ∙ ap (put v (length shapes) x) (sym (old_class i l)))
          (λ e. ap (put v (length shapes) x) (e ∙ sym (ap (class_at (classes ++ length shapes ∷ [])) e ∙ new_class))) (old_or_new i (omega (arith, more_count)));
    }

-- a node of this shape with a value that fits it, as `add` leaves the arena
pub HasNode-push :
    (shapes : List Shape) (classes : List ℕ) (s : Shape) (more : List Shape) (names : List ℕ) (n : ℕ) → IsArena shapes classes → Each (λ p. p < length shapes) (parts_of s) →
    more ≡ shapes ++ s ∷ [] → names ≡ classes ++ length shapes ∷ [] → n ≡ length shapes →
    (v : ℕ → Value) (x : Value) → FitsNodes shapes classes v → IsBuilt s v x → HasNode shapes more names v n x
HasNode-push shapes classes s more names n arena parts a b c v x fits built =
    rw (a, b, c)
    (put v (length shapes) x, (λ i h. put_other v (length shapes) x i (omega arith)), push_forth shapes classes s arena parts v x fits built, put_at v (length shapes) x)

pub IsArena-push :
    (shapes : List Shape) (classes : List ℕ) (s : Shape) (more : List Shape) (names : List ℕ) → IsArena shapes classes → Each (λ p. p < length shapes) (parts_of s) → IsDistinct (fields_in s) → HasFields s →
    more ≡ shapes ++ s ∷ [] → names ≡ classes ++ length shapes ∷ [] → IsArena more names
IsArena-push shapes classes s more names arena parts distinct filled a b = rw (a, b) (push_arena shapes classes s arena parts distinct filled)

pub HasFields-some : (fs : List Field) (t : ℕ) → length fs ≢ 0 → HasFields (shape.Row fs t)
HasFields-some [] t h = h refl
HasFields-some (f ∷ fs) t h = tt

-- ---- values that fit at the names of classes

module _ (shapes : List Shape) (classes : List ℕ) (s : Shape) (more : List Shape) (names : List ℕ) (n : ℕ) (arena : IsArena shapes classes) (parts : Each (λ p. p < length shapes) (parts_of s))
    (a : more ≡ shapes ++ s ∷ []) (b : names ≡ classes ++ length shapes ∷ []) (c : n ≡ length shapes) where
  weak_at : (v : ℕ → Value) → WeakNodes more names v → WeakNodes (shapes ++ s ∷ []) (classes ++ length shapes ∷ []) v
  weak_at v fits = subst (λ ss. WeakNodes ss (classes ++ length shapes ∷ []) v) a (subst (λ cs. WeakNodes more cs v) b fits)

  pub WeakNodes-push : (v : ℕ → Value) → WeakNodes more names v → WeakNodes shapes classes v
  WeakNodes-push v fits =
      let w = weak_at v fits in
      record {
        builds = λ i h e. subst (λ t. IsBuilt t v (v i)) (old_shape shapes classes s arena parts i h)
            (w.builds i (let m = more_count shapes classes s arena parts in omega arith) (old_class shapes classes s arena parts i h ∙ e));
        respects = λ i h.
            let c : length classes ≡ length shapes = arena.named.count in
            w.respects i (let k = length-append classes (length shapes ∷ []) in omega arith) ∙ ap v (old_class shapes classes s arena parts i (omega arith));
      }

  pub built_push : (v : ℕ → Value) → WeakNodes more names v → IsBuilt s v (v n)
  built_push v fits =
      let w = weak_at v fits in
      subst (λ k. IsBuilt s v (v k)) (sym c)
      (subst (λ t. IsBuilt t v (v (length shapes))) (new_shape shapes classes s arena parts)
      (w.builds (length shapes) (let m = more_count shapes classes s arena parts in omega arith) (new_class shapes classes s arena parts)))
