-- The node of a variable.
use Rattle.std.proofs.Common.{◌≡◌, ℕ, ◌+◌, ◌<◌, true, false, ◌⊎◌, inl, inr, ⊎_elim, length, refl, sym, ◌∙◌, ap, subst, arith, Some, None, cond}
use Rattle.std.specs.BTreeMap.{get}
use Rattle.std.specs.Ordering.{nat_cmp}
use Rattle.std.proofs.lemmas.Bool.{cases_Bool}
use Rattle.std.proofs.lemmas.Option.{same_Some}
use Rattle.lk_types.specs.Each.{Each}
use Rattle.lk_arena.specs.Openings.{Opening}
use Rattle.lk_types.specs.Variables.{same_variable}
use Rattle.lk_types.specs.declared.ty.Variable.{Variable}
use Rattle.lk_types.specs.declared.ty.Variable.TheVariants as variable
use Rattle.lk_unify.proofs.LoadKinds.{put, old_kind, new_kind, kinded_nodes}
use Rattle.lk_types.proofs.SameVariable.{same_is, same_self}
use Rattle.lk_unify.proofs.LoadSteps.{one_longer, same_names, added_below, added_back, added_covers, added_made, added_node, added_arena}
use Rattle.lk_arena.specs.Covering.{Covers}
use Rattle.lk_arena.specs.Kinds.{Kind, HasKind, AreKinded}
use Rattle.lk_unify.specs.NamedNodes.{node_in}
use Rattle.lk_unify.specs.Loading.{KindsTo, kind_of, made_at, node_for, value_of, shape_for, IsLoader, IsMade, Loads, Adds}
use Rattle.lk_arena.specs.Shapes.{parts_of, fields_in, IsArena, IsBuilt, IsDistinct, HasFields, FitsNodes, WeakNodes}
use Rattle.lk_arena.specs.Values.{Value}
use Rattle.lk_unify.specs.declared.loader.Loader.{Loader}
use Rattle.lk_unify.specs.declared.loader.MadeNode.{MadeNode}

-- ---- shapes of variables

shape_parts : (x : Variable) (P : ℕ → Type 0) → Each P (parts_of (shape_for x))
shape_parts (variable.Plain n) P = tt
shape_parts (variable.Row n) P = tt
shape_parts (variable.Effects n) P = tt

shape_distinct : (x : Variable) → IsDistinct (fields_in (shape_for x))
shape_distinct (variable.Plain n) = tt
shape_distinct (variable.Row n) = tt
shape_distinct (variable.Effects n) = tt

shape_filled : (x : Variable) → HasFields (shape_for x)
shape_filled (variable.Plain n) = tt
shape_filled (variable.Row n) = tt
shape_filled (variable.Effects n) = tt

-- whatever stands for a variable fits its node
shape_fits : (x : Variable) (ρ : Opening) (v : ℕ → Value) → IsBuilt (shape_for x) v (value_of ρ x)
shape_fits (variable.Plain n) ρ v = (ρ.plain n, refl)
shape_fits (variable.Row n) ρ v = (ρ.rows n, refl)
shape_fits (variable.Effects n) ρ v = (_, refl)

shape_kind : (x : Variable) (j : ℕ → Kind) → HasKind j (kind_of x) (shape_for x)
shape_kind (variable.Plain n) j = tt
shape_kind (variable.Row n) j = tt
shape_kind (variable.Effects n) j = tt

-- ---- a variable that has a node

pub loads_known : (l : Loader) (x : Variable) (n : ℕ) → IsLoader l → node_for l x ≡ Some n → Loads l l (kind_of x) (λ ρ. Some (value_of ρ x)) n
loads_known l x n whole is = record {
  below = whole.named x n is;
  kinds = record { local = λ k j same p. same n (whole.named x n is) ∙ p; kinds = λ k kinded. (k, (λ i h. refl), kinded, kinded.named x n is) };
  to = record {
    whole = whole;
    longer = omega arith;
    kept = λ y k e. e;
    local = λ v w same. same n (whole.named x n is);
    back = λ v h. h;
    covers = λ c h. h;
    is = λ v ρ h agrees. ap Some (sym (agrees.at x n is));
    forth = λ v ρ y fits agrees e. (v, (λ i h. refl), fits, agrees, agrees.at x n is ∙ same_Some (value_of ρ x) y e);
  };
}

-- ---- a variable that gets one

module _ (b c d : Loader) (x : Variable) (k : ℕ) (whole : IsLoader b) (none : node_for b x ≡ None) (add : Adds b c (shape_for x) k) (arena : d.arena ≡ c.arena) (made : d.made ≡ c.made)
    (names : (q : Variable) → node_in d.names q ≡ cond (same_variable x q) (Some k) (node_in c.names q)) where
  parts : Each (λ p. p < length b.arena.shapes) (parts_of (shape_for x))
  parts = shape_parts x (λ p. p < length b.arena.shapes)

  now_named : (q : Variable) → node_for d q ≡ cond (same_variable x q) (Some k) (node_for b q)
  now_named q = names q ∙ ap (cond (same_variable x q) (Some k)) (same_names b c (shape_for x) k whole add parts q)

  pub new_name : node_for d x ≡ Some k
  new_name = now_named x ∙ ap (λ t. cond t (Some k) (node_for b x)) (same_self x)

  -- a name is the new one or an old one
  name_cases : (q : Variable) (n : ℕ) → node_for d q ≡ Some n → ((x ≡ q) × (n ≡ k)) ⊎ (node_for b q ≡ Some n)
  name_cases q n e =
      ⊎_elim
      (λ (t : same_variable x q ≡ true). inl (same_is x q t, same_Some n k (sym e ∙ now_named q ∙ ap (λ t. cond t (Some k) (node_for b q)) t)))
      (λ (f : same_variable x q ≡ false). inr (sym (ap (λ t. cond t (Some k) (node_for b q)) f) ∙ sym (now_named q) ∙ e))
      (cases_Bool (same_variable x q))

  kept_names : (q : Variable) (n : ℕ) → node_for b q ≡ Some n → node_for d q ≡ Some n
  kept_names q n e =
      ⊎_elim
      (λ (t : same_variable x q ≡ true). (let h : None ≡ Some n = sym none ∙ ap (node_for b) (same_is x q t) ∙ e in cc))
      (λ (f : same_variable x q ≡ false). now_named q ∙ ap (λ t. cond t (Some k) (node_for b q)) f ∙ e)
      (cases_Bool (same_variable x q))

  longer : length d.arena.shapes ≡ length b.arena.shapes + 1
  longer = ap (λ a. length a.shapes) arena ∙ one_longer b c (shape_for x) k whole add parts

  below : k < length d.arena.shapes
  below = subst (λ a. k < length a.shapes) (sym arena) (added_below b c (shape_for x) k whole add parts)

  made_before : (key : ℕ) (m : MadeNode) → made_at d key ≡ Some m → made_at c key ≡ Some m
  made_before key m e = sym (ap (λ made. get nat_cmp made key) made) ∙ e

  made_first : (key : ℕ) (m : MadeNode) → made_at d key ≡ Some m → made_at b key ≡ Some m
  made_first key m e = sym (ap (λ made. get nat_cmp made key) add.made) ∙ made_before key m e

  arena_kinded : (k : ℕ → Kind) → AreKinded c.arena.shapes c.arena.classes k → AreKinded d.arena.shapes d.arena.classes k
  arena_kinded k nodes = subst (λ a. AreKinded a.shapes a.classes k) (sym arena) nodes

  named_kinds : KindsTo b d (λ j. j k ≡ kind_of x)
  named_kinds = record {
    local = λ h j same p. same k below ∙ p;
    kinds = λ h kinded.
        let s = shape_for x in
        let fits = shape_kind x h in (
          put h k (kind_of x),
          (λ i l. old_kind b c s k (kind_of x) whole add parts h kinded.nodes fits i l),
          record {
            nodes = arena_kinded (put h k (kind_of x)) (kinded_nodes b c s k (kind_of x) whole add parts h kinded.nodes fits);
            named = λ q n e. ⊎_elim
                (λ (t : (x ≡ q) × (n ≡ k)). ap (put h k (kind_of x)) t.1 ∙ new_kind b c s k (kind_of x) whole add parts h kinded.nodes fits ∙ ap kind_of t.0)
                (λ (o : node_for b q ≡ Some n). old_kind b c s k (kind_of x) whole add parts h kinded.nodes fits n (whole.named q n o) ∙ kinded.named q n o)
                (name_cases q n e);
            made = λ key m e.
                let o = made_first key m e in
                old_kind b c s k (kind_of x) whole add parts h kinded.nodes fits m.node (whole.made key m o).below ∙ kinded.made key m o;
          },
          new_kind b c s k (kind_of x) whole add parts h kinded.nodes fits,
        );
  }

  pub loads_named : Loads b d (kind_of x) (λ ρ. Some (value_of ρ x)) k
  loads_named = record {
    below = below;
    kinds = named_kinds;
    to = record {
      whole = record {
        arena = subst (λ a. IsArena a.shapes a.classes) (sym arena) (added_arena b c (shape_for x) k whole add parts (shape_distinct x) (shape_filled x));
        named = λ q n e. ⊎_elim
            (λ (h : (x ≡ q) × (n ≡ k)). subst (λ j. j < length d.arena.shapes) (sym h.1) below)
            (λ (h : node_for b q ≡ Some n). let l = whole.named q n h in omega (arith, longer))
            (name_cases q n e);
        made = λ key m e. subst (λ a. IsMade a.shapes a.classes m) (sym arena) (added_made b c (shape_for x) k whole add parts key m (made_before key m e));
      };
      longer = omega (arith, longer);
      kept = kept_names;
      local = λ v w same. same k below;
      back = λ v h. added_back b c (shape_for x) k whole add parts v (subst (λ a. WeakNodes a.shapes a.classes v) arena h);
      covers = λ q h. added_covers b c (shape_for x) k whole add parts q (subst (λ a. Covers a.shapes a.classes q) arena h);
      is = λ v ρ h agrees. ap Some (sym (agrees.at x k new_name));
      forth = λ v ρ y fits agrees e.
          let s : value_of ρ x ≡ y = same_Some (value_of ρ x) y e in
          let h = added_node b c (shape_for x) k whole add parts v (value_of ρ x) fits (shape_fits x ρ v) in (
            h.0,
            h.1,
            subst (λ a. FitsNodes a.shapes a.classes h.0) (sym arena) h.2,
            record {
              at = λ q n e. ⊎_elim
                  (λ (t : (x ≡ q) × (n ≡ k)). ap h.0 t.1 ∙ h.3 ∙ ap (value_of ρ) t.0)
                  (λ (o : node_for b q ≡ Some n). h.1 n (whole.named q n o) ∙ agrees.at q n o)
                  (name_cases q n e);
            },
            h.3 ∙ s,
          );
    };
  }
