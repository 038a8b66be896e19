-- A substitution that puts for each variable what an opening does: its instances, and that they solve what the opening solves.
use Rattle.std.proofs.Common.{◌≡◌, ℕ, List, [], ◌∷◌, ◌++◌, ◌⊎◌, inl, inr, Option, Some, None, refl, sym, ◌∙◌, ap, subst, arith}
use Rattle.std.specs.Prelude.{IsSome}
use Rattle.lk_types.proofs.Members.{each_front, each_back, each_weaker}
use Rattle.lk_types.proofs.Parts.{same_some}
use Rattle.lk_types.proofs.Unfold.{under_variable}
use Rattle.lk_types.specs.Each.{Each}
use Rattle.lk_types.specs.Grounding.{Grounding, under, row_under, effects_under}
use Rattle.lk_types.specs.Solutions.{Becomes, IsMet, Solves, HasSides, IsInstanceAt, IsInstanceOn, plain_image, row_image, effects_image}
use Rattle.lk_types.specs.Variables.{variables_of, equation_variables}
use Rattle.lk_types.specs.declared.equation.Equation.{Equation}
use Rattle.lk_types.specs.declared.equation.Subst.{Subst}
use Rattle.lk_types.specs.declared.ground.Ground.{Ground}
use Rattle.lk_types.specs.declared.ty.RowTail.TheVariants.{Var}
use Rattle.lk_types.specs.declared.ty.Ty.{Ty}
use Rattle.lk_types.specs.declared.ty.Ty.TheVariants as ty
use Rattle.lk_types.specs.declared.ty.Variable.{Variable}
use Rattle.lk_types.specs.declared.ty.Variable.TheVariants as variable
use Rattle.lk_arena.proofs.EachLemmas.{Each-zip}
use Rattle.lk_unify.proofs.OpenComposed.{type_composed}
use Rattle.lk_unify.proofs.OpenRows.{only_tail-under}
use Rattle.lk_arena.specs.Openings.{Opening, OpensTo, OpenSolves, IsOpenMet, only_tail, only_effects_tail, row_type, effects_type, opened}

-- the image is what the opening puts, or there is none where the opening puts the variable itself
abbrev pub Puts : {A : Type 0} → Option A → A → Type 0 → Type 0
Puts image x stays = ((image ≡ None) × stays) ⊎ (image ≡ Some x)

abbrev pub PutsAt : Subst → Opening → Variable → Type 0
PutsAt s ρ (variable.Plain n) = Puts (plain_image s n) (ρ.plain n) (ρ.plain n ≡ ty.Var n)
PutsAt s ρ (variable.Row n) = Puts (row_image s n) (row_type (ρ.rows n)) (ρ.rows n ≡ only_tail (Var n))
PutsAt s ρ (variable.Effects n) = Puts (effects_image s n) (effects_type (ρ.effects n)) (ρ.effects n ≡ only_effects_tail (Var n))

-- ---- what becomes of an image

becomes_own : {A B : Type 0} (value : A → Option B) (o : Option A) (own x : B) → o ≡ None → Becomes value o own x → x ≡ own
becomes_own value o own x e b = subst (λ o. Becomes value o own x) e b

becomes_image : {A B : Type 0} (value : A → Option B) (o : Option A) (image : A) (own x : B) → o ≡ Some image → Becomes value o own x → value image ≡ Some x
becomes_image value o image own x e b = subst (λ o. Becomes value o own x) e b

own_becomes : {A B : Type 0} (value : A → Option B) (o : Option A) (own x : B) → o ≡ None → x ≡ own → Becomes value o own x
own_becomes value o own x e b = subst (λ o. Becomes value o own x) (sym e) b

image_becomes : {A B : Type 0} (value : A → Option B) (o : Option A) (image : A) (own x : B) → o ≡ Some image → value image ≡ Some x → Becomes value o own x
image_becomes value o image own x e b = subst (λ o. Becomes value o own x) (sym e) b

-- what a variable becomes that stays
module _ (τ : Grounding) (ρ : Opening) (n : ℕ) where
  plain_stays : ρ.plain n ≡ ty.Var n → under τ (ρ.plain n) ≡ Some (τ.plain n)
  plain_stays e = ap (under τ) e ∙ under_variable τ n

  row_stays : ρ.rows n ≡ only_tail (Var n) → row_under τ (row_type (ρ.rows n)) ≡ Some (τ.rows n)
  row_stays e = ap (λ r. row_under τ (row_type r)) e ∙ only_tail-under τ (Var n)

  effects_stay : ρ.effects n ≡ only_effects_tail (Var n) → effects_under τ (effects_type (ρ.effects n)) ≡ Some (τ.effects n)
  effects_stay e = ap (λ s. effects_under τ (effects_type s)) e

module _ (σ : Grounding) (s : Subst) (τ : Grounding) (ρ : Opening) where
  pub instance_opens : (x : Variable) → PutsAt s ρ x → IsInstanceAt σ s τ x → OpensTo τ ρ σ x
  instance_opens (variable.Plain n) (inl p) at = plain_stays τ ρ n p.1 ∙ ap Some (sym (becomes_own (under τ) (plain_image s n) (τ.plain n) (σ.plain n) p.0 at))
  instance_opens (variable.Plain n) (inr p) at = becomes_image (under τ) (plain_image s n) (ρ.plain n) (τ.plain n) (σ.plain n) p at
  instance_opens (variable.Row n) (inl p) at = row_stays τ ρ n p.1 ∙ ap Some (sym (becomes_own (row_under τ) (row_image s n) (τ.rows n) (σ.rows n) p.0 at))
  instance_opens (variable.Row n) (inr p) at = becomes_image (row_under τ) (row_image s n) (row_type (ρ.rows n)) (τ.rows n) (σ.rows n) p at
  instance_opens (variable.Effects n) (inl p) at = effects_stay τ ρ n p.1 ∙ ap Some (sym (becomes_own (effects_under τ) (effects_image s n) (τ.effects n) (σ.effects n) p.0 at))
  instance_opens (variable.Effects n) (inr p) at = becomes_image (effects_under τ) (effects_image s n) (effects_type (ρ.effects n)) (τ.effects n) (σ.effects n) p at

  pub opens_instance : (x : Variable) → PutsAt s ρ x → OpensTo τ ρ σ x → IsInstanceAt σ s τ x
  opens_instance (variable.Plain n) (inl p) to = own_becomes (under τ) (plain_image s n) (τ.plain n) (σ.plain n) p.0 (same_some (sym to ∙ plain_stays τ ρ n p.1))
  opens_instance (variable.Plain n) (inr p) to = image_becomes (under τ) (plain_image s n) (ρ.plain n) (τ.plain n) (σ.plain n) p to
  opens_instance (variable.Row n) (inl p) to = own_becomes (row_under τ) (row_image s n) (τ.rows n) (σ.rows n) p.0 (same_some (sym to ∙ row_stays τ ρ n p.1))
  opens_instance (variable.Row n) (inr p) to = image_becomes (row_under τ) (row_image s n) (row_type (ρ.rows n)) (τ.rows n) (σ.rows n) p to
  opens_instance (variable.Effects n) (inl p) to = own_becomes (effects_under τ) (effects_image s n) (τ.effects n) (σ.effects n) p.0 (same_some (sym to ∙ effects_stay τ ρ n p.1))
  opens_instance (variable.Effects n) (inr p) to = image_becomes (effects_under τ) (effects_image s n) (effects_type (ρ.effects n)) (τ.effects n) (σ.effects n) p to

  -- ---- an instance solves what the opening solves

  open_all : (xs : List Variable) → Each (PutsAt s ρ) xs → Each (IsInstanceAt σ s τ) xs → Each (OpensTo τ ρ σ) xs
  open_all xs puts all = Each-zip (PutsAt s ρ) (IsInstanceAt σ s τ) (OpensTo τ ρ σ) instance_opens xs puts all

  pub instance_all : (xs : List Variable) → Each (PutsAt s ρ) xs → Each (OpensTo τ ρ σ) xs → Each (IsInstanceAt σ s τ) xs
  instance_all xs puts all = Each-zip (PutsAt s ρ) (OpensTo τ ρ σ) (IsInstanceAt σ s τ) opens_instance xs puts all

  its_side : (t u : Ty) → Each (PutsAt s ρ) (variables_of t) → Each (IsInstanceAt σ s τ) (variables_of t) → opened ρ t ≡ Some u → IsSome (under σ t) →
      (g : Ground) × (under σ t ≡ Some g) × (under τ u ≡ Some g)
  its_side t u puts at is some = by_side (under σ t) refl some
    where
      by_side : (o : Option Ground) → under σ t ≡ o → IsSome o → (g : Ground) × (under σ t ≡ Some g) × (under τ u ≡ Some g)
      by_side None e some = absurd (grind arith)
      by_side (Some g) e some = (g, e, type_composed τ ρ σ t u g (open_all (variables_of t) puts at) is e)

  abbrev BothAt : Variable → Type 0
  BothAt x = PutsAt s ρ x × IsInstanceAt σ s τ x

  side : (t u : Ty) → Each BothAt (variables_of t) → opened ρ t ≡ Some u → IsSome (under σ t) → (g : Ground) × (under σ t ≡ Some g) × (under τ u ≡ Some g)
  side t u both is some =
      its_side t u (each_weaker BothAt (PutsAt s ρ) (λ x b. b.0) (variables_of t) both) (each_weaker BothAt (IsInstanceAt σ s τ) (λ x b. b.1) (variables_of t) both) is some

  met : (e : Equation) → Each BothAt (variables_of e.left) → Each BothAt (variables_of e.right) → IsOpenMet ρ e → HasSides σ e → IsMet σ e
  met e lefts rights both sides =
      let l = side e.left both.0 lefts both.1 sides.0 in
      let r = side e.right both.0 rights both.2 sides.1 in
      (l.0, l.1, r.1 ∙ sym r.2 ∙ l.2)

  both_solve : (es : List Equation) → OpenSolves ρ es → Each BothAt (equation_variables es) → Each (HasSides σ) es → Solves σ es
  both_solve [] solves at sides = tt
  both_solve (e ∷ es) solves at sides =
      let lefts = each_front BothAt (variables_of e.left) (variables_of e.right ++ equation_variables es) at in
      let more = each_back BothAt (variables_of e.left) (variables_of e.right ++ equation_variables es) at in
      let rights = each_front BothAt (variables_of e.right) (equation_variables es) more in
      let rest = each_back BothAt (variables_of e.right) (equation_variables es) more in
      (met e lefts rights solves.0 sides.0, both_solve es solves.1 rest sides.1)

  pub instance_solves : (es : List Equation) → Each (PutsAt s ρ) (equation_variables es) → OpenSolves ρ es → IsInstanceOn es σ s τ → Each (HasSides σ) es → Solves σ es
  instance_solves es puts solves at sides =
      both_solve es solves (Each-zip (PutsAt s ρ) (IsInstanceAt σ s τ) BothAt (λ x p i. (p, i)) (equation_variables es) puts at) sides
