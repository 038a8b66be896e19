-- Rows of effects: a set can be seen from the list of its effects, and what it means that functions have an effect.
use Rattle.std.proofs.Common.{◌≡◌, ℕ, Bool, true, false, cond, ◌||◌, List, [], ◌∷◌, ◌++◌, refl, sym, ap, ◌∙◌, Option, Some, None, if◌then◌else◌}
use Rattle.std.proofs.lemmas.Bool.{or_parts}
use Rattle.std.specs.List.{filter, list_any}
use Rattle.lk_types.proofs.Parts.{same_some}
use Rattle.lk_types.proofs.SameEffect.{effect_self, for_each_effect}
use Rattle.lk_types.proofs.Unfold.{under_function}
use Rattle.lk_types.specs.Grounding as grounding
use Rattle.lk_types.specs.Grounding.{Grounding, under, effects_under, before_effects}
use Rattle.lk_types.specs.Rows.{EffectSet, same_effect, with_effect, effects_of}
use Rattle.lk_types.specs.Solutions.{IsMet}
use Rattle.lk_types.specs.declared.ground.Ground.{Ground, out-Ground}
use Rattle.lk_types.specs.declared.ground.Ground.TheOpen.{Ground-F}
use Rattle.lk_types.specs.declared.ground.Ground.TheVariants as known
use Rattle.lk_types.specs.declared.ground.GroundField.{GroundField}
use Rattle.lk_types.specs.declared.ty.Effect.{Effect}
use Rattle.lk_types.specs.declared.ty.Effect.TheVariants.{Local, Move, Print, Rec, Scan, Trap, Write}
use Rattle.lk_types.specs.declared.ty.Effects.{Effects}
use Rattle.lk_types.specs.declared.ty.RowTail.TheVariants.{Var}
use Rattle.lk_types.specs.declared.ty.Ty.TheVariants as ty
use Rattle.lk_typing.proofs.Meaning.{HasEffects}
use Rattle.lk_typing.proofs.Values.{function_is, under_unit}
use Rattle.lk_typing.specs.Types.{unit, function_of}
use Rattle.lk_typing.specs.Unknowns as unknown

-- ---- the list of the effects of a set

abbrev is_among : Effect → List Effect → Bool
is_among e es = list_any (same_effect e) es

-- one effect more among those of a set, or not
module _ (e : Effect) (es : List Effect) where
  passed : (b : Bool) (x : Effect) → same_effect e x ≡ false → is_among e (cond b (x ∷ es) es) ≡ is_among e es
  passed true x other = ap (λ c. c || is_among e es) other
  passed false x other = refl

  met_here : (b : Bool) → same_effect e e ≡ true → is_among e es ≡ false → is_among e (cond b (e ∷ es) es) ≡ b
  met_here true effect_self none = ap (λ c. c || is_among e es) effect_self
  met_here false effect_self none = none

module _ (s : EffectSet) (e : Effect) where
  none_left : (es : List Effect) → is_among e es ≡ false → is_among e (filter s es) ≡ false
  none_left [] none = refl
  none_left (x ∷ es) none =
      let apart : (same_effect e x ≡ false) × (is_among e es ≡ false) = or_parts (same_effect e x) (is_among e es) none in
      passed e (filter s es) (s x) x apart.0 ∙ none_left es apart.1

  found : (es rest : List Effect) → same_effect e e ≡ true → is_among e es ≡ false → is_among e rest ≡ false → is_among e (filter s (es ++ e ∷ rest)) ≡ s e
  found [] rest effect_self none after = met_here e (filter s rest) (s e) effect_self (none_left rest after)
  found (x ∷ es) rest effect_self none after =
      let apart : (same_effect e x ≡ false) × (is_among e es ≡ false) = or_parts (same_effect e x) (is_among e es) none in
      passed e (filter s (es ++ e ∷ rest)) (s x) x apart.0 ∙ found es rest effect_self apart.1 after

-- an effect is in the set just where it is in the list
pub in_list : (s : EffectSet) (e : Effect) → is_among e (effects_of s) ≡ s e
in_list s Local = found s Local [] (Move ∷ Print ∷ Rec ∷ Scan ∷ Trap ∷ Write ∷ []) refl refl refl
in_list s Move = found s Move (Local ∷ []) (Print ∷ Rec ∷ Scan ∷ Trap ∷ Write ∷ []) refl refl refl
in_list s Print = found s Print (Local ∷ Move ∷ []) (Rec ∷ Scan ∷ Trap ∷ Write ∷ []) refl refl refl
in_list s Rec = found s Rec (Local ∷ Move ∷ Print ∷ []) (Scan ∷ Trap ∷ Write ∷ []) refl refl refl
in_list s Scan = found s Scan (Local ∷ Move ∷ Print ∷ Rec ∷ []) (Trap ∷ Write ∷ []) refl refl refl
in_list s Trap = found s Trap (Local ∷ Move ∷ Print ∷ Rec ∷ Scan ∷ []) (Write ∷ []) refl refl refl
in_list s Write = found s Write (Local ∷ Move ∷ Print ∷ Rec ∷ Scan ∷ Trap ∷ []) [] refl refl refl

-- ---- functions with the same effects

abbrev effects_in : Ground-F Ground GroundField → List Effect
effects_in (Ground-F.Fun params es answer) = es
effects_in other = []

-- functions without parameters that are one type have one set of effects
same_set : (s u : EffectSet) (e : Effect) → function_of [] s unit ≡ function_of [] u unit → s e ≡ u e
same_set s u e is = sym (in_list s e) ∙ ap (is_among e) (sym (ap effects_in (known.outs-Fun [] (effects_of s) unit)) ∙ ap (λ t. effects_in (out-Ground t)) is ∙ ap effects_in (known.outs-Fun [] (effects_of u) unit)) ∙ in_list u e

-- ---- what it means that a row has an effect

-- the set without an effect
abbrev pub without : Effect → EffectSet → EffectSet
without e s x = if same_effect e x then false else s x

wrong : {A : Type 0} → false ≡ true → A
wrong is = cc

there_too : (s : EffectSet) (e : Effect) → s e ≡ true → (x : Effect) → same_effect e x ≡ true → s x ≡ true
there_too s Local there = for_each_effect (λ x. same_effect Local x ≡ true → s x ≡ true) (λ is. there) wrong wrong wrong wrong wrong wrong
there_too s Move there = for_each_effect (λ x. same_effect Move x ≡ true → s x ≡ true) wrong (λ is. there) wrong wrong wrong wrong wrong
there_too s Print there = for_each_effect (λ x. same_effect Print x ≡ true → s x ≡ true) wrong wrong (λ is. there) wrong wrong wrong wrong
there_too s Rec there = for_each_effect (λ x. same_effect Rec x ≡ true → s x ≡ true) wrong wrong wrong (λ is. there) wrong wrong wrong
there_too s Scan there = for_each_effect (λ x. same_effect Scan x ≡ true → s x ≡ true) wrong wrong wrong wrong (λ is. there) wrong wrong
there_too s Trap there = for_each_effect (λ x. same_effect Trap x ≡ true → s x ≡ true) wrong wrong wrong wrong wrong (λ is. there) wrong
there_too s Write there = for_each_effect (λ x. same_effect Write x ≡ true → s x ≡ true) wrong wrong wrong wrong wrong wrong (λ is. there)

-- taken away and put back
put_back : (s : EffectSet) (e : Effect) → s e ≡ true → (x : Effect) → (same_effect e x || without e s x) ≡ s x
put_back s e there x = by_test (same_effect e x) (there_too s e there x)
  where
    by_test : (b : Bool) → (b ≡ true → s x ≡ true) → (b || (if b then false else s x)) ≡ s x
    by_test true also = sym (also refl)
    by_test false also = refl

with_other : (e : Effect) (u : EffectSet) → u e ≡ false → with_effect e (Some u) ≡ Some (λ x. same_effect e x || u x)
with_other e u missing = ap (λ b. if b then None else Some (λ x. same_effect e x || u x)) missing

gone : (e : Effect) (s : EffectSet) → without e s e ≡ false
gone e s = ap (λ b. if b then false else s e) (effect_self e)

pub with_back : (e : Effect) (s : EffectSet) → s e ≡ true → with_effect e (Some (without e s)) ≡ Some s
with_back e s there = with_other e (without e s) (gone e s) ∙ ap (λ u. Some u) (λ i x. put_back s e there x i)

pub with_it : (e : Effect) (u v : EffectSet) → with_effect e (Some u) ≡ Some v → v e ≡ true
with_it e u v some = by_test (u e) refl
  where
    by_test : (b : Bool) → u e ≡ b → v e ≡ true
    by_test true there = let none : None ≡ Some v = sym (ap (λ b. if b then None else Some (λ x. same_effect e x || u x)) there) ∙ some in cc
    by_test false missing = ap (λ w. w e) (same_some (sym some ∙ with_other e u missing)) ∙ ap (λ b. b || u e) (effect_self e)

module _ (σ : Grounding) (effects : Effects) (s : EffectSet) (e : Effect) (n : ℕ) (is : HasEffects σ effects s) where
  left : under σ (ty.Fun [] effects unknown.unit) ≡ Some (function_of [] s unit)
  left = function_is σ [] [] effects s unknown.unit unit refl is (under_unit σ)

  abbrev others : Effects
  others = unknown.effects_of (e ∷ []) (Var n)

  right : (u : EffectSet) → with_effect e (Some (σ.effects n)) ≡ Some u → under σ (ty.Fun [] others unknown.unit) ≡ Some (function_of [] u unit)
  right u some = function_is σ [] [] others u unknown.unit unit refl (record { same = some }) (under_unit σ)

  no_right : with_effect e (Some (σ.effects n)) ≡ None → under σ (ty.Fun [] others unknown.unit) ≡ None
  no_right none = under_function σ [] others unknown.unit ∙ ap (λ o. grounding.function_of (Some []) o (under σ unknown.unit)) none

  pub has_sound : IsMet σ (unknown.has effects e n) → s e ≡ true
  has_sound equal = by_value (with_effect e (Some (σ.effects n))) refl
    where
      by_value : (o : Option EffectSet) → with_effect e (Some (σ.effects n)) ≡ o → s e ≡ true
      by_value None none = let never : None ≡ Some equal.0 = sym (no_right none) ∙ equal.2 in cc
      by_value (Some u) some = same_set s u e (same_some (sym left ∙ (equal.1 ∙ sym equal.2 ∙ right u some))) ∙ with_it e (σ.effects n) u some

  pub has_complete : s e ≡ true → σ.effects n ≡ without e s → IsMet σ (unknown.has effects e n)
  has_complete there stands = (function_of [] s unit, left, right s (ap (λ u. with_effect e (Some u)) stands ∙ with_back e s there))
