-- Effects with none of them twice are their union, and disjoint from what stands behind them.
use Rattle.std.proofs.Common.{◌≡◌, Bool, true, false, ◌||◌, ⊎_elim, List, [], ◌∷◌, refl, sym, ap, ◌∙◌, Some}
use Rattle.std.specs.List.{list_any}
use Rattle.lk_types.proofs.SameEffect.{effects_turned}
use Rattle.lk_types.specs.Grounding.{before_effects}
use Rattle.lk_types.specs.Rows.{EffectSet, no_effects, same_effect, with_effect}
use Rattle.lk_types.specs.declared.ty.Effect.{Effect}
use Rattle.lk_typing.proofs.Even.Loose.{is_union}
use Rattle.lk_typing.specs.EffectRows.{union}
use Rattle.lk_unify.proofs.OpenEffectSets.{effect_cases, with_more, with_new, with_one}

-- one effect more before others
one_before : (l : Effect) (ls : List Effect) (s : EffectSet) (x : Effect) → with_more l (union ls s) x ≡ union (l ∷ ls) s x
one_before l ls s x = by_test (same_effect l x) (list_any (same_effect x) ls) (s x) ∙ ap (λ b. (b || list_any (same_effect x) ls) || s x) (effects_turned l x)
  where
    by_test : (a b c : Bool) → (a || (b || c)) ≡ ((a || b) || c)
    by_test true b c = refl
    by_test false b c = refl

-- none of them is behind them
pub none_behind : (ls : List Effect) (s p : EffectSet) → before_effects ls s ≡ Some p → (x : Effect) → list_any (same_effect x) ls ≡ true → s x ≡ false
none_behind [] s p is x there = cc
none_behind (l ∷ ls) s p is x there =
    let b = with_one l (before_effects ls s) p is in
    let lack : union ls s l ≡ false = ap (λ q. q l) (sym (is_union ls s b.0 b.1)) ∙ b.2 in
    ⊎_elim
    (λ (h : (same_effect x l ≡ true) × (x ≡ l)). ap s h.1 ∙ last (list_any (same_effect l) ls) (s l) lack)
    (λ (h : same_effect x l ≡ false). none_behind ls s b.0 b.1 x (ap (λ c. c || list_any (same_effect x) ls) (sym h) ∙ there))
    (effect_cases x l)
  where
    last : (a b : Bool) → (a || b) ≡ false → b ≡ false
    last true b is = cc
    last false b is = is

-- they may stand alone
pub alone_too : (ls : List Effect) (s p : EffectSet) → before_effects ls s ≡ Some p → before_effects ls no_effects ≡ Some (union ls no_effects)
alone_too [] s p is = refl
alone_too (l ∷ ls) s p is =
    let b = with_one l (before_effects ls s) p is in
    let lack : union ls s l ≡ false = ap (λ q. q l) (sym (is_union ls s b.0 b.1)) ∙ b.2 in
    ap (with_effect l) (alone_too ls s b.0 b.1)
    ∙ with_new l (union ls no_effects) (front (list_any (same_effect l) ls) (s l) lack)
    ∙ ap Some (λ i x. one_before l ls no_effects x i)
  where
    front : (a b : Bool) → (a || b) ≡ false → (a || false) ≡ false
    front true b is = cc
    front false b is = refl
