-- Sets of effects and their lists.
use Rattle.std.proofs.Common.{◌≡◌, Bool, true, false, cond, ◌&&◌, ◌||◌, List, [], ◌∷◌, ◌++◌, refl, sym, ap, ◌∙◌, Some, not}
use Rattle.std.proofs.lemmas.Bool.{or_parts}
use Rattle.std.specs.List.{filter}
use Rattle.lk_types.proofs.SameEffect.{effects_turned, effects_tie}
use Rattle.lk_types.specs.Grounding.{before_effects}
use Rattle.lk_types.specs.Rows.{EffectSet, effects_of, same_effect}
use Rattle.lk_types.specs.declared.ty.Effect.{Effect}
use Rattle.lk_types.specs.declared.ty.Effect.TheVariants.{Local, Move, Print, Rec, Scan, Trap, Write}
use Rattle.lk_ground_types.proofs.Emptied.{with_one_effect}
use Rattle.lk_types.proofs.Parts.{same_some}
use Rattle.lk_ground_types.specs.Bound.{is_listed, without}

-- ---- the list of the effects of a set

-- one effect more among those of a set, or not
module _ (e : Effect) (es : List Effect) where
  passed : (b : Bool) (x : Effect) → same_effect e x ≡ false → is_listed (cond b (x ∷ es) es) e ≡ is_listed es e
  passed true x other = ap (λ c. c || is_listed es e) other
  passed false x other = refl

  met_here : (b : Bool) → same_effect e e ≡ true → is_listed es e ≡ false → is_listed (cond b (e ∷ es) es) e ≡ b
  met_here true itself none = ap (λ c. c || is_listed es e) itself
  met_here false itself none = none

module _ (s : EffectSet) (e : Effect) where
  none_left : (es : List Effect) → is_listed es e ≡ false → is_listed (filter s es) e ≡ false
  none_left [] none = refl
  none_left (x ∷ es) none =
      let apart = or_parts (same_effect e x) (is_listed es e) none in
      passed e (filter s es) (s x) x apart.0 ∙ none_left es apart.1

  found : (es rest : List Effect) → same_effect e e ≡ true → is_listed es e ≡ false → is_listed rest e ≡ false → is_listed (filter s (es ++ e ∷ rest)) e ≡ s e
  found [] rest itself none after = met_here e (filter s rest) (s e) itself (none_left rest after)
  found (x ∷ es) rest itself none after =
      let apart = or_parts (same_effect e x) (is_listed es e) none in
      passed e (filter s (es ++ e ∷ rest)) (s x) x apart.0 ∙ found es rest itself apart.1 after

-- an effect is in the set just where it is in the list
pub in_list : (s : EffectSet) (e : Effect) → is_listed (effects_of s) e ≡ s e
in_list s Local = found s Local [] (Move ∷ Print ∷ Rec ∷ Scan ∷ Trap ∷ Write ∷ []) refl refl refl
in_list s Move = found s Move (Local ∷ []) (Print ∷ Rec ∷ Scan ∷ Trap ∷ Write ∷ []) refl refl refl
in_list s Print = found s Print (Local ∷ Move ∷ []) (Rec ∷ Scan ∷ Trap ∷ Write ∷ []) refl refl refl
in_list s Rec = found s Rec (Local ∷ Move ∷ Print ∷ []) (Scan ∷ Trap ∷ Write ∷ []) refl refl refl
in_list s Scan = found s Scan (Local ∷ Move ∷ Print ∷ Rec ∷ []) (Trap ∷ Write ∷ []) refl refl refl
in_list s Trap = found s Trap (Local ∷ Move ∷ Print ∷ Rec ∷ Scan ∷ []) (Write ∷ []) refl refl refl
in_list s Write = found s Write (Local ∷ Move ∷ Print ∷ Rec ∷ Scan ∷ Trap ∷ []) [] refl refl refl

-- ---- lists without others

module _ (others : List Effect) (e : Effect) where
  -- where it is one of the others, it is none of those that are left
  dropped : (b c : Bool) (x : Effect) (es : List Effect) → same_effect e x ≡ b → is_listed others x ≡ c
      → is_listed (without es others) e ≡ (is_listed es e && not (is_listed others e))
      → is_listed (cond (not c) (x ∷ without es others) (without es others)) e ≡ ((b || is_listed es e) && not (is_listed others e))
  dropped true true x es same there more = more ∙ ap (λ b. is_listed es e && not b) here ∙ both_not (is_listed es e) ∙ sym (ap not here)
    where
      here : is_listed others e ≡ true
      here = ap (is_listed others) (effects_tie e x same) ∙ there

      both_not : (a : Bool) → (a && false) ≡ false
      both_not true = refl
      both_not false = refl
  dropped true false x es same there more = ap (λ b. b || is_listed (without es others) e) same ∙ sym (ap not (ap (is_listed others) (effects_tie e x same) ∙ there))
  dropped false true x es same there more = more
  dropped false false x es same there more = ap (λ b. b || is_listed (without es others) e) same ∙ more

  pub listed_without : (es : List Effect) → is_listed (without es others) e ≡ (is_listed es e && not (is_listed others e))
  listed_without [] = refl
  listed_without (x ∷ es) = dropped (same_effect e x) (is_listed others x) x es refl refl (listed_without es)

-- ---- effects before others

pub record AreApart (labels : List Effect) (below s : EffectSet) : Type 0 where
  pub is : (e : Effect) → s e ≡ (is_listed labels e || below e)
  pub apart : (e : Effect) → is_listed labels e ≡ true → below e ≡ false

or_both : (a b c : Bool) → (a || (b || c)) ≡ ((a || b) || c)
or_both true b c = refl
or_both false b c = refl

pub apart_of : (labels : List Effect) (below s : EffectSet) → before_effects labels below ≡ Some s → AreApart labels below s
apart_of [] below s is = record { is = λ e. ap (λ s. s e) (sym (same_some is)); apart = λ e wrong. (let h : true ≡ false = sym wrong in by_wrong (below e) h) }
  where
    by_wrong : (b : Bool) → true ≡ false → b ≡ false
    by_wrong b wrong = cc
apart_of (x ∷ labels) below s is =
    let w = with_one_effect x (before_effects labels below) s is in
    let more = apart_of labels below w.0 w.1 in
    record {
      is = λ e. ap (λ s. s e) w.3 ∙ ap (λ b. b || w.0 e) (effects_turned x e) ∙ ap (λ b. same_effect e x || b) (more.is e) ∙ or_both (same_effect e x) (is_listed labels e) (below e);
      apart = λ e there. by_test more w.2 e (same_effect e x) refl there;
    }
  where
    by_test : {rest : EffectSet} → AreApart labels below rest → rest x ≡ false → (e : Effect) (b : Bool) → same_effect e x ≡ b → (b || is_listed labels e) ≡ true → below e ≡ false
    by_test {rest} more lacks e true same there =
        let both = or_parts (is_listed labels x) (below x) (sym (more.is x) ∙ lacks) in
        ap below (effects_tie e x same) ∙ both.1
    by_test {rest} more lacks e false same there = more.apart e there

without_front : (a b : Bool) → (a ≡ true → b ≡ false) → ((a || b) && not a) ≡ b
without_front true b apart = sym (apart refl)
without_front false true apart = refl
without_front false false apart = refl

-- what is left of the list of all effects without those before is the list of what stands behind them
pub left_of : (labels all : List Effect) (below s : EffectSet) → before_effects labels below ≡ Some s → effects_of s ≡ all → is_listed (without all labels) ≡ below
left_of labels all below s is are = λ i e. at e i
  where
    parts : AreApart labels below s
    parts = apart_of labels below s is

    at : (e : Effect) → is_listed (without all labels) e ≡ below e
    at e =
        listed_without labels e all
        ∙ ap (λ b. b && not (is_listed labels e)) (ap (λ es. is_listed es e) (sym are) ∙ in_list s e ∙ parts.is e)
        ∙ without_front (is_listed labels e) (below e) (parts.apart e)
