-- Sets of effects with an end, under a grounding: what one effect more becomes, and what a set becomes at each effect.
use Rattle.std.proofs.Common.{◌≡◌, Bool, true, false, ◌||◌, ◌⊎◌, inl, inr, ⊎_elim, List, [], ◌∷◌, refl, sym, ◌∙◌, ap, subst, Option, Some, None, cond}
use Rattle.std.proofs.lemmas.Bool.{or_parts, cases_Bool}
use Rattle.std.specs.List.{filter}
use Rattle.std.specs.Prelude.{if◌then◌else◌}
use Rattle.lk_types.proofs.Parts.{same_some}
use Rattle.lk_types.proofs.SameEffect.{effect_self, for_each_effect, effects_tie}
use Rattle.lk_types.specs.Grounding.{Grounding, effect_tail, effects_under, before_effects}
use Rattle.lk_types.specs.Rows.{EffectSet, same_effect, with_effect, effects_of}
use Rattle.lk_types.specs.declared.ty.Effect.{Effect}
use Rattle.lk_types.specs.declared.ty.Effect.TheVariants.{Local, Move, Print, Rec, Scan, Trap, Write}
use Rattle.lk_types.specs.declared.ty.RowTail.{RowTail}
use Rattle.lk_arena.specs.Openings.{OpenEffects, only_effects_tail, effects_type}

-- ---- effects

abbrev Told : Effect → Effect → Type 0
Told e x = same_effect e x ≡ true → e ≡ x

never : {A : Type 0} → false ≡ true → A
never e = cc

pub effect_cases : (e x : Effect) → ((same_effect e x ≡ true) × (e ≡ x)) ⊎ (same_effect e x ≡ false)
effect_cases e x = by_test (same_effect e x) refl
  where
    by_test : (b : Bool) → same_effect e x ≡ b → ((same_effect e x ≡ true) × (e ≡ x)) ⊎ (same_effect e x ≡ false)
    by_test true is = inl (is, effects_tie e x is)
    by_test false is = inr is

-- the set with one effect more
abbrev pub with_more : Effect → EffectSet → EffectSet
with_more e s = λ x. same_effect e x || s x

-- ---- what a set becomes at each effect

abbrev pub IsSetAt : Bool → Bool → Bool → Type 0
IsSetAt true below x = (below ≡ false) × (x ≡ true)
IsSetAt false below x = x ≡ below

-- whether an effect is in a list, and that none is in it twice
abbrev has : Effect → List Effect → Bool
has e [] = false
has e (x ∷ es) = same_effect x e || has e es

abbrev Distinct : List Effect → Type 0
Distinct [] = Unit {0}
Distinct (x ∷ es) = (has x es ≡ false) × Distinct es

pub with_one : (e : Effect) (o : Option EffectSet) (u : EffectSet) → with_effect e o ≡ Some u → (s : EffectSet) × (o ≡ Some s) × (s e ≡ false) × (u ≡ with_more e s)
with_one e None u is = cc
with_one e (Some s) u is = by_test (s e) refl is
  where
    by_test : (b : Bool) → s e ≡ b → (if b then None else Some (with_more e s)) ≡ Some u → (t : EffectSet) × (Some s ≡ Some t) × (t e ≡ false) × (u ≡ with_more e t)
    by_test true b is = cc
    by_test false b is = (s, refl, b, sym (same_some is))

pub with_new : (e : Effect) (s : EffectSet) → s e ≡ false → with_effect e (Some s) ≡ Some (with_more e s)
with_new e s n = ap (λ b. if b then None else Some (with_more e s)) n

same_options : (o p : Option EffectSet) → ((s : EffectSet) → o ≡ Some s → p ≡ Some s) → ((s : EffectSet) → p ≡ Some s → o ≡ Some s) → o ≡ p
same_options None None f g = refl
same_options None (Some s) f g = g s refl
same_options (Some s) p f g = sym (f s refl)

pub lower : (a b x : Bool) → IsSetAt a b x → x ≡ false → b ≡ false
lower true b x is e = is.0
lower false b x is e = sym is ∙ e

module _ (base : EffectSet) where
  abbrev SetsTo : List Effect → EffectSet → Type 0
  SetsTo es s = (x : Effect) → IsSetAt (has x es) (base x) (s x)

  sets-to : (es : List Effect) (s : EffectSet) → before_effects es base ≡ Some s → SetsTo es s
  sets-to [] s e x = ap (λ t. t x) (sym (same_some e))
  sets-to (e ∷ es) s is x =
      let w = with_one e (before_effects es base) s is in
      let rest = sets-to es w.0 w.1 in
      ⊎_elim
      (λ (h : (same_effect e x ≡ true) × (e ≡ x)).
      subst (λ b. IsSetAt (b || has x es) (base x) (s x)) (sym h.0)
      (lower (has x es) (base x) (w.0 x) (rest x) (ap w.0 (sym h.1) ∙ w.2), ap (λ t. t x) w.3 ∙ ap (λ b. b || w.0 x) h.0))
      (λ (h : same_effect e x ≡ false).
      subst (λ b. IsSetAt (b || has x es) (base x) (s x)) (sym h)
      (subst (IsSetAt (has x es) (base x)) (sym (ap (λ t. t x) w.3 ∙ ap (λ b. b || w.0 x) h)) (rest x)))
      (effect_cases e x)

  -- the set without an effect
  abbrev without : Effect → EffectSet → EffectSet
  without e s = λ x. if same_effect e x then false else s x

  module _ (e : Effect) (es : List Effect) (lone : has e es ≡ false) (s : EffectSet) (sets : SetsTo (e ∷ es) s) where
    own : (base e ≡ false) × (s e ≡ true)
    own = subst (λ b. IsSetAt (b || has e es) (base e) (s e)) (effect_self e) (sets e)

    less : SetsTo es (without e s)
    less x =
        ⊎_elim
        (λ (h : (same_effect e x ≡ true) × (e ≡ x)).
        subst (λ b. IsSetAt b (base x) (without e s x)) (sym (ap (λ y. has y es) (sym h.1) ∙ lone))
        (ap (λ b. if b then false else s x) h.0 ∙ sym (ap base (sym h.1) ∙ own.0)))
        (λ (h : same_effect e x ≡ false).
        subst (IsSetAt (has x es) (base x)) (sym (ap (λ b. if b then false else s x) h))
        (subst (λ b. IsSetAt (b || has x es) (base x) (s x)) h (sets x)))
        (effect_cases e x)

    at : (x : Effect) → with_more e (without e s) x ≡ s x
    at x =
        ⊎_elim
        (λ (h : (same_effect e x ≡ true) × (e ≡ x)). ap (λ b. b || without e s x) h.0 ∙ sym (ap s (sym h.1) ∙ own.1))
        (λ (h : same_effect e x ≡ false). ap (λ b. b || (if b then false else s x)) h)
        (effect_cases e x)

    step : before_effects es base ≡ Some (without e s) → before_effects (e ∷ es) base ≡ Some s
    step is = ap (with_effect e) is ∙ with_new e (without e s) (ap (λ b. if b then false else s e) (effect_self e)) ∙ ap Some (λ i x. at x i)

  sets-from : (es : List Effect) → Distinct es → (s : EffectSet) → SetsTo es s → before_effects es base ≡ Some s
  sets-from [] d s sets = ap Some (λ i x. sym (sets x) i)
  sets-from (e ∷ es) d s sets = step e es d.0 s sets (sets-from es d.1 (without e s) (less e es d.0 s sets))

  -- lists of the same effects
  same_lists : (es fs : List Effect) → Distinct es → Distinct fs → ((x : Effect) → has x es ≡ has x fs) → before_effects es base ≡ before_effects fs base
  same_lists es fs d e same =
      same_options (before_effects es base) (before_effects fs base)
      (λ s is. sets-from fs e s (λ x. subst (λ b. IsSetAt b (base x) (s x)) (same x) (sets-to es s is x)))
      (λ s is. sets-from es d s (λ x. subst (λ b. IsSetAt b (base x) (s x)) (sym (same x)) (sets-to fs s is x)))

-- ---- the list of a set

module _ (s : EffectSet) where
  has-none : (x : Effect) (es : List Effect) → has x es ≡ false → has x (filter s es) ≡ false
  has-none x [] n = refl
  has-none x (e ∷ es) n =
      let both = or_parts (same_effect e x) (has x es) n in
      by_test (s e) both.0 (has-none x es both.1)
    where
      by_test : (b : Bool) → same_effect e x ≡ false → has x (filter s es) ≡ false → has x (cond b (e ∷ filter s es) (filter s es)) ≡ false
      by_test true h ih = ap (λ b. b || has x (filter s es)) h ∙ ih
      by_test false h ih = ih

  filtered : (es : List Effect) → Distinct es → Distinct (filter s es)
  filtered [] d = tt
  filtered (e ∷ es) d = by_test (s e) (has-none e es d.0) (filtered es d.1)
    where
      by_test : (b : Bool) → has e (filter s es) ≡ false → Distinct (filter s es) → Distinct (cond b (e ∷ filter s es) (filter s es))
      by_test true h ih = (h, ih)
      by_test false h ih = ih

  out_of_set : (x : Effect) (es : List Effect) → s x ≡ false → has x (filter s es) ≡ false
  out_of_set x [] n = refl
  out_of_set x (e ∷ es) n = by_test (s e) refl (out_of_set x es n)
    where
      by_test : (b : Bool) → s e ≡ b → has x (filter s es) ≡ false → has x (cond b (e ∷ filter s es) (filter s es)) ≡ false
      by_test true is ih =
          ⊎_elim (λ (h : (same_effect e x ≡ true) × (e ≡ x)). (let f : false ≡ true = sym n ∙ ap s (sym h.1) ∙ is in never f))
          (λ (h : same_effect e x ≡ false). ap (λ b. b || has x (filter s es)) h ∙ ih) (effect_cases e x)
      by_test false is ih = ih

  in_set : (x : Effect) (es : List Effect) → s x ≡ true → has x es ≡ true → has x (filter s es) ≡ true
  in_set x [] n h = never h
  in_set x (e ∷ es) n h =
      ⊎_elim
      (λ (k : (same_effect e x ≡ true) × (e ≡ x)).
      ap (λ b. has x (cond b (e ∷ filter s es) (filter s es))) (ap s k.1 ∙ n) ∙ ap (λ b. b || has x (filter s es)) k.0)
      (λ (k : same_effect e x ≡ false). by_test (s e) k (in_set x es n (ap (λ b. b || has x es) (sym k) ∙ h)))
      (effect_cases e x)
    where
      by_test : (b : Bool) → same_effect e x ≡ false → has x (filter s es) ≡ true → has x (cond b (e ∷ filter s es) (filter s es)) ≡ true
      by_test true k ih = ap (λ b. b || has x (filter s es)) k ∙ ih
      by_test false k ih = ih

  abbrev seven : List Effect
  seven = Local ∷ Move ∷ Print ∷ Rec ∷ Scan ∷ Trap ∷ Write ∷ []

  -- the list has the effects of the set
  listed : (x : Effect) → has x (effects_of s) ≡ s x
  listed x =
      ⊎_elim (λ (h : s x ≡ true). in_set x seven h (for_each_effect (λ x. has x seven ≡ true) refl refl refl refl refl refl refl x) ∙ sym h)
      (λ (h : s x ≡ false). out_of_set x seven h ∙ sym h) (cases_Bool (s x))

  listed_once : Distinct (effects_of s)
  listed_once = filtered seven (refl, (refl, (refl, (refl, (refl, (refl, (refl, tt)))))))

-- the set becomes s
pub set_reads : (τ : Grounding) (r : OpenEffects) (s : EffectSet) → effects_under τ (effects_type r) ≡ Some s → (x : Effect) → IsSetAt (r.labels x) (effect_tail τ r.tail x) (s x)
set_reads τ r s e x = subst (λ b. IsSetAt b (effect_tail τ r.tail x) (s x)) (listed r.labels x) (sets-to (effect_tail τ r.tail) (effects_of r.labels) s e x)

pub set_read : (τ : Grounding) (r : OpenEffects) (s : EffectSet) → ((x : Effect) → IsSetAt (r.labels x) (effect_tail τ r.tail x) (s x)) → effects_under τ (effects_type r) ≡ Some s
set_read τ r s sets =
    sets-from (effect_tail τ r.tail) (effects_of r.labels) (listed_once r.labels) s
    (λ x. subst (λ b. IsSetAt b (effect_tail τ r.tail x) (s x)) (sym (listed r.labels x)) (sets x))

-- an effect that wasn't there
pub effect-under : (τ : Grounding) (r : OpenEffects) (e : Effect) → r.labels e ≡ false
    → effects_under τ (effects_type (record { labels = with_more e r.labels; tail = r.tail })) ≡ with_effect e (effects_under τ (effects_type r))
effect-under τ r e n =
    same_lists (effect_tail τ r.tail) (effects_of (with_more e r.labels)) (e ∷ effects_of r.labels) (listed_once (with_more e r.labels)) (listed r.labels e ∙ n, listed_once r.labels)
    (λ x. listed (with_more e r.labels) x ∙ ap (λ b. same_effect e x || b) (sym (listed r.labels x)))

pub only_effects-under : (τ : Grounding) (tail : RowTail) → effects_under τ (effects_type (only_effects_tail tail)) ≡ Some (effect_tail τ tail)
only_effects-under τ tail = set_read τ (only_effects_tail tail) (effect_tail τ tail) (λ x. refl)
