-- The row of a set of effects has each effect of the set with the unit type, and nothing else, so that it shows the set.
use Rattle.std.proofs.Common.{◌≡◌, Bool, true, false, ◌||◌, ◌⊎◌, inl, inr, ⊎_elim, List, [], ◌∷◌, map, refl, sym, ◌∙◌, ap, Option, Some, None, cond}
use Rattle.std.specs.Cmp.Lexicographic.{nat_list_cmp_total}
use Rattle.std.specs.FinMap as fin
use Rattle.std.specs.List.{filter}
use Rattle.std.specs.Option.{option_map}
use Rattle.std.specs.Ordering.{eq_by_cmp}
use Rattle.std.proofs.lemmas.Bool.{cases_Bool}
use Rattle.lk_types.proofs.SameEffect.{for_each_effect}
use Rattle.lk_types.specs.Rows.{Label, EffectSet, label_order, same_effect, effects_of}
use Rattle.lk_types.specs.TypeText.{effect_word}
use Rattle.lk_types.specs.declared.ground.Ground.TheVariants as known
use Rattle.lk_types.specs.declared.ty.Effect.{Effect}
use Rattle.lk_types.specs.declared.ty.Effect.TheVariants.{Local, Move, Print, Rec, Scan, Trap, Write}
use Rattle.lk_types.specs.declared.ty.Ty.{Ty}
use Rattle.lk_types.proofs.LabelMaps.{Tied, Differ, tie_cases, same_maps, labels_differ}
use Rattle.lk_unify.proofs.OpenEffectSets.{effect_cases}
use Rattle.lk_unify.proofs.OpenGround.{get-as_row}
use Rattle.lk_arena.specs.Kinds.{IsEffectName}
use Rattle.lk_arena.specs.Openings.{OpenRow, OpenEffects, unit_type, as_type, as_row, as_effects}
use Rattle.lk_arena.specs.Values.{effect_row}

-- ---- words of effects

abbrev Tested : Effect → Effect → Type 0
Tested e x = eq_by_cmp label_order (effect_word x) (effect_word e) ≡ same_effect e x

-- words are told apart as their effects are
word_test : (e x : Effect) → Tested e x
word_test Local = for_each_effect (Tested Local) refl refl refl refl refl refl refl
word_test Move = for_each_effect (Tested Move) refl refl refl refl refl refl refl
word_test Print = for_each_effect (Tested Print) refl refl refl refl refl refl refl
word_test Rec = for_each_effect (Tested Rec) refl refl refl refl refl refl refl
word_test Scan = for_each_effect (Tested Scan) refl refl refl refl refl refl refl
word_test Trap = for_each_effect (Tested Trap) refl refl refl refl refl refl refl
word_test Write = for_each_effect (Tested Write) refl refl refl refl refl refl refl

abbrev pub IsNoEffect : Label → Type 0
IsNoEffect l = (e : Effect) → l ≡ effect_word e → ⊥

-- a label is the name of an effect or of none
pub name_cases : (l : Label) → IsEffectName l ⊎ IsNoEffect l
name_cases l =
    other Local (λ not_local. other Move (λ not_move. other Print (λ not_print. other Rec (λ not_rec. other Scan (λ not_scan. other Trap (λ not_trap. other Write (λ not_write.
    inr (for_each_effect (λ e. l ≡ effect_word e → ⊥) not_local not_move not_print not_rec not_scan not_trap not_write))))))))
  where
    other : (e : Effect) → ((l ≡ effect_word e → ⊥) → IsEffectName l ⊎ IsNoEffect l) → IsEffectName l ⊎ IsNoEffect l
    other e otherwise = ⊎_elim (λ (h : Tied l (effect_word e)). inl (e, h.1)) (λ (h : Differ l (effect_word e)). otherwise h.1) (tie_cases l (effect_word e))

-- ---- what the row has at a label

-- the unit type where the test holds
abbrev pub unit_if : Bool → Option Ty
unit_if b = cond b (Some unit_type) None

abbrev pair : Effect → Label × Ty
pair e = (effect_word e, unit_type)

abbrev all : List Effect
all = Local ∷ Move ∷ Print ∷ Rec ∷ Scan ∷ Trap ∷ Write ∷ []

abbrev among : Effect → List Effect → Bool
among x [] = false
among x (e ∷ es) = same_effect e x || among x es

module _ (s : EffectSet) where
  kept : (x : Effect) (es : List Effect) → s x ≡ true → fin.find label_order (effect_word x) (map pair (filter s es)) ≡ unit_if (among x es)
  kept x [] h = refl
  kept x (e ∷ es) h =
      ⊎_elim
      (λ (k : (same_effect e x ≡ true) × (e ≡ x)).
      ap (λ b. fin.find label_order (effect_word x) (map pair (cond b (e ∷ filter s es) (filter s es)))) (ap s k.1 ∙ h)
      ∙ ap (λ b. cond b (Some unit_type) (fin.find label_order (effect_word x) (map pair (filter s es)))) (word_test e x ∙ k.0)
      ∙ ap (λ b. unit_if (b || among x es)) (sym k.0))
      (λ (k : same_effect e x ≡ false).
      by_test (s e) k ∙ kept x es h ∙ ap (λ b. unit_if (b || among x es)) (sym k))
      (effect_cases e x)
    where
      by_test : (b : Bool) → same_effect e x ≡ false
          → fin.find label_order (effect_word x) (map pair (cond b (e ∷ filter s es) (filter s es))) ≡ fin.find label_order (effect_word x) (map pair (filter s es))
      by_test true k = ap (λ b. cond b (Some unit_type) (fin.find label_order (effect_word x) (map pair (filter s es)))) (word_test e x ∙ k)
      by_test false k = refl

  left_out : (x : Effect) (es : List Effect) → s x ≡ false → fin.find label_order (effect_word x) (map pair (filter s es)) ≡ None
  left_out x [] h = refl
  left_out x (e ∷ es) h = by_test (s e) refl (left_out x es h)
    where
      by_test : (b : Bool) → s e ≡ b → fin.find label_order (effect_word x) (map pair (filter s es)) ≡ None
          → fin.find label_order (effect_word x) (map pair (cond b (e ∷ filter s es) (filter s es))) ≡ None
      by_test true is ih =
          ⊎_elim
          (λ (k : (same_effect e x ≡ true) × (e ≡ x)). (let f : true ≡ false = sym is ∙ ap s k.1 ∙ h in cc))
          (λ (k : same_effect e x ≡ false). ap (λ b. cond b (Some unit_type) (fin.find label_order (effect_word x) (map pair (filter s es)))) (word_test e x ∙ k) ∙ ih)
          (effect_cases e x)
      by_test false is ih = ih

  no_name : (l : Label) (es : List Effect) → IsNoEffect l → fin.find label_order l (map pair (filter s es)) ≡ None
  no_name l [] n = refl
  no_name l (e ∷ es) n = by_test (s e) (no_name l es n)
    where
      by_test : (b : Bool) → fin.find label_order l (map pair (filter s es)) ≡ None → fin.find label_order l (map pair (cond b (e ∷ filter s es) (filter s es))) ≡ None
      by_test true ih = ap (λ b. cond b (Some unit_type) (fin.find label_order l (map pair (filter s es)))) (labels_differ l (effect_word e) (n e)) ∙ ih
      by_test false ih = ih

pub at_effect : (s : OpenEffects) (x : Effect) → fin.get (effect_row s).fields (effect_word x) ≡ unit_if (s.labels x)
at_effect s x =
    fin.get-from_entries nat_list_cmp_total (map pair (effects_of s.labels)) (effect_word x)
    ∙ ⊎_elim
    (λ (h : s.labels x ≡ true). kept s.labels x all h ∙ ap unit_if (for_each_effect (λ x. among x all ≡ true) refl refl refl refl refl refl refl x ∙ sym h))
    (λ (h : s.labels x ≡ false). left_out s.labels x all h ∙ ap unit_if (sym h))
    (cases_Bool (s.labels x))

pub at_other : (s : OpenEffects) (l : Label) → IsNoEffect l → fin.get (effect_row s).fields l ≡ None
at_other s l n = fin.get-from_entries nat_list_cmp_total (map pair (effects_of s.labels)) l ∙ no_name s.labels l all n

-- a row with this at each label is that of the set
pub is_effect_row : (m : OpenRow) (s : OpenEffects) → m.tail ≡ s.tail → ((x : Effect) → fin.get m.fields (effect_word x) ≡ unit_if (s.labels x))
    → ((l : Label) → IsNoEffect l → fin.get m.fields l ≡ None)
    → m ≡ effect_row s
is_effect_row m s ends named others =
    let fields : m.fields ≡ (effect_row s).fields =
    same_maps m.fields (effect_row s).fields (λ l.
    ⊎_elim
    (λ (h : IsEffectName l). ap (fin.get m.fields) h.1 ∙ named h.0 ∙ sym (ap (fin.get (effect_row s).fields) h.1 ∙ at_effect s h.0))
    (λ (h : IsNoEffect l). others l h ∙ sym (at_other s l h))
    (name_cases l)) in
    λ i. record { fields = fields i; tail = ends i }

unit_once : (a b : Bool) → unit_if a ≡ unit_if b → a ≡ b
unit_once true true e = refl
unit_once true false e = (let f : Some unit_type ≡ None = e in cc)
unit_once false true e = (let f : None ≡ Some unit_type = e in cc)
unit_once false false e = refl

-- the row says which effects there are
pub effect_row-once : (s t : OpenEffects) → effect_row s ≡ effect_row t → s ≡ t
effect_row-once s t e =
    let labels : s.labels ≡ t.labels = λ i x. unit_once (s.labels x) (t.labels x) (sym (at_effect s x) ∙ ap (λ m. fin.get m.fields (effect_word x)) e ∙ at_effect t x) i in
    let ends : s.tail ≡ t.tail = ap (λ m. m.tail) e in
    λ i. record { labels = labels i; tail = ends i }
