-- Values that are ground are read at every node where they are at the classes of which nothing is known.
use Rattle.std.proofs.Common.{◌≡◌, ℕ, zero, suc, ◌<◌, true, List, [], ◌∷◌, length, map, refl, sym, ◌∙◌, ap, subst, arith, Some}
use Rattle.lk_classes.specs.Classes.{class_at}
use Rattle.lk_types.proofs.Members.{each_weaker, each_from_map}
use Rattle.lk_types.specs.Each.{Each}
use Rattle.lk_types.specs.Grounding.{Grounding}
use Rattle.lk_types.specs.Rows.{no_fields, no_effects}
use Rattle.lk_types.specs.declared.ty.RowTail.TheVariants.{Closed}
use Rattle.lk_types.specs.declared.ty.Ty.TheVariants as ty
use Rattle.lk_types.specs.declared.ty.TyRow.{roll-TyRow}
use Rattle.lk_arena.proofs.EachLemmas.{Each-zip}
use Rattle.lk_types.proofs.LabelMaps.{no_entries}
use Rattle.lk_unify.proofs.OpenEffectRows.{effect_row-once}
use Rattle.lk_unify.proofs.OpenEffectSets.{only_effects-under}
use Rattle.lk_unify.proofs.OpenGround.{as_row-once, as_row-empty, as_effects-once}
use Rattle.lk_unify.proofs.OpenReads.{Reads, row_once, made_reads}
use Rattle.lk_unify.proofs.OpenReadsRows.{fields_before_reads, effects_before_reads}
use Rattle.lk_unify.proofs.OpenRows.{only_tail-under}
use Rattle.lk_arena.specs.Kinds.{Kind, OfTypes, OfFields, OfEffects, OfUnit, OfNothing, HasKind, AreKinded, IsEffectName}
use Rattle.lk_arena.specs.Openings.{only_tail, only_effects_tail, field_type, row_type, unit_type, as_effects}
use Rattle.lk_arena.specs.Order.{IsRanked}
use Rattle.lk_arena.specs.Shapes.{shape_at, parts_of, IsBuilt, IsArena, WeakNodes, is_loose_shape}
use Rattle.lk_arena.specs.Values.{Value, Plain, OfRow, IsMadeOf, effect_row}
use Rattle.lk_arena.specs.declared.node.Field.{Field}
use Rattle.lk_arena.specs.declared.node.Head.TheVariants as head
use Rattle.lk_arena.specs.declared.node.Shape.{Shape}
use Rattle.lk_arena.specs.declared.node.Shape.TheVariants.{Free, Open, Empty, Made}
use Rattle.lk_arena.specs.declared.node.Shape.TheVariants as shape

-- ---- rows without fields and without effects

pub unit_type-is : ty.Fields (row_type (only_tail Closed)) ≡ unit_type
unit_type-is = ap (λ es. ty.Fields (roll-TyRow (record { fields = map field_type es; tail = Closed }))) no_entries

pub effect_row-none : effect_row (only_effects_tail Closed) ≡ only_tail Closed
effect_row-none = refl

empty_row_reads : (τ : Grounding) (x y : Value) → x ≡ OfRow (only_tail Closed) → y ≡ OfRow (only_tail Closed) → Reads τ OfFields x y
empty_row_reads τ x y a b m e =
    let none : no_fields ≡ m = as_row-once no_fields m (as_row-empty ∙ row_once (sym b ∙ e)) in
    (only_tail Closed, a, only_tail-under τ Closed ∙ ap Some none)

empty_effects_reads : (τ : Grounding) (x y : Value) → x ≡ OfRow (only_tail Closed) → y ≡ OfRow (only_tail Closed) → Reads τ OfEffects x y
empty_effects_reads τ x y a b s e =
    let none : as_effects no_effects ≡ as_effects s = effect_row-once (as_effects no_effects) (as_effects s) (effect_row-none ∙ row_once (sym b ∙ e)) in
    (only_effects_tail Closed, a ∙ ap OfRow (sym effect_row-none), only_effects-under τ Closed ∙ ap Some (as_effects-once no_effects s none))

-- ---- over an arena

module _ (shapes : List Shape) (classes : List ℕ) (arena : IsArena shapes classes) (kind : ℕ → Kind) (kinded : AreKinded shapes classes kind) where
  module _ (w : ℕ → Value) (fits : WeakNodes shapes classes w) where
    by_class : (i : ℕ) → i < length shapes → w i ≡ w (class_at classes i)
    by_class i b = fits.respects i (let n : length classes ≡ length shapes = arena.named.count in omega arith)

    nothing_built : (s : Shape) (x : Value) → HasKind kind OfNothing s → IsBuilt s w x → x ≡ OfRow (only_tail Closed)
    nothing_built Empty x h b = b
    nothing_built _ x h b = absurd h

    nothing_value : (i : ℕ) → i < length shapes → kind i ≡ OfNothing → w i ≡ OfRow (only_tail Closed)
    nothing_value i b k =
        let c = class_at classes i in
        let l : c < length shapes = arena.named.below i b in
        by_class i b ∙ nothing_built (shape_at shapes c) (w c) (subst (λ k. HasKind kind k (shape_at shapes c)) ((kinded i b).0 ∙ k) (kinded c l).1) (fits.builds c l (arena.named.named i b))

    unit_built : (s : Shape) (x : Value) → HasKind kind OfUnit s → Each (λ p. p < length shapes) (parts_of s) → IsBuilt s w x → x ≡ Plain unit_type
    unit_built (Made head.Fields (p ∷ [])) x h l b =
        let made : x ≡ Plain (ty.Fields (row_type (only_tail Closed))) = subst (λ y. IsMadeOf head.Fields (y ∷ []) x) (nothing_value p l.0 h) b in
        made ∙ ap Plain unit_type-is
    unit_built _ x h l b = absurd h

    -- a node of the unit type has it as its value
    pub unit_value : (i : ℕ) → i < length shapes → kind i ≡ OfUnit → w i ≡ Plain unit_type
    unit_value i b k =
        let c = class_at classes i in
        let l : c < length shapes = arena.named.below i b in
        by_class i b
        ∙ unit_built (shape_at shapes c) (w c) (subst (λ k. HasKind kind k (shape_at shapes c)) ((kinded i b).0 ∙ k) (kinded c l).1) (arena.nodes c l) (fits.builds c l (arena.named.named i b))

  module _ (τ : Grounding) (u v : ℕ → Value) (first : WeakNodes shapes classes u) (second : WeakNodes shapes classes v) where
    abbrev IsRead : ℕ → Type 0
    IsRead p = Reads τ (kind p) (u p) (v p)

    units : (w : ℕ → Value) → WeakNodes shapes classes w → (fs : List Field) → Each (λ f. IsEffectName f.label × (kind f.node ≡ OfUnit)) fs
        → Each (λ f. f.node < length shapes) fs → Each (λ f. w f.node ≡ Plain unit_type) fs
    units w fits fs = Each-zip (λ f. IsEffectName f.label × (kind f.node ≡ OfUnit)) (λ f. f.node < length shapes) (λ f. w f.node ≡ Plain unit_type) (λ f h l. unit_value w fits f.node l h.1) fs

    built_reads : (k : Kind) (s : Shape) (x y : Value) → HasKind kind k s → Each (λ p. p < length shapes) (parts_of s) → Each IsRead (parts_of s) → (is_loose_shape s ≡ true → Reads τ k x y)
        → IsBuilt s u x → IsBuilt s v y → Reads τ k x y
    built_reads OfTypes Free x y h l reads loose a b = loose refl
    built_reads OfTypes (Made g ps) x y h l reads loose a b = made_reads τ kind u v g ps x y h a b reads
    built_reads OfTypes Open x y h l reads loose a b = absurd h
    built_reads OfTypes Empty x y h l reads loose a b = absurd h
    built_reads OfTypes (shape.Row fs t) x y h l reads loose a b = absurd h
    built_reads OfFields Open x y h l reads loose a b = loose refl
    built_reads OfFields Empty x y h l reads loose a b = empty_row_reads τ x y a b
    built_reads OfFields (shape.Row fs t) x y h l reads loose a b =
        fields_before_reads τ u v fs (u t) (v t) x y a b
        (Each-zip (λ f. kind f.node ≡ OfTypes) (λ f. IsRead f.node) (λ f. Reads τ OfTypes (u f.node) (v f.node)) (λ f k r. subst (λ k. Reads τ k (u f.node) (v f.node)) k r) fs h.0
        (each_from_map IsRead (λ f. f.node) fs reads.1))
        (subst (λ k. Reads τ k (u t) (v t)) h.1 reads.0)
    built_reads OfFields Free x y h l reads loose a b = absurd h
    built_reads OfFields (Made g ps) x y h l reads loose a b = absurd h
    built_reads OfEffects Open x y h l reads loose a b = loose refl
    built_reads OfEffects Empty x y h l reads loose a b = empty_effects_reads τ x y a b
    built_reads OfEffects (shape.Row fs t) x y h l reads loose a b =
        let below : Each (λ f. f.node < length shapes) fs = each_from_map (λ p. p < length shapes) (λ f. f.node) fs l.1 in
        effects_before_reads τ u v fs (u t) (v t) x y a b (each_weaker (λ f. IsEffectName f.label × (kind f.node ≡ OfUnit)) (λ f. IsEffectName f.label) (λ f k. k.0) fs h.0)
        (units u first fs h.0 below) (units v second fs h.0 below) (subst (λ k. Reads τ k (u t) (v t)) h.1 reads.0)
    built_reads OfEffects Free x y h l reads loose a b = absurd h
    built_reads OfEffects (Made g ps) x y h l reads loose a b = absurd h
    built_reads OfUnit s x y h l reads loose a b = tt
    built_reads OfNothing s x y h l reads loose a b = tt

    module _ (rank : ℕ → ℕ) (ranked : IsRanked shapes classes rank)
        (loose : (i : ℕ) → i < length shapes → class_at classes i ≡ i → is_loose_shape (shape_at shapes i) ≡ true → Reads τ (kind i) (u i) (v i)) where
      of_class : (i : ℕ) → i < length shapes → IsRead (class_at classes i) → IsRead i
      of_class i b r =
          let c = class_at classes i in
          let kinds : Reads τ (kind i) (u c) (v c) = subst (λ k. Reads τ k (u c) (v c)) (kinded i b).0 r in
          let left : Reads τ (kind i) (u i) (v c) = subst (λ x. Reads τ (kind i) x (v c)) (sym (by_class u first i b)) kinds in
          subst (λ y. Reads τ (kind i) (u i) y) (sym (by_class v second i b)) left

      named_reads : (n c : ℕ) → c < length shapes → class_at classes c ≡ c → rank c < n → IsRead c
      named_reads zero c b named h = absurd (omega arith)
      named_reads (suc n) c b named h =
          let below : Each IsRead (parts_of (shape_at shapes c)) =
          Each-zip (λ p. rank (class_at classes p) < rank c) (λ p. p < length shapes) IsRead
          (λ p r l. of_class p l (named_reads n (class_at classes p) (arena.named.below p l) (arena.named.named p l) (omega arith)))
          (parts_of (shape_at shapes c)) (ranked c b named) (arena.nodes c b) in
          built_reads (kind c) (shape_at shapes c) (u c) (v c) (kinded c b).1 (arena.nodes c b) below (loose c b named) (first.builds c b named) (second.builds c b named)

      every_read : (i : ℕ) → i < length shapes → IsRead i
      every_read i b = of_class i b (named_reads (suc (rank (class_at classes i))) (class_at classes i) (arena.named.below i b) (arena.named.named i b) (omega arith))

-- values that are ground are read at every node where they are at the classes of which nothing is known
pub reads_all : (shapes : List Shape) (classes : List ℕ) (kind : ℕ → Kind) (rank : ℕ → ℕ) (τ : Grounding) (u v : ℕ → Value)
    → IsArena shapes classes → AreKinded shapes classes kind → IsRanked shapes classes rank → WeakNodes shapes classes u → WeakNodes shapes classes v
    → ((i : ℕ) → i < length shapes → class_at classes i ≡ i → is_loose_shape (shape_at shapes i) ≡ true → Reads τ (kind i) (u i) (v i))
    → (i : ℕ) → i < length shapes → Reads τ (kind i) (u i) (v i)
reads_all shapes classes kind rank τ u v arena kinded ranked first second loose = every_read shapes classes arena kind kinded τ u v first second rank ranked loose
