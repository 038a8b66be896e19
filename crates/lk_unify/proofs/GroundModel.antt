-- Where no row has a label twice there are values that fit and have no variables: each type of which nothing is known is taken as
-- Int, and each row as the one without fields.
use Rattle.std.proofs.Common.{◌≡◌, ℕ, zero, suc, ◌<◌, true, false, List, length, None, refl, sym, ◌∙◌, ap, subst, arith}
use Rattle.std.specs.FinMap as fin
use Rattle.lk_classes.specs.Classes.{class_at}
use Rattle.lk_types.proofs.Members.{each_weaker}
use Rattle.lk_types.specs.Each.{Each}
use Rattle.lk_types.specs.Rows.{label_order}
use Rattle.lk_types.specs.declared.ty.RowTail.TheVariants.{Closed}
use Rattle.lk_types.specs.declared.ty.Ty.TheVariants as ty
use Rattle.lk_arena.proofs.EachLemmas.{Each-zip}
use Rattle.lk_unify.proofs.EffectRows.{IsEffectRow-empty}
use Rattle.lk_unify.proofs.GroundMade.{least, built_ground}
use Rattle.lk_unify.proofs.Models as models
use Rattle.lk_arena.proofs.RowAlgebra.{row_same}
use Rattle.lk_unify.proofs.Shaping.{of_shape, HasValue}
use Rattle.lk_arena.proofs.Weak.{distinct_apart}
use Rattle.lk_arena.specs.Kinds.{Kind, OfTypes, OfFields, OfEffects, OfUnit, OfNothing, AreKinded, HasKind}
use Rattle.lk_unify.specs.Models.{IsGroundOf, GroundModelExists}
use Rattle.lk_arena.specs.Openings.{only_tail}
use Rattle.lk_arena.specs.Order.{IsRanked}
use Rattle.lk_unify.specs.Reading.{row_in}
use Rattle.lk_arena.specs.Shapes.{shape_at, parts_of, found_at, value_at, IsDistinct, IsArena, IsClean, IsFlatBut, GoesDown, BuildsBelow, Respects, WeakNodes, is_fields, is_row_shape, is_loose_shape}
use Rattle.lk_arena.specs.Values.{Value, OfRow}
use Rattle.lk_arena.specs.declared.node.Field.{Field}
use Rattle.lk_arena.specs.declared.node.Shape.{Shape}
use Rattle.lk_arena.specs.declared.node.Shape.TheVariants.{Free, Open, Empty, Made}
use Rattle.lk_arena.specs.declared.node.Shape.TheVariants as shape

-- ---- what is chosen

least_kind : (kind : ℕ → Kind) (k : Kind) (s : Shape) → HasKind kind k s → is_loose_shape s ≡ true → HasValue k (least s)
least_kind kind OfTypes Free h loose = (ty.Int, refl)
least_kind kind OfFields Open h loose = (only_tail Closed, refl)
least_kind kind OfEffects Open h loose = (only_tail Closed, refl, IsEffectRow-empty Closed)
least_kind kind OfTypes Open h loose = absurd h
least_kind kind OfFields Free h loose = absurd h
least_kind kind OfEffects Free h loose = absurd h
least_kind kind OfUnit Free h loose = absurd h
least_kind kind OfUnit Open h loose = absurd h
least_kind kind OfNothing Free h loose = absurd h
least_kind kind OfNothing Open h loose = absurd h
least_kind kind k Empty h loose = let f : false ≡ true = loose in cc
least_kind kind k (Made g ps) h loose = let f : false ≡ true = loose in cc
least_kind kind k (shape.Row fs t) h loose = let f : false ≡ true = loose in cc

-- the end of a row has no fields
least_end : (s : Shape) (w : ℕ → Value) → is_row_shape s ≡ true → is_fields s ≡ false → of_shape s (least s) w ≡ OfRow (only_tail Closed)
least_end Open w row ends = refl
least_end Empty w row ends = refl
least_end Free w row ends = let f : false ≡ true = row in cc
least_end (Made h ps) w row ends = let f : false ≡ true = row in cc
least_end (shape.Row fs t) w row ends = let f : true ≡ false = ends in cc

-- ---- the row below has none of a row's own labels

module _ (shapes : List Shape) (classes : List ℕ) (rank : ℕ → ℕ) (ranked : IsRanked shapes classes rank) (v : ℕ → Value) (respects : Respects classes v) where
  down : GoesDown shapes classes rank
  down i j fs b n is = (subst (λ s. Each (λ p. rank (class_at classes p) < rank i) (parts_of s)) is (ranked i b n)).0

  fresh_below : (c : ℕ) → c < length shapes → class_at classes c ≡ c → BuildsBelow rank c shapes classes v → (fields : List Field) (tail : ℕ) → IsFlatBut c shapes classes c fields tail →
      v tail ≡ OfRow (only_tail Closed) → (fs : List Field) (t : ℕ) → shape_at shapes c ≡ shape.Row fs t → Each (λ f. fin.get (row_in (v t)).fields f.label ≡ None) fs
  fresh_below c b n builds fields tail flat end fs t is =
      let same : shape.Row flat.own flat.first ≡ shape.Row fs t = sym flat.shape_is ∙ is in
      let own : flat.own ≡ fs = cc in
      let first : flat.first ≡ t = cc in
      let low = down c flat.first flat.own b n flat.shape_is in
      let r = flat.under rank down low v builds respects (only_tail Closed) end in
      let under : r.tail ≡ only_tail Closed = row_same r.tail (only_tail Closed) (sym r.tail_is ∙ end) in
      let apart : Each (λ f. found_at flat.rest f.label ≡ None) flat.own = distinct_apart flat.own flat.rest (subst IsDistinct flat.fields_is flat.distinct) in
      subst (Each (λ f. fin.get (row_in (v t)).fields f.label ≡ None)) own
      (each_weaker (λ f. found_at flat.rest f.label ≡ None) (λ f. fin.get (row_in (v t)).fields f.label ≡ None)
      (λ f lacking.
      ap (λ i. fin.get (row_in (v i)).fields f.label) (sym first) ∙ ap (λ x. fin.get (row_in x).fields f.label) r.row_is ∙ r.at f.label
      ∙ ap (λ o. value_at v o (fin.get r.tail.fields f.label)) lacking ∙ ap (λ m. fin.get m.fields f.label) under ∙ fin.get-empty label_order f.label)
      flat.own apart)

-- ---- the values

module _ (shapes : List Shape) (classes : List ℕ) (kind : ℕ → Kind) (rank : ℕ → ℕ) (arena : IsArena shapes classes) (kinded : AreKinded shapes classes kind)
    (ranked : IsRanked shapes classes rank) (clean : IsClean shapes classes) where
  abbrev chosen : ℕ → Value
  chosen i = least (shape_at shapes i)

  v : ℕ → Value
  v = models.v shapes classes kind rank arena kinded ranked chosen

  respects : Respects classes v
  unfolding v
  respects = models.respects shapes classes kind rank arena kinded ranked chosen

  are_chosen : models.AreChosen shapes classes kind rank arena kinded ranked chosen
  are_chosen c b named loose = least_kind kind (kind c) (shape_at shapes c) (kinded c b).1 loose

  are_fresh : models.AreFresh shapes classes kind rank arena kinded ranked chosen
  unfolding v
  are_fresh c b named under fs t is =
      let k = clean c b named (ap is_fields is) in
      let end = models.named_is shapes classes kind rank arena kinded ranked chosen k.1 k.2.below k.2.named ∙ least_end (shape_at shapes k.1) v k.3.0 k.3.2 in
      fresh_below shapes classes rank ranked v respects c b named under k.0 k.1 k.2 end fs t is

  model : WeakNodes shapes classes v
  unfolding v
  model = models.model shapes classes kind rank arena kinded ranked chosen are_chosen are_fresh

  has_kind : (i : ℕ) → i < length shapes → class_at classes i ≡ i → HasValue (kind i) (v i)
  unfolding v
  has_kind = models.kinds_good shapes classes kind rank arena kinded ranked chosen are_chosen are_fresh

  takes : (i : ℕ) → i < length shapes → class_at classes i ≡ i → is_loose_shape (shape_at shapes i) ≡ true → v i ≡ least (shape_at shapes i)
  unfolding v
  takes = models.takes shapes classes kind rank arena kinded ranked chosen

  of_class : (i : ℕ) → i < length shapes → IsGroundOf (kind (class_at classes i)) (v (class_at classes i)) → IsGroundOf (kind i) (v i)
  of_class i b g =
      let e : v i ≡ v (class_at classes i) = respects i (let c : length classes ≡ length shapes = arena.named.count in omega arith) in
      subst (λ k. IsGroundOf k (v i)) (kinded i b).0 (subst (IsGroundOf (kind (class_at classes i))) (sym e) g)

  ground_named : (n i : ℕ) → i < length shapes → class_at classes i ≡ i → rank i < n → IsGroundOf (kind i) (v i)
  ground_named zero i b named h = absurd (omega arith)
  ground_named (suc n) i b named h =
      built_ground kind v (kind i) (shape_at shapes i) (v i) (kinded i b).1 (model.builds i b named) (has_kind i b named)
      (Each-zip (λ p. rank (class_at classes p) < rank i) (λ p. p < length shapes) (λ p. IsGroundOf (kind p) (v p))
      (λ p less below. of_class p below (ground_named n (class_at classes p) (arena.named.below p below) (arena.named.named p below) (omega arith)))
      (parts_of (shape_at shapes i)) (ranked i b named) (arena.nodes i b))
      (takes i b named)

  grounds : (i : ℕ) → i < length shapes → IsGroundOf (kind i) (v i)
  grounds i b = of_class i b (ground_named (suc (rank (class_at classes i))) (class_at classes i) (arena.named.below i b) (arena.named.named i b) (omega arith))

pub ground_exists : GroundModelExists
ground_exists shapes classes kind rank arena kinded ranked clean =
    (v shapes classes kind rank arena kinded ranked clean, model shapes classes kind rank arena kinded ranked clean, grounds shapes classes kind rank arena kinded ranked clean)
