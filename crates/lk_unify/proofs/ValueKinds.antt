-- Values that fit are of the kinds of their nodes, where those of the rows of effects of which nothing is known are.
use Rattle.std.proofs.Common.{◌≡◌, ℕ, zero, suc, ◌<◌, ◌⊎◌, inl, inr, ⊎_elim, List, [], ◌∷◌, length, map, Option, Some, None, refl, sym, ◌∙◌, ap, subst, arith}
use Rattle.std.specs.FinMap as fin
use Rattle.lk_classes.specs.Classes.{class_at}
use Rattle.lk_types.proofs.Members.{each_weaker, each_from_map}
use Rattle.lk_types.specs.Each.{Each}
use Rattle.lk_types.specs.Rows.{Label}
use Rattle.lk_types.specs.declared.ty.RowTail.TheVariants.{Closed, Var}
use Rattle.lk_arena.proofs.EachLemmas.{Each-zip}
use Rattle.lk_unify.proofs.EffectRows.{IsEffectRow, IsEffectRow-empty}
use Rattle.lk_arena.proofs.Heads.{made_plain}
use Rattle.lk_arena.proofs.RowAlgebra.{found_prop, found_label}
use Rattle.lk_unify.proofs.Shaping.{HasValue, unit_is}
use Rattle.lk_arena.specs.Kinds.{Kind, OfTypes, OfFields, OfEffects, OfUnit, OfNothing, IsEffectName, AreKinded, HasKind}
use Rattle.lk_unify.specs.Models.{IsOwn}
use Rattle.lk_arena.specs.Openings.{OpenRow, only_tail, unit_type}
use Rattle.lk_arena.specs.Order.{IsRanked}
use Rattle.lk_unify.specs.Reading.{row_in}
use Rattle.lk_arena.specs.Shapes.{shape_at, parts_of, found_at, value_at, plain_of, IsRowOf, IsBuilt, IsArena, WeakNodes}
use Rattle.lk_arena.specs.Values.{Value, Plain, OfRow, IsMadeOf}
use Rattle.lk_arena.specs.declared.node.Field.{Field}
use Rattle.lk_arena.specs.declared.node.Head.TheVariants as head
use Rattle.lk_arena.specs.declared.node.Shape.{Shape}
use Rattle.lk_arena.specs.declared.node.Shape.TheVariants.{Free, Open, Empty, Made}
use Rattle.lk_arena.specs.declared.node.Shape.TheVariants as shape

-- effects before a row of effects are one
module _ (fs : List Field) (w : ℕ → Value) (y x : Value) (row : IsRowOf fs w y x) (units : Each (λ f. IsEffectName f.label × (w f.node ≡ Plain unit_type)) fs) (m : OpenRow) (below : y ≡ OfRow m)
    (effects : IsEffectRow m) where
  at_row : (l : Label) → fin.get row.row.fields l ≡ value_at w (found_at fs l) (fin.get m.fields l)
  at_row l = row.at l ∙ ap (λ y. value_at w (found_at fs l) (fin.get (row_in y).fields l)) (sym row.tail_is ∙ below)

  by_found : (l : Label) (o : Option ℕ) → found_at fs l ≡ o → (fin.get row.row.fields l ≡ None) ⊎ (IsEffectName l × (fin.get row.row.fields l ≡ Some unit_type))
  by_found l None is =
      let e : fin.get row.row.fields l ≡ fin.get m.fields l = at_row l ∙ ap (λ o. value_at w o (fin.get m.fields l)) is in
      ⊎_elim (λ n. inl (e ∙ n)) (λ s. inr (s.0, e ∙ s.1)) (effects l)
  by_found l (Some n) is =
      let name : IsEffectName l = found_label IsEffectName fs l n (each_weaker (λ f. IsEffectName f.label × (w f.node ≡ Plain unit_type)) (λ f. IsEffectName f.label) (λ f u. u.0) fs units) is in
      let unit : w n ≡ Plain unit_type =
      found_prop (λ n. w n ≡ Plain unit_type) fs l n (each_weaker (λ f. IsEffectName f.label × (w f.node ≡ Plain unit_type)) (λ f. w f.node ≡ Plain unit_type) (λ f u. u.1) fs units) is in
      inr (name, at_row l ∙ ap (λ o. value_at w o (fin.get m.fields l)) is ∙ ap plain_of unit)

  effects_before : IsEffectRow row.row
  effects_before l = by_found l (found_at fs l) refl

-- the unit type
unit_made : (y x : Value) → y ≡ OfRow (only_tail Closed) → IsMadeOf head.Fields (y ∷ []) x → x ≡ Plain unit_type
unit_made y x e made = subst (λ y. IsMadeOf head.Fields (y ∷ []) x) e made ∙ ap Plain unit_is

-- from the parts
module _ (kind : ℕ → Kind) (w : ℕ → Value) where
  pub built_kind : (k : Kind) (s : Shape) (x : Value) → HasKind kind k s → IsBuilt s w x → Each (λ p. HasValue (kind p) (w p)) (parts_of s) → (s ≡ Open → k ≡ OfEffects → HasValue OfEffects x) →
      HasValue k x
  built_kind OfTypes Free x h b parts effects = b
  built_kind OfTypes Open x h b parts effects = absurd h
  built_kind OfTypes Empty x h b parts effects = absurd h
  built_kind OfTypes (Made g ps) x h b parts effects = made_plain g (map w ps) x b
  built_kind OfTypes (shape.Row fs t) x h b parts effects = absurd h
  built_kind OfFields Free x h b parts effects = absurd h
  built_kind OfFields Open x h b parts effects = b
  built_kind OfFields Empty x h b parts effects = (only_tail Closed, b)
  built_kind OfFields (Made g ps) x h b parts effects = absurd h
  built_kind OfFields (shape.Row fs t) x h b parts effects = (b.row, b.row_is)
  built_kind OfEffects Free x h b parts effects = absurd h
  built_kind OfEffects Open x h b parts effects = effects refl refl
  built_kind OfEffects Empty x h b parts effects = (only_tail Closed, b, IsEffectRow-empty Closed)
  built_kind OfEffects (Made g ps) x h b parts effects = absurd h
  built_kind OfEffects (shape.Row fs t) x h b parts effects =
      let tail : (m : OpenRow) × (w t ≡ OfRow m) × IsEffectRow m = subst (λ k. HasValue k (w t)) h.1 parts.0 in
      let units : Each (λ f. IsEffectName f.label × (w f.node ≡ Plain unit_type)) fs =
      Each-zip (λ f. IsEffectName f.label × (kind f.node ≡ OfUnit)) (λ f. HasValue (kind f.node) (w f.node)) (λ f. IsEffectName f.label × (w f.node ≡ Plain unit_type))
      (λ f e u. (e.0, subst (λ k. HasValue k (w f.node)) e.1 u)) fs h.0
      (each_from_map (λ p. HasValue (kind p) (w p)) (λ f. f.node) fs parts.1) in
      (b.row, b.row_is, effects_before fs w (w t) x b units tail.0 tail.1 tail.2)
  built_kind OfUnit Free x h b parts effects = absurd h
  built_kind OfUnit Open x h b parts effects = absurd h
  built_kind OfUnit Empty x h b parts effects = absurd h
  built_kind OfUnit (Made head.Int ps) x h b parts effects = absurd h
  built_kind OfUnit (Made head.Bool ps) x h b parts effects = absurd h
  built_kind OfUnit (Made head.Text ps) x h b parts effects = absurd h
  built_kind OfUnit (Made head.List ps) x h b parts effects = absurd h
  built_kind OfUnit (Made head.Tags ps) x h b parts effects = absurd h
  built_kind OfUnit (Made head.Fun ps) x h b parts effects = absurd h
  built_kind OfUnit (Made head.Fields []) x h b parts effects = absurd h
  built_kind OfUnit (Made head.Fields (p ∷ q ∷ ps)) x h b parts effects = absurd h
  built_kind OfUnit (Made head.Fields (p ∷ [])) x h b parts effects = unit_made (w p) x (subst (λ k. HasValue k (w p)) h parts.0) b
  built_kind OfUnit (shape.Row fs t) x h b parts effects = absurd h
  built_kind OfNothing Free x h b parts effects = absurd h
  built_kind OfNothing Open x h b parts effects = absurd h
  built_kind OfNothing Empty x h b parts effects = b
  built_kind OfNothing (Made g ps) x h b parts effects = absurd h
  built_kind OfNothing (shape.Row fs t) x h b parts effects = absurd h

-- ---- at all nodes

module _ (shapes : List Shape) (classes : List ℕ) (kind : ℕ → Kind) (rank : ℕ → ℕ) (arena : IsArena shapes classes) (kinded : AreKinded shapes classes kind) (ranked : IsRanked shapes classes rank)
    (v : ℕ → Value) (fits : WeakNodes shapes classes v) where
  -- the rows of effects of which nothing is known are rows of effects
  abbrev pub OpenEffectRows : Type 0
  OpenEffectRows = (i : ℕ) → i < length shapes → class_at classes i ≡ i → shape_at shapes i ≡ Open → kind i ≡ OfEffects → HasValue OfEffects (v i)

  of_class : (i : ℕ) → i < length shapes → HasValue (kind (class_at classes i)) (v (class_at classes i)) → HasValue (kind i) (v i)
  of_class i b h =
      let e : v i ≡ v (class_at classes i) = fits.respects i (let c : length classes ≡ length shapes = arena.named.count in omega arith) in
      subst (λ k. HasValue k (v i)) (kinded i b).0 (subst (HasValue (kind (class_at classes i))) (sym e) h)

  module _ (effects : OpenEffectRows) where
    named_kind : (n i : ℕ) → i < length shapes → class_at classes i ≡ i → rank i < n → HasValue (kind i) (v i)
    named_kind zero i b named h = absurd (omega arith)
    named_kind (suc n) i b named h =
        built_kind kind v (kind i) (shape_at shapes i) (v i) (kinded i b).1 (fits.builds i b named)
        (Each-zip (λ p. rank (class_at classes p) < rank i) (λ p. p < length shapes) (λ p. HasValue (kind p) (v p))
        (λ p less below. of_class p below (named_kind n (class_at classes p) (arena.named.below p below) (arena.named.named p below) (omega arith)))
        (parts_of (shape_at shapes i)) (ranked i b named) (arena.nodes i b))
        (effects i b named)

    pub value_kinds : (i : ℕ) → i < length shapes → HasValue (kind i) (v i)
    value_kinds i b = of_class i b (named_kind (suc (rank (class_at classes i))) (class_at classes i) (arena.named.below i b) (arena.named.named i b) (omega arith))

-- where each class of which nothing is known is a variable
module _ (shapes : List Shape) (classes : List ℕ) (kind : ℕ → Kind) (rank : ℕ → ℕ) (arena : IsArena shapes classes) (kinded : AreKinded shapes classes kind) (ranked : IsRanked shapes classes rank)
    (name : ℕ → ℕ) (u : ℕ → Value) (own : IsOwn shapes classes name u) where
  pub own_kinds : (i : ℕ) → i < length shapes → HasValue (kind i) (u i)
  own_kinds =
      value_kinds shapes classes kind rank arena kinded ranked u own.fits (λ i b named is k. (only_tail (Var (name i)), own.rows i b named is, IsEffectRow-empty (Var (name i))))
