-- Values by the shapes of the nodes: what the values of the parts make, and of which kind it is.
use Rattle.std.proofs.Common.{◌≡◌, ℕ, true, false, List, [], ◌∷◌, map, None, refl, sym, ◌∙◌, ap, subst}
use Rattle.std.specs.FinMap as fin
use Rattle.lk_types.proofs.Members.{each_weaker, each_from_map}
use Rattle.lk_types.specs.Each.{Each}
use Rattle.lk_types.specs.Rows.{Label}
use Rattle.lk_types.specs.declared.ty.RowTail.TheVariants.{Closed}
use Rattle.lk_types.specs.declared.ty.Ty.{Ty}
use Rattle.lk_types.specs.declared.ty.Ty.TheVariants as ty
use Rattle.lk_types.specs.declared.ty.TyRow.{roll-TyRow}
use Rattle.lk_arena.proofs.EachLemmas.{Each-zip}
use Rattle.lk_unify.proofs.EffectRows.{IsEffectRow, IsEffectRow-empty, IsEffectRow-insert, its_effects}
use Rattle.lk_arena.proofs.Sizes.{plain_or, map_with, row_with, get-row_with, no_entries}
use Rattle.lk_arena.specs.Kinds.{Kind, OfTypes, OfFields, OfEffects, OfUnit, OfNothing, IsEffectName, TakesKinds, HasKind}
use Rattle.lk_arena.specs.Openings.{OpenRow, only_tail, row_type, effects_type, unit_type, field_type}
use Rattle.lk_unify.specs.Reading.{row_in, effects_in}
use Rattle.lk_arena.specs.Shapes.{parts_of, found_at, value_at, IsPlain, IsRowOf, IsBuilt, is_loose_shape}
use Rattle.lk_arena.specs.Values.{Value, Plain, OfRow, IsMadeOf}
use Rattle.lk_arena.specs.declared.node.Field.{Field}
use Rattle.lk_arena.specs.declared.node.Head.{Head}
use Rattle.lk_arena.specs.declared.node.Head.TheVariants as head
use Rattle.lk_arena.specs.declared.node.Shape.{Shape}
use Rattle.lk_arena.specs.declared.node.Shape.TheVariants.{Free, Open, Empty, Made}
use Rattle.lk_arena.specs.declared.node.Shape.TheVariants as shape

-- the value of a constructor
abbrev pub made : Head → List Value → Value
made head.Int vs = Plain ty.Int
made head.Bool vs = Plain ty.Bool
made head.Text vs = Plain ty.Text
made head.List (v ∷ vs) = Plain (ty.List (plain_or v))
made head.List [] = Plain ty.Int
made head.Fields (v ∷ vs) = Plain (ty.Fields (row_type (row_in v)))
made head.Fields [] = Plain ty.Int
made head.Tags (v ∷ vs) = Plain (ty.Tags (row_type (row_in v)))
made head.Tags [] = Plain ty.Int
made head.Fun (m ∷ r ∷ vs) = Plain (ty.Fun (map plain_or vs) (effects_type (effects_in (row_in m))) (plain_or r))
made head.Fun (m ∷ []) = Plain ty.Int
made head.Fun [] = Plain ty.Int

-- the value by those of the parts, or the one that is chosen
abbrev pub of_shape : Shape → Value → (ℕ → Value) → Value
of_shape Free x w = x
of_shape Open x w = x
of_shape Empty x w = OfRow (only_tail Closed)
of_shape (Made h ps) x w = made h (map w ps)
of_shape (shape.Row fs t) x w = OfRow (row_with fs w (row_in (w t)))

-- ---- by the parts alone

map-same : (w u : ℕ → Value) (ps : List ℕ) → Each (λ p. w p ≡ u p) ps → map w ps ≡ map u ps
map-same w u [] e = refl
map-same w u (p ∷ ps) e = let a : w p ≡ u p = e.0 in let b : map w ps ≡ map u ps = map-same w u ps e.1 in (let g : w p ∷ map w ps ≡ u p ∷ map u ps = cc in g)

map_with-same : (fs : List Field) (w u : ℕ → Value) (m : OpenRow) → Each (λ p. w p ≡ u p) (map (λ f. f.node) fs) → map_with fs w m.fields ≡ map_with fs u m.fields
map_with-same [] w u m e = refl
map_with-same (f ∷ fs) w u m e =
    ap (λ t. fin.insert (map_with fs w m.fields) f.label t) (ap plain_or e.0) ∙ ap (λ r. fin.insert r f.label (plain_or (u f.node))) (map_with-same fs w u m e.1)

row_with-same : (fs : List Field) (w u : ℕ → Value) (m : OpenRow) → Each (λ p. w p ≡ u p) (map (λ f. f.node) fs) → row_with fs w m ≡ row_with fs u m
row_with-same fs w u m e = ap (λ fields. record { fields = fields; tail = m.tail }) (map_with-same fs w u m e)

pub of_shape-same : (s : Shape) (x : Value) (w u : ℕ → Value) → Each (λ p. w p ≡ u p) (parts_of s) → of_shape s x w ≡ of_shape s x u
of_shape-same Free x w u e = refl
of_shape-same Open x w u e = refl
of_shape-same Empty x w u e = refl
of_shape-same (Made h ps) x w u e = ap (made h) (map-same w u ps e)
of_shape-same (shape.Row fs t) x w u e =
    ap OfRow (row_with-same fs w u (row_in (w t)) e.1 ∙ ap (λ x. row_with fs u (row_in x)) e.0)

pub of_shape-loose : (s : Shape) (x : Value) (w : ℕ → Value) → is_loose_shape s ≡ true → of_shape s x w ≡ x
of_shape-loose Free x w e = refl
of_shape-loose Open x w e = refl
of_shape-loose Empty x w e = let f : false ≡ true = e in cc
of_shape-loose (Made h ps) x w e = let f : false ≡ true = e in cc
of_shape-loose (shape.Row fs t) x w e = let f : false ≡ true = e in cc

-- ---- kinds of values

abbrev pub HasValue : Kind → Value → Type 0
HasValue OfTypes x = IsPlain x
HasValue OfFields x = (m : OpenRow) × (x ≡ OfRow m)
HasValue OfEffects x = (m : OpenRow) × (x ≡ OfRow m) × IsEffectRow m
HasValue OfUnit x = x ≡ Plain unit_type
HasValue OfNothing x = x ≡ OfRow (only_tail Closed)

abbrev HaveValues : List Kind → List Value → Type 0
HaveValues [] [] = Unit {0}
HaveValues (k ∷ ks) (v ∷ vs) = HasValue k v × HaveValues ks vs
HaveValues _ _ = ⊥

have_values : (kind : ℕ → Kind) (w : ℕ → Value) (ps : List ℕ) → Each (λ p. HasValue (kind p) (w p)) ps → HaveValues (map kind ps) (map w ps)
have_values kind w [] e = tt
have_values kind w (p ∷ ps) e = (e.0, have_values kind w ps e.1)

all_plain : (ks : List Kind) (vs : List Value) → Each (λ k. k ≡ OfTypes) ks → HaveValues ks vs → vs ≡ map Plain (map plain_or vs)
all_plain [] [] t h = refl
all_plain [] (v ∷ vs) t h = absurd h
all_plain (k ∷ ks) [] t h = absurd h
all_plain (k ∷ ks) (v ∷ vs) t h =
    let p : IsPlain v = subst (λ k. HasValue k v) t.0 h.0 in
    let a : v ≡ Plain (plain_or v) = p.1 ∙ ap Plain (ap plain_or (sym p.1)) in
    let b : vs ≡ map Plain (map plain_or vs) = all_plain ks vs t.1 h.1 in
    (let g : v ∷ vs ≡ Plain (plain_or v) ∷ map Plain (map plain_or vs) = cc in g)

made_well : (h : Head) (ks : List Kind) (vs : List Value) → TakesKinds h ks → HaveValues ks vs → IsMadeOf h vs (made h vs) × IsPlain (made h vs)
made_well head.Int [] [] t h = (refl, (ty.Int, refl))
made_well head.Int [] (v ∷ vs) t h = absurd h
made_well head.Int (k ∷ ks) vs t h = absurd t
made_well head.Bool [] [] t h = (refl, (ty.Bool, refl))
made_well head.Bool [] (v ∷ vs) t h = absurd h
made_well head.Bool (k ∷ ks) vs t h = absurd t
made_well head.Text [] [] t h = (refl, (ty.Text, refl))
made_well head.Text [] (v ∷ vs) t h = absurd h
made_well head.Text (k ∷ ks) vs t h = absurd t
made_well head.List [] vs t h = absurd t
made_well head.List (k ∷ l ∷ ks) vs t h = absurd t
made_well head.List (k ∷ []) [] t h = absurd h
made_well head.List (k ∷ []) (v ∷ w ∷ vs) t h = absurd h.1
made_well head.List (k ∷ []) (v ∷ []) t h =
    let p : IsPlain v = subst (λ k. HasValue k v) t h.0 in
    (subst (λ x. IsMadeOf head.List (x ∷ []) (made head.List (x ∷ []))) (sym p.1) refl, (ty.List (plain_or v), refl))
made_well head.Fields [] vs t h = absurd t
made_well head.Fields (k ∷ l ∷ ks) vs t h = absurd t
made_well head.Fields (k ∷ []) [] t h = absurd h
made_well head.Fields (k ∷ []) (v ∷ w ∷ vs) t h = absurd h.1
made_well head.Fields (k ∷ []) (v ∷ []) t h =
    let p : (m : OpenRow) × (v ≡ OfRow m) = subst (λ k. HasValue k v) t h.0 in
    (subst (λ x. IsMadeOf head.Fields (x ∷ []) (made head.Fields (x ∷ []))) (sym p.1) refl, (ty.Fields (row_type (row_in v)), refl))
made_well head.Tags [] vs t h = absurd t
made_well head.Tags (k ∷ l ∷ ks) vs t h = absurd t
made_well head.Tags (k ∷ []) [] t h = absurd h
made_well head.Tags (k ∷ []) (v ∷ w ∷ vs) t h = absurd h.1
made_well head.Tags (k ∷ []) (v ∷ []) t h =
    let p : (m : OpenRow) × (v ≡ OfRow m) = subst (λ k. HasValue k v) t h.0 in
    (subst (λ x. IsMadeOf head.Tags (x ∷ []) (made head.Tags (x ∷ []))) (sym p.1) refl, (ty.Tags (row_type (row_in v)), refl))
made_well head.Fun [] vs t h = absurd t
made_well head.Fun (k ∷ []) vs t h = absurd t
made_well head.Fun (k ∷ l ∷ ks) [] t h = absurd h
made_well head.Fun (k ∷ l ∷ ks) (x ∷ []) t h = absurd h.1
made_well head.Fun (k ∷ l ∷ ks) (x ∷ y ∷ vs) t h =
    let p : (m : OpenRow) × (x ≡ OfRow m) × IsEffectRow m = subst (λ k. HasValue k x) t.0 h.0 in
    let q : IsPlain y = subst (λ k. HasValue k y) t.1 h.1.0 in
    let all = all_plain ks vs t.2 h.1.1 in (
      subst (λ x. IsMadeOf head.Fun (x ∷ y ∷ vs) (made head.Fun (x ∷ y ∷ vs))) (sym p.1)
          (subst (λ y. IsMadeOf head.Fun (OfRow p.0 ∷ y ∷ vs) (made head.Fun (OfRow p.0 ∷ y ∷ vs))) (sym q.1)
          (effects_in p.0, map plain_or vs, its_effects p.0 p.2, all, refl)),
      (ty.Fun (map plain_or vs) (effects_type (effects_in (row_in x))) (plain_or y), refl),
    )

-- ---- rows

module _ (fs : List Field) (t : ℕ) (w : ℕ → Value) (m : OpenRow) (tail : w t ≡ OfRow m) (fresh : Each (λ f. fin.get (row_in (w t)).fields f.label ≡ None) fs) (plain : Each (λ f. IsPlain (w f.node)) fs) where
  pub row_built : IsRowOf fs w (w t) (OfRow (row_with fs w (row_in (w t))))
  row_built = record {
    tail = m;
    row = row_with fs w (row_in (w t));
    tail_is = tail;
    row_is = refl;
    plain = plain;
    fresh = each_weaker (λ f. fin.get (row_in (w t)).fields f.label ≡ None) (λ f. fin.get m.fields f.label ≡ None) (λ f e. ap (λ x. fin.get (row_in x).fields f.label) (sym tail) ∙ e) fs fresh;
    at = λ l. get-row_with fs w (row_in (w t)) plain l ∙ ap (λ x. value_at w (found_at fs l) (fin.get (row_in x).fields l)) tail;
    same_end = ap (λ x. (row_in x).tail) tail;
  }

pub effects_with : (fs : List Field) (w : ℕ → Value) (m : OpenRow) → Each (λ f. IsEffectName f.label × (w f.node ≡ Plain unit_type)) fs → IsEffectRow m → IsEffectRow (row_with fs w m)
effects_with [] w m e row = row
effects_with (f ∷ fs) w m e row =
    subst (λ t. IsEffectRow (record { fields = fin.insert (row_with fs w m).fields f.label t; tail = m.tail })) (ap plain_or (sym e.0.1))
    (IsEffectRow-insert (row_with fs w m) f.label e.0.0 (effects_with fs w m e.1 row))

pub unit_is : ty.Fields (row_type (only_tail Closed)) ≡ unit_type
unit_is = ap (λ (es : List (Label × Ty)). ty.Fields (roll-TyRow (record { fields = map field_type es; tail = Closed }))) no_entries

module _ (kind : ℕ → Kind) (w : ℕ → Value) where
  plain_fields : (fs : List Field) → Each (λ f. kind f.node ≡ OfTypes) fs → Each (λ p. HasValue (kind p) (w p)) (map (λ f. f.node) fs) → Each (λ f. IsPlain (w f.node)) fs
  plain_fields fs k h =
      Each-zip (λ f. kind f.node ≡ OfTypes) (λ f. HasValue (kind f.node) (w f.node)) (λ f. IsPlain (w f.node)) (λ f e x. subst (λ k. HasValue k (w f.node)) e x) fs k
      (each_from_map (λ p. HasValue (kind p) (w p)) (λ f. f.node) fs h)

  unit_fields : (fs : List Field) → Each (λ f. IsEffectName f.label × (kind f.node ≡ OfUnit)) fs → Each (λ p. HasValue (kind p) (w p)) (map (λ f. f.node) fs) →
      Each (λ f. IsEffectName f.label × (w f.node ≡ Plain unit_type)) fs
  unit_fields fs k h =
      Each-zip (λ f. IsEffectName f.label × (kind f.node ≡ OfUnit)) (λ f. HasValue (kind f.node) (w f.node)) (λ f. IsEffectName f.label × (w f.node ≡ Plain unit_type))
      (λ f e x. (e.0, subst (λ k. HasValue k (w f.node)) e.1 x)) fs k
      (each_from_map (λ p. HasValue (kind p) (w p)) (λ f. f.node) fs h)

  abbrev pub IsFresh : Shape → Type 0
  IsFresh (shape.Row fs t) = Each (λ f. fin.get (row_in (w t)).fields f.label ≡ None) fs
  IsFresh _ = Unit {0}

  -- what is chosen has the kind
  abbrev pub IsChosen : Kind → Shape → Value → Type 0
  IsChosen k Free x = HasValue k x
  IsChosen k Open x = HasValue k x
  IsChosen k _ x = Unit {0}

  pub node_well : (k : Kind) (s : Shape) (x : Value) → HasKind kind k s → Each (λ p. HasValue (kind p) (w p)) (parts_of s) → IsFresh s → IsChosen k s x →
      HasValue k (of_shape s x w) × IsBuilt s w (of_shape s x w)
  node_well OfTypes Free x h e f c = (c, c)
  node_well OfTypes Open x h e f c = absurd h
  node_well OfTypes Empty x h e f c = absurd h
  node_well OfTypes (Made g ps) x h e f c = let m = made_well g (map kind ps) (map w ps) h (have_values kind w ps e) in (m.1, m.0)
  node_well OfTypes (shape.Row fs t) x h e f c = absurd h
  node_well OfFields Free x h e f c = absurd h
  node_well OfFields Open x h e f c = (c, c)
  node_well OfFields Empty x h e f c = ((only_tail Closed, refl), refl)
  node_well OfFields (Made g ps) x h e f c = absurd h
  node_well OfFields (shape.Row fs t) x h e f c =
      let tail : (m : OpenRow) × (w t ≡ OfRow m) = subst (λ k. HasValue k (w t)) h.1 e.0 in
      ((row_with fs w (row_in (w t)), refl), row_built fs t w tail.0 tail.1 f (plain_fields fs h.0 e.1))
  node_well OfEffects Free x h e f c = absurd h
  node_well OfEffects Open x h e f c = (c, (c.0, c.1))
  node_well OfEffects Empty x h e f c = ((only_tail Closed, refl, IsEffectRow-empty Closed), refl)
  node_well OfEffects (Made g ps) x h e f c = absurd h
  node_well OfEffects (shape.Row fs t) x h e f c =
      let tail : (m : OpenRow) × (w t ≡ OfRow m) × IsEffectRow m = subst (λ k. HasValue k (w t)) h.1 e.0 in
      let units = unit_fields fs h.0 e.1 in
      let row : IsEffectRow (row_in (w t)) = subst (λ x. IsEffectRow (row_in x)) (sym tail.1) tail.2 in (
        (row_with fs w (row_in (w t)), refl, effects_with fs w (row_in (w t)) units row),
        row_built fs t w tail.0 tail.1 f
            (each_weaker (λ f. IsEffectName f.label × (w f.node ≡ Plain unit_type)) (λ f. IsPlain (w f.node)) (λ f u. (unit_type, u.1)) fs units),
      )
  node_well OfUnit Free x h e f c = absurd h
  node_well OfUnit Open x h e f c = absurd h
  node_well OfUnit Empty x h e f c = absurd h
  node_well OfUnit (Made head.Int ps) x h e f c = absurd h
  node_well OfUnit (Made head.Bool ps) x h e f c = absurd h
  node_well OfUnit (Made head.Text ps) x h e f c = absurd h
  node_well OfUnit (Made head.List ps) x h e f c = absurd h
  node_well OfUnit (Made head.Tags ps) x h e f c = absurd h
  node_well OfUnit (Made head.Fun ps) x h e f c = absurd h
  node_well OfUnit (Made head.Fields []) x h e f c = absurd h
  node_well OfUnit (Made head.Fields (p ∷ q ∷ ps)) x h e f c = absurd h
  node_well OfUnit (Made head.Fields (p ∷ [])) x h e f c =
      let u : w p ≡ OfRow (only_tail Closed) = subst (λ k. HasValue k (w p)) h e.0 in (
        ap (λ x. Plain (ty.Fields (row_type (row_in x)))) u ∙ ap Plain unit_is,
        subst (λ x. IsMadeOf head.Fields (x ∷ []) (made head.Fields (x ∷ []))) (sym u) refl,
      )
  node_well OfUnit (shape.Row fs t) x h e f c = absurd h
  node_well OfNothing Free x h e f c = absurd h
  node_well OfNothing Open x h e f c = absurd h
  node_well OfNothing Empty x h e f c = (refl, refl)
  node_well OfNothing (Made g ps) x h e f c = absurd h
  node_well OfNothing (shape.Row fs t) x h e f c = absurd h
