-- What is made of ground types is one: constructors, fields before a row, effects before a row of effects.
use Rattle.std.proofs.Common.{◌≡◌, ℕ, true, List, [], ◌∷◌, map, refl, sym, ◌∙◌, ap, subst}
use Rattle.lk_types.proofs.Members.{each_from_map}
use Rattle.lk_types.specs.Each.{Each}
use Rattle.lk_types.specs.Rows.{Row, EffectSet, no_fields, no_effects, effects_of, fields_of}
use Rattle.std.specs.FinMap as fin
use Rattle.lk_types.specs.declared.ground.Ground.{Ground}
use Rattle.lk_types.specs.declared.ground.Ground.TheVariants as ground
use Rattle.lk_types.specs.declared.ty.RowTail.TheVariants.{Closed}
use Rattle.lk_types.specs.declared.ty.Ty.{Ty}
use Rattle.lk_types.specs.declared.ty.Ty.TheVariants as ty
use Rattle.lk_arena.proofs.EachLemmas.{Each-zip}
use Rattle.lk_unify.proofs.EffectRows.{IsEffectRow, its_effects}
use Rattle.lk_unify.proofs.EffectSets.{same_set}
use Rattle.lk_unify.proofs.OpenGround.{as_row-insert, as_row-empty, as_type-fields, as_type-tags, as_type-function}
use Rattle.lk_unify.proofs.OpenUnfold.{as_int, as_bool, as_text, as_list}
use Rattle.lk_arena.proofs.RowAlgebra.{one_more, row_same, same_rows}
use Rattle.lk_unify.proofs.Shaping.{HasValue}
use Rattle.lk_arena.proofs.Sizes.{plain_or, row_with, get-row_with}
use Rattle.lk_arena.specs.Kinds.{Kind, OfTypes, OfFields, OfEffects, OfUnit, OfNothing, TakesKinds, HasKind}
use Rattle.lk_unify.specs.Models.{IsGroundOf}
use Rattle.lk_arena.specs.Openings.{OpenRow, only_tail, effects_type, as_type, as_row, as_effects}
use Rattle.lk_unify.specs.Reading.{effects_in}
use Rattle.lk_arena.specs.Shapes.{parts_of, IsRowOf, IsBuilt, is_loose_shape}
use Rattle.lk_arena.specs.Values.{Value, Plain, OfRow, IsMadeOf, effect_row}
use Rattle.lk_arena.specs.declared.node.Field.{Field}
use Rattle.lk_arena.specs.declared.node.Head.{Head}
use Rattle.lk_arena.specs.declared.node.Head.TheVariants as head
use Rattle.lk_arena.specs.declared.node.Shape.{Shape}
use Rattle.lk_arena.specs.declared.node.Shape.TheVariants.{Free, Open, Empty, Made}
use Rattle.lk_arena.specs.declared.node.Shape.TheVariants as shape

-- each type taken as Int and each row as the one without fields
abbrev pub least : Shape → Value
least Open = OfRow (only_tail Closed)
least _ = Plain ty.Int

-- ---- constructors

abbrev AreGround : List Kind → List Value → Type 0
AreGround [] [] = Unit {0}
AreGround (k ∷ ks) (v ∷ vs) = IsGroundOf k v × AreGround ks vs
AreGround _ _ = ⊥

are_ground : (kind : ℕ → Kind) (w : ℕ → Value) (ps : List ℕ) → Each (λ p. IsGroundOf (kind p) (w p)) ps → AreGround (map kind ps) (map w ps)
are_ground kind w [] e = tt
are_ground kind w (p ∷ ps) e = (e.0, are_ground kind w ps e.1)

all_ground : (ks : List Kind) (vs : List Value) → Each (λ k. k ≡ OfTypes) ks → AreGround ks vs → (gs : List Ground) × (vs ≡ map Plain (map as_type gs))
all_ground [] [] t h = ([], refl)
all_ground [] (v ∷ vs) t h = absurd h
all_ground (k ∷ ks) [] t h = absurd h
all_ground (k ∷ ks) (v ∷ vs) t h =
    let p : (g : Ground) × (v ≡ Plain (as_type g)) = subst (λ k. IsGroundOf k v) t.0 h.0 in
    let rest = all_ground ks vs t.1 h.1 in
    (p.0 ∷ rest.0, λ i. p.1 i ∷ rest.1 i)

types_back : (ts : List Ty) → map plain_or (map Plain ts) ≡ ts
types_back [] = refl
types_back (t ∷ ts) = ap (λ r. t ∷ r) (types_back ts)

same_types : (ts us : List Ty) → map Plain ts ≡ map Plain us → ts ≡ us
same_types ts us e = sym (types_back ts) ∙ ap (map plain_or) e ∙ types_back us

-- a function, by its effects, its result and its parameters
function_ground : (s : EffectSet) (g : Ground) (gs : List Ground) (vs : List Value) (x : Value) → vs ≡ map Plain (map as_type gs)
    → IsMadeOf head.Fun (OfRow (effect_row (as_effects s)) ∷ Plain (as_type g) ∷ vs) x → x ≡ Plain (as_type (ground.Fun gs (effects_of s) g))
function_ground s g gs vs x are made =
    let effects : made.0 ≡ as_effects s = sym (same_set (as_effects s) made.0 made.2) in
    let params : made.1 ≡ map as_type gs = same_types made.1 (map as_type gs) (sym made.3 ∙ are) in
    made.4 ∙ (λ i. Plain (ty.Fun (params i) (effects_type (effects i)) (as_type g))) ∙ ap Plain (sym (as_type-function gs s g))

made_ground : (h : Head) (ks : List Kind) (vs : List Value) (x : Value) → TakesKinds h ks → AreGround ks vs → IsMadeOf h vs x → IsGroundOf OfTypes x
made_ground head.Int [] [] x t h made = (ground.Int, made ∙ ap Plain (sym as_int))
made_ground head.Int [] (v ∷ vs) x t h made = absurd h
made_ground head.Int (k ∷ ks) vs x t h made = absurd t
made_ground head.Bool [] [] x t h made = (ground.Bool, made ∙ ap Plain (sym as_bool))
made_ground head.Bool [] (v ∷ vs) x t h made = absurd h
made_ground head.Bool (k ∷ ks) vs x t h made = absurd t
made_ground head.Text [] [] x t h made = (ground.Text, made ∙ ap Plain (sym as_text))
made_ground head.Text [] (v ∷ vs) x t h made = absurd h
made_ground head.Text (k ∷ ks) vs x t h made = absurd t
made_ground head.List [] vs x t h made = absurd t
made_ground head.List (k ∷ l ∷ ks) vs x t h made = absurd t
made_ground head.List (k ∷ []) [] x t h made = absurd h
made_ground head.List (k ∷ []) (v ∷ w ∷ vs) x t h made = absurd h.1
made_ground head.List (k ∷ []) (v ∷ []) x t h made =
    let p : (g : Ground) × (v ≡ Plain (as_type g)) = subst (λ k. IsGroundOf k v) t h.0 in
    (ground.List p.0, subst (λ y. IsMadeOf head.List (y ∷ []) x) p.1 made ∙ ap Plain (sym (as_list p.0)))
made_ground head.Fields [] vs x t h made = absurd t
made_ground head.Fields (k ∷ l ∷ ks) vs x t h made = absurd t
made_ground head.Fields (k ∷ []) [] x t h made = absurd h
made_ground head.Fields (k ∷ []) (v ∷ w ∷ vs) x t h made = absurd h.1
made_ground head.Fields (k ∷ []) (v ∷ []) x t h made =
    let p : (m : Row) × (v ≡ OfRow (as_row m)) = subst (λ k. IsGroundOf k v) t h.0 in
    (ground.Fields (fields_of p.0), subst (λ y. IsMadeOf head.Fields (y ∷ []) x) p.1 made ∙ ap Plain (sym (as_type-fields p.0)))
made_ground head.Tags [] vs x t h made = absurd t
made_ground head.Tags (k ∷ l ∷ ks) vs x t h made = absurd t
made_ground head.Tags (k ∷ []) [] x t h made = absurd h
made_ground head.Tags (k ∷ []) (v ∷ w ∷ vs) x t h made = absurd h.1
made_ground head.Tags (k ∷ []) (v ∷ []) x t h made =
    let p : (m : Row) × (v ≡ OfRow (as_row m)) = subst (λ k. IsGroundOf k v) t h.0 in
    (ground.Tags (fields_of p.0), subst (λ y. IsMadeOf head.Tags (y ∷ []) x) p.1 made ∙ ap Plain (sym (as_type-tags p.0)))
made_ground head.Fun [] vs x t h made = absurd t
made_ground head.Fun (k ∷ []) vs x t h made = absurd t
made_ground head.Fun (k ∷ l ∷ ks) [] x t h made = absurd h
made_ground head.Fun (k ∷ l ∷ ks) (y ∷ []) x t h made = absurd h.1
made_ground head.Fun (k ∷ l ∷ ks) (y ∷ z ∷ vs) x t h made =
    let p : (s : EffectSet) × (y ≡ OfRow (effect_row (as_effects s))) = subst (λ k. IsGroundOf k y) t.0 h.0 in
    let q : (g : Ground) × (z ≡ Plain (as_type g)) = subst (λ k. IsGroundOf k z) t.1 h.1.0 in
    let all = all_ground ks vs t.2 h.1.1 in
    let known : IsMadeOf head.Fun (OfRow (effect_row (as_effects p.0)) ∷ Plain (as_type q.0) ∷ vs) x =
    subst (λ z. IsMadeOf head.Fun (OfRow (effect_row (as_effects p.0)) ∷ z ∷ vs) x) q.1 (subst (λ y. IsMadeOf head.Fun (y ∷ z ∷ vs) x) p.1 made) in
    (ground.Fun all.0 (effects_of p.0) q.0, function_ground p.0 q.0 all.0 vs x all.1 known)

-- ---- rows

abbrev HasGround : Value → Type 0
HasGround x = (g : Ground) × (x ≡ Plain (as_type g))

fields_ground : (fs : List Field) (w : ℕ → Value) (m : Row) → Each (λ f. HasGround (w f.node)) fs → (n : Row) × (row_with fs w (as_row m) ≡ as_row n)
fields_ground [] w m e = (m, refl)
fields_ground (f ∷ fs) w m e =
    let rest = fields_ground fs w m e.1 in (
      fin.insert rest.0 f.label e.0.0,
      ap (λ r. one_more r f.label (plain_or (w f.node))) rest.1 ∙ ap (λ x. one_more (as_row rest.0) f.label (plain_or x)) e.0.1 ∙ sym (as_row-insert rest.0 f.label e.0.0),
    )

row_ground : (fs : List Field) (w : ℕ → Value) (y x : Value) (m : Row) → IsRowOf fs w y x → y ≡ OfRow (as_row m) → Each (λ f. HasGround (w f.node)) fs → (n : Row) × (x ≡ OfRow (as_row n))
row_ground fs w y x m r is e =
    let tail : r.tail ≡ as_row m = row_same r.tail (as_row m) (sym r.tail_is ∙ is) in
    let whole : r.row ≡ row_with fs w r.tail = same_rows r.row (row_with fs w r.tail) (λ l. r.at l ∙ sym (get-row_with fs w r.tail r.plain l)) r.same_end in
    let all = fields_ground fs w m e in
    (all.0, r.row_is ∙ ap OfRow (whole ∙ ap (row_with fs w) tail ∙ all.1))

-- a row of effects that ends
closed_effects : (m : OpenRow) → IsEffectRow m → m.tail ≡ Closed → m ≡ effect_row (as_effects (effects_in m).labels)
closed_effects m row closed = its_effects m row ∙ ap (λ tail. effect_row (record { labels = (effects_in m).labels; tail = tail })) closed

effects_ground : (fs : List Field) (w : ℕ → Value) (y x : Value) (s : EffectSet) → IsRowOf fs w y x → y ≡ OfRow (effect_row (as_effects s)) → HasValue OfEffects x → IsGroundOf OfEffects x
effects_ground fs w y x s r is has =
    let tail : r.tail ≡ effect_row (as_effects s) = row_same r.tail (effect_row (as_effects s)) (sym r.tail_is ∙ is) in
    let row : has.0 ≡ r.row = row_same has.0 r.row (sym has.1 ∙ r.row_is) in
    let closed : has.0.tail ≡ Closed = ap (λ (m : OpenRow). m.tail) row ∙ r.same_end ∙ ap (λ (m : OpenRow). m.tail) tail in
    ((effects_in has.0).labels, has.1 ∙ ap OfRow (closed_effects has.0 has.2 closed))

no_row : (x : Value) → x ≡ OfRow (only_tail Closed) → IsGroundOf OfFields x
no_row x e = (no_fields, e ∙ ap OfRow (sym as_row-empty))

no_effects_row : (x : Value) → x ≡ OfRow (only_tail Closed) → IsGroundOf OfEffects x
no_effects_row x e = (no_effects, e)

-- ---- from the parts

module _ (kind : ℕ → Kind) (w : ℕ → Value) where
  pub built_ground : (k : Kind) (s : Shape) (x : Value) → HasKind kind k s → IsBuilt s w x → HasValue k x → Each (λ p. IsGroundOf (kind p) (w p)) (parts_of s) →
      (is_loose_shape s ≡ true → x ≡ least s) → IsGroundOf k x
  built_ground OfTypes Free x h b has parts loose = (ground.Int, loose refl ∙ ap Plain (sym as_int))
  built_ground OfTypes Open x h b has parts loose = absurd h
  built_ground OfTypes Empty x h b has parts loose = absurd h
  built_ground OfTypes (Made g ps) x h b has parts loose = made_ground g (map kind ps) (map w ps) x h (are_ground kind w ps parts) b
  built_ground OfTypes (shape.Row fs t) x h b has parts loose = absurd h
  built_ground OfFields Free x h b has parts loose = absurd h
  built_ground OfFields Open x h b has parts loose = no_row x (loose refl)
  built_ground OfFields Empty x h b has parts loose = no_row x b
  built_ground OfFields (Made g ps) x h b has parts loose = absurd h
  built_ground OfFields (shape.Row fs t) x h b has parts loose =
      let tail : (m : Row) × (w t ≡ OfRow (as_row m)) = subst (λ k. IsGroundOf k (w t)) h.1 parts.0 in
      row_ground fs w (w t) x tail.0 b tail.1
      (Each-zip (λ f. kind f.node ≡ OfTypes) (λ f. IsGroundOf (kind f.node) (w f.node)) (λ f. HasGround (w f.node)) (λ f e g. subst (λ k. IsGroundOf k (w f.node)) e g) fs h.0
      (each_from_map (λ p. IsGroundOf (kind p) (w p)) (λ f. f.node) fs parts.1))
  built_ground OfEffects Free x h b has parts loose = absurd h
  built_ground OfEffects Open x h b has parts loose = no_effects_row x (loose refl)
  built_ground OfEffects Empty x h b has parts loose = no_effects_row x b
  built_ground OfEffects (Made g ps) x h b has parts loose = absurd h
  built_ground OfEffects (shape.Row fs t) x h b has parts loose =
      let tail : (s : EffectSet) × (w t ≡ OfRow (effect_row (as_effects s))) = subst (λ k. IsGroundOf k (w t)) h.1 parts.0 in
      effects_ground fs w (w t) x tail.0 b tail.1 has
  built_ground OfUnit s x h b has parts loose = has
  built_ground OfNothing s x h b has parts loose = has
