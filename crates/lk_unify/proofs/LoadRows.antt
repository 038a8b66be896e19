-- A node for fields before the end of a row, and for the end alone.
use Rattle.std.proofs.Common.{◌≡◌, ◌≢◌, ℕ, ◌<◌, true, false, ⊎_elim, List, [], ◌∷◌, length, map, refl, sym, ◌∙◌, ap, subst, arith, Option, Some, None}
use Rattle.std.specs.FinMap as fin
use Rattle.std.specs.Option.{option_map}
use Rattle.std.specs.Prelude.{is_some}
use Rattle.std.specs.Str.{bytes_eq}
use Rattle.std.proofs.lemmas.Option.{same_Some}
use Rattle.lk_types.proofs.Parts.{mapped}
use Rattle.lk_types.specs.Each.{Each}
use Rattle.lk_types.specs.Grounding.{all_of}
use Rattle.lk_types.specs.Rows.{Label}
use Rattle.lk_types.specs.TypeText.{effect_word}
use Rattle.lk_types.specs.Variables.{tail_variable}
use Rattle.lk_types.specs.declared.ty.Effect.{Effect}
use Rattle.lk_types.specs.declared.ty.Effects.{Effects}
use Rattle.lk_types.specs.declared.ty.RowTail.{RowTail}
use Rattle.lk_types.specs.declared.ty.RowTail.TheVariants.{Closed, Var}
use Rattle.lk_types.specs.declared.ty.Ty.TheVariants as ty
use Rattle.lk_types.specs.declared.ty.TyField.{TyField}
use Rattle.lk_types.specs.declared.ty.TyRow.{TyRow, out-TyRow, roll-TyRow}
use Rattle.lk_types.specs.declared.ty.Variable.{Variable}
use Rattle.lk_types.specs.declared.ty.Variable.TheVariants as variable
use Rattle.lk_unify.proofs.LoadEffects.{known_effect, before_effect_row}
use Rattle.lk_arena.proofs.Distinct.{lacks}
use Rattle.lk_unify.proofs.LoadKinds.{kinds_nothing, kinds_both, kinds_behind, loads_more}
use Rattle.lk_unify.proofs.LoadSteps.{none_of, both, both_some, loads_nothing, loads_both, loads_as}
use Rattle.lk_unify.proofs.OpenUnfold.{opened_row}
use Rattle.lk_arena.proofs.RowAlgebra.{label_cases, found_below, row_same}
use Rattle.lk_unify.proofs.RowsBefore.{AreKnown, before_is, before_some, before_once, with_one, hit, miss}
use Rattle.lk_arena.proofs.Sizes.{no_entries}
use Rattle.lk_arena.specs.Kinds.{Kind, OfTypes, OfFields, OfEffects, OfUnit, OfNothing, HasKind, IsEffectName}
use Rattle.lk_unify.specs.Loading.{LoadsEnd, KindsTo, IsEndOf, kind_of, value_of, IsLoader, LoadsTo, Loads, LoadsFields, Loaded, Makes, AddsRow, NeverMeans, type_meaning, fields_meaning, row_meaning, effects_meaning, end_value, effect_fields}
use Rattle.lk_arena.specs.Openings.{OpenRow, OpenEffects, Opened, Opening, opened, before_open, tail_opened, effects_tail_opened, effects_opened, only_tail, field_type, row_type, unit_type}
use Rattle.lk_arena.specs.Shapes.{IsDistinct, IsRowOf, found_at}
use Rattle.lk_arena.specs.Values.{Value, Plain, OfRow, IsMadeOf, effect_row}
use Rattle.lk_unify.specs.declared.loader.Loader.{Loader}
use Rattle.lk_arena.specs.declared.node.Field.{Field}
use Rattle.lk_arena.specs.declared.node.Head.TheVariants as head
use Rattle.lk_arena.specs.declared.node.Shape.TheVariants.{Made, Empty}
use Rattle.lk_arena.specs.declared.node.Shape.TheVariants as shape

cons_once : {A : Type 0} (a b : A) (xs ys : List A) → a ∷ xs ≡ b ∷ ys → (a ≡ b) × (xs ≡ ys)
cons_once a b xs ys e = (cc, cc)

-- ---- a row that becomes something has no label twice

absent : (fs : List Field) (ks : List Opened) (y m : OpenRow) (l : Label) → map (λ f. f.label) fs ≡ map (λ k. k.0) ks → before_open ks y ≡ Some m
    → fin.get m.fields l ≡ None → found_at fs l ≡ None
absent [] ks y m l labels is none = refl
absent (f ∷ fs) [] y m l labels is none = cc
absent (f ∷ fs) (k ∷ ks) y m l labels is none =
    let c = cons_once f.label k.0 (map (λ f. f.label) fs) (map (λ k. k.0) ks) labels in
    let a = with_one k.0 k.1 (before_open ks y) m is in
    let other : l ≡ k.0 → ⊥ = λ same. (let h : None ≡ Some a.0 = sym none ∙ ap (λ (r : OpenRow). fin.get r.fields l) a.5 ∙ hit a.1.fields k.0 a.0 l same in cc) in
    let below : fin.get a.1.fields l ≡ None = sym (miss a.1.fields k.0 a.0 l other) ∙ ap (λ (r : OpenRow). fin.get r.fields l) (sym a.5) ∙ none in
    ⊎_elim
    (λ (e : (bytes_eq l f.label ≡ true) × (l ≡ f.label)). absurd (other (e.1 ∙ c.0)))
    (λ (e : bytes_eq l f.label ≡ false). found_below f fs l e ∙ absent fs ks y a.1 l c.1 a.3 below)
    (label_cases l f.label)

pub before_distinct : (fs : List Field) (ks : List Opened) (y m : OpenRow) → map (λ f. f.label) fs ≡ map (λ k. k.0) ks → before_open ks y ≡ Some m → IsDistinct fs
before_distinct [] ks y m labels is = tt
before_distinct (f ∷ fs) [] y m labels is = cc
before_distinct (f ∷ fs) (k ∷ ks) y m labels is =
    let c = cons_once f.label k.0 (map (λ f. f.label) fs) (map (λ k. k.0) ks) labels in
    let a = with_one k.0 k.1 (before_open ks y) m is in (
      absent fs ks y a.1 f.label c.1 a.3 (lacks (fin.get a.1.fields f.label) (ap (λ l. is_some (fin.get a.1.fields l)) c.0 ∙ a.4)),
      before_distinct fs ks y a.1 c.1 a.3,
    )

-- ---- fields before the end

module _ {A : Type 0} (m : Opening → Option A) (r : (ℕ → Value) → A) (fields : List Field) (tail : ℕ) (n : Opening → Option Value) (ks : Opening → List Opened) (end : Opening → OpenRow)
    (is : (ρ : Opening) → n ρ ≡ option_map OfRow (before_open (ks ρ) (end ρ)))
    (known : (v : ℕ → Value) (ρ : Opening) → m ρ ≡ Some (r v) → AreKnown v fields (ks ρ) × (v tail ≡ OfRow (end ρ))) where
  pub row_says : IsDistinct fields → (v : ℕ → Value) (x : Value) (ρ : Opening) → m ρ ≡ Some (r v) → IsRowOf fields v (v tail) x → n ρ ≡ Some x
  row_says distinct v x ρ e row =
      let q = known v ρ e in
      let rows : IsRowOf fields v (OfRow (end ρ)) (OfRow row.row) = subst (λ y. IsRowOf fields v y (OfRow row.row)) q.1 (subst (IsRowOf fields v (v tail)) row.row_is row) in
      let fresh : Each (λ f. fin.get (end ρ).fields f.label ≡ None) fields =
      subst (λ (y : OpenRow). Each (λ f. fin.get y.fields f.label ≡ None) fields) (row_same row.tail (end ρ) (sym row.tail_is ∙ q.1)) row.fresh in
      let s = before_some v fields (ks ρ) (end ρ) q.0 distinct fresh in
      is ρ ∙ ap (option_map OfRow) s.1 ∙ ap (λ r. Some (OfRow r)) (before_once v fields (end ρ) s.0 row.row s.2 rows) ∙ ap Some (sym row.row_is)

  pub row_stands : (w : ℕ → Value) (x : Value) (ρ : Opening) → m ρ ≡ Some (r w) → n ρ ≡ Some x → IsRowOf fields w (w tail) x
  row_stands w x ρ e says =
      let s = mapped OfRow (before_open (ks ρ) (end ρ)) x (sym (is ρ) ∙ says) in
      let q = known w ρ e in
      subst (IsRowOf fields w (w tail)) (sym s.2) (subst (λ z. IsRowOf fields w z (OfRow s.0)) (sym q.1) (before_is w fields (ks ρ) (end ρ) s.0 q.0 s.1))

module _ {A : Type 0} (a b c : Loader) (m : Opening → Option A) (r : (ℕ → Value) → A) (fields : List Field) (tail k : ℕ) (n : Opening → Option Value) (ks : Opening → List Opened) (end : Opening → OpenRow)
    (is : (ρ : Opening) → n ρ ≡ option_map OfRow (before_open (ks ρ) (end ρ)))
    (known : (v : ℕ → Value) (ρ : Opening) → m ρ ≡ Some (r v) → AreKnown v fields (ks ρ) × (v tail ≡ OfRow (end ρ)))
    (there : (ρ : Opening) (x : OpenRow) → before_open (ks ρ) (end ρ) ≡ Some x → (y : A) × (m ρ ≡ Some y))
    (l : LoadsTo a b m r) (kind : Kind) (add : Makes b c kind (shape.Row fields tail) k) (distinct : IsDistinct fields) (P : (ℕ → Kind) → Type 0) (kinds : KindsTo a b P) (fits : (j : ℕ → Kind) → P j → HasKind j kind (shape.Row fields tail)) where
  row_builds : (x : Value) (ρ : Opening) → n ρ ≡ Some x → (y : A) × (m ρ ≡ Some y) × ((w : ℕ → Value) → r w ≡ y → IsRowOf fields w (w tail) x)
  row_builds x ρ e =
      let s = mapped OfRow (before_open (ks ρ) (end ρ)) x (sym (is ρ) ∙ e) in
      let y = there ρ s.0 s.1 in
      (y.0, y.1, λ w same. row_stands m r fields tail n ks end is known w x ρ (y.1 ∙ ap Some (sym same)) e)

  pub loads_row : Loads a c kind n k
  loads_row =
      loads_more a b c m r (shape.Row fields tail) k n l P kind add kinds fits (row_says m r fields tail n ks end is known distinct) row_builds

-- ---- ends

pub loads_closed : (b c : Loader) (k : ℕ) (kind : Kind) → ((j : ℕ → Kind) → HasKind j kind Empty) → IsLoader b → Makes b c kind Empty k → Loads b c kind (λ ρ. Some (OfRow (only_tail Closed))) k
loads_closed b c k kind fits whole add =
    loads_more {A = Unit {0}} b b c (λ ρ. Some (tt {0})) (λ v. tt {0}) Empty k (λ ρ. Some (OfRow (only_tail Closed))) (loads_nothing {A = Unit {0}} b (tt {0}) whole) (λ j. Unit {0}) kind add (kinds_nothing b) (λ j p. fits j)
    (λ v x ρ e built. ap Some (sym built))
    (λ x ρ e. (tt {0}, refl {0}, λ w r. sym (same_Some (OfRow (only_tail Closed)) x e)))

row_end : (ρ : Opening) (tail : RowTail) → end_value (tail_variable variable.Row tail) ρ ≡ OfRow (tail_opened ρ tail)
row_end ρ Closed = refl
row_end ρ (Var n) = refl

effect_end : (ρ : Opening) (tail : RowTail) → end_value (tail_variable variable.Effects tail) ρ ≡ OfRow (effect_row (effects_tail_opened ρ tail))
effect_end ρ Closed = refl
effect_end ρ (Var n) = refl

-- ---- rows of types

-- a field with what its type becomes
abbrev pub entry : Opening → TyField → Opened
entry ρ f = (f.label, opened ρ f.ty)

pub row_is : (r : TyRow) (ρ : Opening) → row_meaning r ρ ≡ option_map OfRow (before_open (map (entry ρ) (out-TyRow r).fields) (tail_opened ρ (out-TyRow r).tail))
row_is r ρ = ap (option_map OfRow) (opened_row ρ r)

fields_known : (v : ℕ → Value) (ρ : Opening) (fs : List TyField) (fields : List Field) → map (λ f. f.label) fields ≡ map (λ f. f.label) fs
    → fields_meaning fs ρ ≡ Some (map (λ f. v f.node) fields) → AreKnown v fields (map (entry ρ) fs)
fields_known v ρ [] [] labels e = tt
fields_known v ρ [] (g ∷ gs) labels e = cc
fields_known v ρ (f ∷ fs) [] labels e = cc
fields_known v ρ (f ∷ fs) (g ∷ gs) labels e =
    let c = cons_once g.label f.label (map (λ f. f.label) gs) (map (λ f. f.label) fs) labels in
    let s = first (type_meaning f.ty ρ) refl e in
    let t = mapped Plain (opened ρ f.ty) (v g.node) s.0 in (
      c.0,
      (t.0, t.1, t.2),
      fields_known v ρ fs gs c.1 s.1,
    )
  where
    first : (o : Option Value) → type_meaning f.ty ρ ≡ o → all_of (o ∷ map (λ f. type_meaning f.ty ρ) fs) ≡ Some (v g.node ∷ map (λ f. v f.node) gs)
        → (type_meaning f.ty ρ ≡ Some (v g.node)) × (fields_meaning fs ρ ≡ Some (map (λ f. v f.node) gs))
    first None is e = cc
    first (Some x) is e =
        let m = mapped (λ more. x ∷ more) (fields_meaning fs ρ) (v g.node ∷ map (λ f. v f.node) gs) e in
        let c = cons_once (v g.node) x (map (λ f. v f.node) gs) m.0 m.2 in
        (is ∙ ap Some (sym c.0), m.1 ∙ ap Some (sym c.1))

pub fields_there : (ρ : Opening) (fs : List TyField) (y x : OpenRow) → before_open (map (entry ρ) fs) y ≡ Some x → (vs : List Value) × (fields_meaning fs ρ ≡ Some vs)
fields_there ρ [] y x e = ([], refl)
fields_there ρ (f ∷ fs) y x e =
    let a = with_one (entry ρ f).0 (entry ρ f).1 (before_open (map (entry ρ) fs) y) x e in
    let rest = fields_there ρ fs y a.1 a.3 in
    let t : type_meaning f.ty ρ ≡ Some (Plain a.0) = ap (option_map Plain) a.2 in (
      Plain a.0 ∷ rest.0,
      ap (λ o. all_of (o ∷ map (λ f. type_meaning f.ty ρ) fs)) t ∙ ap (option_map (λ more. Plain a.0 ∷ more)) rest.1,
    )

same_labels : (ρ : Opening) (fs : List TyField) → map (λ k. k.0) (map (entry ρ) fs) ≡ map (λ f. f.label) fs
same_labels ρ [] = refl
same_labels ρ (f ∷ fs) = ap (λ ls. f.label ∷ ls) (same_labels ρ fs)

module _ (r : TyRow) where
  abbrev pub fs : List TyField
  fs = (out-TyRow r).fields

  abbrev pub end : Opening → OpenRow
  end ρ = tail_opened ρ (out-TyRow r).tail

  abbrev pub end_meaning : Opening → Option Value
  end_meaning ρ = Some (end_value (tail_variable variable.Row (out-TyRow r).tail) ρ)

  abbrev pub all_meaning : Opening → Option (List Value × Value)
  all_meaning ρ = both (fields_meaning fs ρ) (end_meaning ρ)

  -- what is read of the fields and of the end
  pub row_known : (fields : List Field) (tail : ℕ) → map (λ f. f.label) fields ≡ map (λ f. f.label) fs → (v : ℕ → Value) (ρ : Opening) → all_meaning ρ ≡ Some (map (λ f. v f.node) fields, v tail)
      → AreKnown v fields (map (entry ρ) fs) × (v tail ≡ OfRow (end ρ))
  row_known fields tail labels v ρ is =
      let s = both_some (fields_meaning fs ρ) (end_meaning ρ) (map (λ f. v f.node) fields, v tail) is in
      (fields_known v ρ fs fields labels s.0, sym (same_Some (end_value (tail_variable variable.Row (out-TyRow r).tail) ρ) (v tail) s.1) ∙ row_end ρ (out-TyRow r).tail)

  pub loads_row_fields : (a b c d : Loader) (fields : List Field) (tail k : ℕ) → LoadsFields a b fs fields → Loads b c OfFields end_meaning tail → IsDistinct fields → Makes c d OfFields (shape.Row fields tail) k
      → Loads a d OfFields (row_meaning r) k
  loads_row_fields a b c d fields tail k l e distinct add =
      loads_row a c d all_meaning (λ v. (map (λ f. v f.node) fields, v tail)) fields tail k (row_meaning r) (λ ρ. map (entry ρ) fs) end (row_is r)
      (row_known fields tail l.labels)
      (λ ρ x is.
      let s = fields_there ρ fs (end ρ) x is in
      ((s.0, end_value (tail_variable variable.Row (out-TyRow r).tail) ρ), ap (λ o. both o (end_meaning ρ)) s.1))
      (loads_both a b c (fields_meaning fs) (λ v. map (λ f. v f.node) fields) end_meaning (λ v. v tail) l.to e.to)
      OfFields add distinct (λ j. Each (λ f. j f.node ≡ OfTypes) fields × (j tail ≡ OfFields))
      (kinds_both a b c (λ j. Each (λ f. j f.node ≡ OfTypes) fields) (λ j. j tail ≡ OfFields) l.to.longer e.to.longer l.kinds e.kinds) (λ j p. p)

  pub none_left : (gs : List TyField) → [] ≡ map (λ (f : TyField). f.label) gs → gs ≡ []
  none_left [] e = refl
  none_left (g ∷ gs) e = cc

  pub loads_row_end : (a b c : Loader) (fields : List Field) (tail : ℕ) → LoadsFields a b fs fields → fields ≡ [] → Loads b c OfFields end_meaning tail → Loads a c OfFields (row_meaning r) tail
  loads_row_end a b c fields tail l empty e =
      let none : fs ≡ [] = none_left fs (ap (map (λ f. f.label)) (sym empty) ∙ l.labels) in
      record {
        below = e.below;
        kinds = kinds_behind a b c (λ j. Each (λ f. j f.node ≡ OfTypes) fields) (λ j. j tail ≡ OfFields) l.to.longer e.to.longer l.kinds e.kinds;
        to = loads_as a c all_meaning (λ v. (map (λ f. v f.node) fields, v tail)) (λ p. p.1) (row_meaning r) (λ v. v tail)
            (loads_both a b c (fields_meaning fs) (λ v. map (λ f. v f.node) fields) end_meaning (λ v. v tail) l.to e.to)
            (λ ρ.
            row_is r ρ ∙ ap (λ gs. option_map OfRow (before_open (map (entry ρ) gs) (end ρ))) none ∙ ap Some (sym (row_end ρ (out-TyRow r).tail))
            ∙ sym (ap (λ gs. option_map (λ (p : List Value × Value). p.1) (both (fields_meaning gs ρ) (end_meaning ρ))) none))
            (λ v. refl);
      }

  never_row : ((ρ : Opening) (x : OpenRow) → before_open (map (entry ρ) fs) (end ρ) ≡ Some x → ⊥) → NeverMeans (row_meaning r)
  never_row n ρ = row_is r ρ ∙ ap (option_map OfRow) (none_of (before_open (map (entry ρ) fs) (end ρ)) (n ρ))

  pub never_row_fields : NeverMeans (fields_meaning fs) → NeverMeans (row_meaning r)
  never_row_fields never = never_row (λ ρ x e. let s = fields_there ρ fs (end ρ) x e in (let h : None ≡ Some s.0 = sym (never ρ) ∙ s.1 in cc))

  pub never_twice : (fields : List Field) → map (λ f. f.label) fields ≡ map (λ f. f.label) fs → (IsDistinct fields → ⊥) → NeverMeans (row_meaning r)
  never_twice fields labels twice = never_row (λ ρ x e. twice (before_distinct fields (map (entry ρ) fs) (end ρ) x (labels ∙ sym (same_labels ρ fs)) e))

  -- what follows from the answer
  pub loaded_row : (a b c d : Loader) (fields : List Field) (tail : ℕ) (answer : Option ℕ) → LoadsFields a b fs fields → Loads b c OfFields end_meaning tail → AddsRow c d OfFields fields tail answer
      → Loaded a d OfFields (row_meaning r) answer
  loaded_row a b c d fields tail None l e twice = never_twice fields l.labels twice
  loaded_row a b c d fields tail (Some k) l e added = loads_row_fields a b c d fields tail k l e added.0 added.1

-- ---- rows of effects

effects_is : (es : Effects) (ρ : Opening) → effects_meaning es ρ ≡ option_map OfRow (before_open (map known_effect es.labels) (effect_row (effects_tail_opened ρ es.tail)))
effects_is es ρ = twice (effects_opened ρ es) ∙ ap (option_map OfRow) (sym (before_effect_row es.labels (effects_tail_opened ρ es.tail)))
  where
    twice : (o : Option OpenEffects) → option_map (λ s. OfRow (effect_row s)) o ≡ option_map OfRow (option_map effect_row o)
    twice None = refl
    twice (Some s) = refl

effects_known : (v : ℕ → Value) (unit : ℕ) (es : List Effect) → v unit ≡ Plain unit_type → AreKnown v (effect_fields unit es) (map known_effect es)
effects_known v unit [] is = tt
effects_known v unit (e ∷ es) is = (refl, (unit_type, refl, is), effects_known v unit es is)

effect_labels : (unit : ℕ) (es : List Effect) → map (λ f. f.label) (effect_fields unit es) ≡ map (λ k. k.0) (map known_effect es)
effect_labels unit [] = refl
effect_labels unit (e ∷ es) = ap (λ ls. effect_word e ∷ ls) (effect_labels unit es)

pub effects_below : (n unit : ℕ) (es : List Effect) → unit < n → Each (λ f. f.node < n) (effect_fields unit es)
effects_below n unit [] h = tt
effects_below n unit (e ∷ es) h = (h, effects_below n unit es h)

unit_is : ty.Fields (row_type (only_tail Closed)) ≡ unit_type
unit_is = ap (λ es. ty.Fields (roll-TyRow (record { fields = map field_type es; tail = Closed }))) no_entries

effects_kinds : (j : ℕ → Kind) (unit : ℕ) (es : List Effect) → j unit ≡ OfUnit → Each (λ f. IsEffectName f.label × (j f.node ≡ OfUnit)) (effect_fields unit es)
effects_kinds j unit [] h = tt
effects_kinds j unit (e ∷ es) h = (((e, refl), h), effects_kinds j unit es h)

-- the unit type on the row without fields
pub loads_unit : (a b c : Loader) (p k : ℕ) → Loads a b OfNothing (λ ρ. Some (OfRow (only_tail Closed))) p → Makes b c OfUnit (Made head.Fields (p ∷ [])) k → Loads a c OfUnit (λ ρ. Some (Plain unit_type)) k
loads_unit a b c p k l add =
    loads_more a b c (λ ρ. Some (OfRow (only_tail Closed))) (λ v. v p) (Made head.Fields (p ∷ [])) k (λ ρ. Some (Plain unit_type)) l.to (λ j. j p ≡ OfNothing) OfUnit add l.kinds (λ j e. e)
    (λ v x ρ e built.
    let q : IsMadeOf head.Fields (OfRow (only_tail Closed) ∷ []) x = subst (λ y. IsMadeOf head.Fields (y ∷ []) x) (sym (same_Some (OfRow (only_tail Closed)) (v p) e)) built in
    ap Some (sym (q ∙ ap Plain unit_is)))
    (λ x ρ e. (OfRow (only_tail Closed), refl, λ w r. subst (λ y. IsMadeOf head.Fields (y ∷ []) x) (sym r) (sym (same_Some (Plain unit_type) x e) ∙ sym (ap Plain unit_is))))

module _ (es : Effects) where
  abbrev effects_end : Opening → Option Value
  effects_end ρ = Some (end_value (tail_variable variable.Effects es.tail) ρ)

  pub loads_effects_end : (a b : Loader) (tail : ℕ) → es.labels ≡ [] → Loads a b OfEffects effects_end tail → Loads a b OfEffects (effects_meaning es) tail
  loads_effects_end a b tail none l = record {
    below = l.below;
    kinds = l.kinds;
    to = loads_as a b effects_end (λ v. v tail) (λ x. x) (effects_meaning es) (λ v. v tail) l.to
        (λ ρ. effects_is es ρ ∙ ap (λ ls. option_map OfRow (before_open (map known_effect ls) (effect_row (effects_tail_opened ρ es.tail)))) none ∙ ap Some (sym (effect_end ρ es.tail)))
        (λ v. refl);
  }

  pub loaded_effects : (a b c d : Loader) (tail unit : ℕ) (fields : List Field) (answer : Option ℕ) → Loads a b OfEffects effects_end tail → Loads b c OfUnit (λ ρ. Some (Plain unit_type)) unit
      → fields ≡ effect_fields unit es.labels → AddsRow c d OfEffects fields tail answer → Loaded a d OfEffects (effects_meaning es) answer
  loaded_effects a b c d tail unit fields None l u is twice =
      λ ρ. effects_is es ρ
      ∙ ap (option_map OfRow)
      (none_of (before_open (map known_effect es.labels) (effect_row (effects_tail_opened ρ es.tail)))
      (λ x s. twice (before_distinct fields (map known_effect es.labels) (effect_row (effects_tail_opened ρ es.tail)) x (ap (map (λ f. f.label)) is ∙ effect_labels unit es.labels) s)))
  loaded_effects a b c d tail unit fields (Some k) l u is added =
      loads_row a c d (λ ρ. both (effects_end ρ) (Some (Plain unit_type))) (λ v. (v tail, v unit)) fields tail k (effects_meaning es) (λ ρ. map known_effect es.labels)
      (λ ρ. effect_row (effects_tail_opened ρ es.tail)) (effects_is es)
      (λ v ρ s.
      let p = both_some (effects_end ρ) (Some (Plain unit_type)) (v tail, v unit) s in (
        subst (λ fs. AreKnown v fs (map known_effect es.labels)) (sym is) (effects_known v unit es.labels (sym (same_Some (Plain unit_type) (v unit) p.1))),
        sym (same_Some (end_value (tail_variable variable.Effects es.tail) ρ) (v tail) p.0) ∙ effect_end ρ es.tail,
      ))
      (λ ρ x s. ((end_value (tail_variable variable.Effects es.tail) ρ, Plain unit_type), refl))
      (loads_both a b c effects_end (λ v. v tail) (λ ρ. Some (Plain unit_type)) (λ v. v unit) l.to u.to)
      OfEffects added.1 added.0 (λ j. (j tail ≡ OfEffects) × (j unit ≡ OfUnit))
      (kinds_both a b c (λ j. j tail ≡ OfEffects) (λ j. j unit ≡ OfUnit) l.to.longer u.to.longer l.kinds u.kinds)
      (λ j p. (subst (Each (λ f. IsEffectName f.label × (j f.node ≡ OfUnit))) (sym is) (effects_kinds j unit es.labels p.1), p.0))

-- ---- ends of rows

pub end_as : (b c : Loader) (kind : Kind) (k : ℕ) (x y : Option Variable) → x ≡ y → LoadsEnd b c kind x k → LoadsEnd b c kind y k
end_as b c kind k x y e = subst (λ x. LoadsEnd b c kind x k) e

none_fits : (kind : Kind) (j : ℕ → Kind) → IsEndOf None kind → HasKind j kind Empty
none_fits OfTypes j h = absurd h
none_fits OfFields j h = tt
none_fits OfEffects j h = tt
none_fits OfUnit j h = absurd h
none_fits OfNothing j h = absurd h

pub end_closed : (b c : Loader) (kind : Kind) (k : ℕ) (x : Option Variable) → x ≡ None → IsLoader b → Makes b c kind Empty k → LoadsEnd b c kind x k
end_closed b c kind k x e whole add = end_as b c kind k None x (sym e) (λ h. loads_closed b c k kind (λ j. none_fits kind j h) whole add)

pub end_variable : (b c : Loader) (kind : Kind) (k : ℕ) (x : Option Variable) (y : Variable) → x ≡ Some y → Loads b c (kind_of y) (λ ρ. Some (value_of ρ y)) k → LoadsEnd b c kind x k
end_variable b c kind k x y e l = end_as b c kind k (Some y) x (sym e) (λ h. subst (λ q. Loads b c q (λ ρ. Some (value_of ρ y)) k) (sym h) l)

row_fits : (tail : RowTail) → IsEndOf (tail_variable variable.Row tail) OfFields
row_fits Closed = tt
row_fits (Var n) = refl

effects_fit : (tail : RowTail) → IsEndOf (tail_variable variable.Effects tail) OfEffects
effects_fit Closed = tt
effects_fit (Var n) = refl

pub row_end_as : (b c : Loader) (k : ℕ) (x : Option Variable) (tail : RowTail) → x ≡ tail_variable variable.Row tail → LoadsEnd b c OfFields x k → Loads b c OfFields (λ ρ. Some (end_value (tail_variable variable.Row tail) ρ)) k
row_end_as b c k x tail e l = end_as b c OfFields k x (tail_variable variable.Row tail) e l (row_fits tail)

pub effects_end_as : (b c : Loader) (k : ℕ) (x : Option Variable) (tail : RowTail) → x ≡ tail_variable variable.Effects tail → LoadsEnd b c OfEffects x k
    → Loads b c OfEffects (λ ρ. Some (end_value (tail_variable variable.Effects tail) ρ)) k
effects_end_as b c k x tail e l = end_as b c OfEffects k x (tail_variable variable.Effects tail) e l (effects_fit tail)

pub some_effects : (unit : ℕ) (es : List Effect) (fields : List Field) → fields ≡ effect_fields unit es → (es ≡ [] → ⊥) → length fields ≢ 0
some_effects unit [] fields is some n = some refl
some_effects unit (e ∷ es) fields is some n = (let h : length (effect_fields unit (e ∷ es)) ≡ 0 = ap length (sym is) ∙ n in omega arith)

pub some_fields : (fields : List Field) → (fields ≡ [] → ⊥) → length fields ≢ 0
some_fields [] some n = some refl
some_fields (f ∷ fs) some n = omega arith
