-- Values that are ground are read: where the parts of two constructors are read, the constructors are.
use Rattle.std.proofs.Common.{◌≡◌, ℕ, List, [], ◌∷◌, map, refl, sym, ◌∙◌, ap, subst, Some}
use Rattle.std.specs.FinMap as fin
use Rattle.std.specs.Option.{option_map}
use Rattle.std.specs.Prelude.{T}
use Rattle.lk_types.proofs.Unfold.{under_int, under_bool, under_text, under_list, under_fields, under_tags, under_function}
use Rattle.lk_types.specs.Each.{Each}
use Rattle.lk_types.specs.Grounding.{Grounding, under, row_under, effects_under, all_of, function_of}
use Rattle.lk_types.specs.Rows.{Label, Row, EffectSet, label_order, fields_of, effects_of}
use Rattle.lk_types.specs.declared.ground.Ground.{Ground}
use Rattle.lk_types.specs.declared.ground.Ground.TheVariants as known
use Rattle.lk_types.specs.declared.ground.GroundField.{GroundField}
use Rattle.lk_types.specs.declared.ty.Effects.{Effects}
use Rattle.lk_types.specs.declared.ty.RowTail.TheVariants.{Closed}
use Rattle.lk_types.specs.declared.ty.Ty.{Ty, out-Ty}
use Rattle.lk_types.specs.declared.ty.Ty.TheOpen.{Ty-F}
use Rattle.lk_types.specs.declared.ty.Ty.TheVariants as ty
use Rattle.lk_types.specs.declared.ty.Ty.TheViews.{out-roll-TyRow}
use Rattle.lk_types.specs.declared.ty.TyField.{TyField}
use Rattle.lk_types.specs.declared.ty.TyRow.{TyRow, roll-TyRow, out-TyRow}
use Rattle.lk_types.proofs.LabelMaps.{entries_back, map_back, sorted_back}
use Rattle.lk_unify.proofs.OpenEffectRows.{effect_row-once}
use Rattle.lk_unify.proofs.OpenGround.{ground_of, row_ground, back, of_int, of_bool, of_text, of_list, of_fields, of_tags, of_function}
use Rattle.lk_unify.proofs.OpenUnfold.{as_field, as_list, as_fields, as_tags, as_function}
use Rattle.lk_arena.specs.Kinds.{Kind, OfTypes, OfFields, OfEffects, TakesKinds}
use Rattle.lk_arena.specs.Openings.{OpenRow, OpenEffects, field_type, row_type, effects_type, as_type, as_entry, as_row, as_effects}
use Rattle.lk_arena.specs.Values.{Value, Plain, OfRow, IsMadeOf, effect_row}
use Rattle.lk_arena.specs.declared.node.Head.{Head}
use Rattle.lk_arena.specs.declared.node.Head.TheVariants as head

-- where y is ground x becomes what y is
abbrev pub Reads : Grounding → Kind → Value → Value → Type 0
Reads τ OfTypes x y = (g : Ground) → y ≡ Plain (as_type g) → (t : Ty) × (x ≡ Plain t) × (under τ t ≡ Some g)
Reads τ OfFields x y = (m : Row) → y ≡ OfRow (as_row m) → (r : OpenRow) × (x ≡ OfRow r) × (row_under τ (row_type r) ≡ Some m)
Reads τ OfEffects x y = (s : EffectSet) → y ≡ OfRow (effect_row (as_effects s)) → (r : OpenEffects) × (x ≡ OfRow (effect_row r)) × (effects_under τ (effects_type r) ≡ Some s)
Reads τ _ x y = Unit {0}

pub plain_once : {s t : Ty} → Plain s ≡ Plain t → s ≡ t
plain_once e = cc

pub row_once : {m n : OpenRow} → OfRow m ≡ OfRow n → m ≡ n
row_once e = cc

-- ---- constructors of types are told apart

abbrev list_part : Ty-F Ty TyField TyRow → Ty → Ty
list_part (Ty-F.List t) d = t
list_part _ d = d

abbrev row_part : Ty-F Ty TyField TyRow → TyRow → TyRow
row_part (Ty-F.Fields r) d = r
row_part (Ty-F.Tags r) d = r
row_part _ d = d

abbrev function_parts : Ty-F Ty TyField TyRow → List Ty × Effects × Ty → List Ty × Effects × Ty
function_parts (Ty-F.Fun params es answer) d = (params, es, answer)
function_parts _ d = d

list_once : (s t : Ty) → ty.List s ≡ ty.List t → s ≡ t
list_once s t e = ap (λ x. list_part x s) (sym (ty.outs-List s)) ∙ ap (λ x. list_part (out-Ty x) s) e ∙ ap (λ x. list_part x s) (ty.outs-List t)

fields_once : (q r : TyRow) → ty.Fields q ≡ ty.Fields r → q ≡ r
fields_once q r e = ap (λ x. row_part x q) (sym (ty.outs-Fields q)) ∙ ap (λ x. row_part (out-Ty x) q) e ∙ ap (λ x. row_part x q) (ty.outs-Fields r)

tags_once : (q r : TyRow) → ty.Tags q ≡ ty.Tags r → q ≡ r
tags_once q r e = ap (λ x. row_part x q) (sym (ty.outs-Tags q)) ∙ ap (λ x. row_part (out-Ty x) q) e ∙ ap (λ x. row_part x q) (ty.outs-Tags r)

function_once : (ps qs : List Ty) (es fs : Effects) (s t : Ty) → ty.Fun ps es s ≡ ty.Fun qs fs t → (ps ≡ qs) × (es ≡ fs) × (s ≡ t)
function_once ps qs es fs s t e =
    let d : List Ty × Effects × Ty = (ps, es, s) in
    let parts : ◌≡◌ {A = List Ty × Effects × Ty} (ps, es, s) (qs, fs, t) =
    ap (λ x. function_parts x d) (sym (ty.outs-Fun ps es s)) ∙ ap (λ x. function_parts (out-Ty x) d) e ∙ ap (λ x. function_parts x d) (ty.outs-Fun qs fs t) in
    (ap (λ p. p.0) parts, ap (λ p. p.1) parts, ap (λ p. p.2) parts)

-- ---- a ground type that is a constructor

-- a ground type is what is read of the type that it is
read_back : (g : Ground) (t : Ty) → as_type g ≡ t → g ≡ ground_of t
read_back g t e = sym (back g) ∙ ap ground_of e

list_is : (g : Ground) (t : Ty) → as_type g ≡ ty.List t → (h : Ground) × (g ≡ known.List h) × (t ≡ as_type h)
list_is g t e =
    let h = ground_of t in
    let is : g ≡ known.List h = read_back g (ty.List t) e ∙ of_list t in
    (h, is, list_once t (as_type h) (sym e ∙ ap as_type is ∙ as_list h))

function_is : (g : Ground) (ts : List Ty) (s : OpenEffects) (t : Ty) → as_type g ≡ ty.Fun ts (effects_type s) t
    → (hs : List Ground) × (h : Ground) × (g ≡ known.Fun hs (effects_of s.labels) h) × (ts ≡ map as_type hs) × (s ≡ as_effects s.labels) × (t ≡ as_type h)
function_is g ts s t e =
    let hs = map ground_of ts in
    let h = ground_of t in
    let is : g ≡ known.Fun hs (effects_of s.labels) h = read_back g (ty.Fun ts (effects_type s) t) e ∙ of_function ts (effects_type s) t in
    let same = function_once ts (map as_type hs) (effects_type s) (record { labels = effects_of s.labels; tail = Closed }) t (as_type h) (sym e ∙ ap as_type is ∙ as_function hs (effects_of s.labels) h) in
    let ends : s.tail ≡ Closed = ap (λ es. es.tail) same.1 in
    (hs, h, is, same.0, (λ i. record { labels = s.labels; tail = ends i }), same.2)

-- ---- a row of ground types

entry_of : TyField → Label × Ty
entry_of f = (f.label, f.ty)

ground_entry : GroundField → Label × Ground
ground_entry f = (f.label, f.ty)

entries_of : (es : List (Label × Ty)) → map entry_of (map field_type es) ≡ es
unfolding entry_of
entries_of [] = refl
entries_of (e ∷ es) = ap (λ r. e ∷ r) (entries_of es)

ground_entries : (fs : List GroundField) → map entry_of (map as_field fs) ≡ map as_entry (map ground_entry fs)
unfolding entry_of ground_entry
ground_entries [] = refl
ground_entries (f ∷ fs) = ap (λ r. (f.label, as_type f.ty) ∷ r) (ground_entries fs)

fields_again : (fs : List GroundField) → map (λ (e : Label × Ground). record { label = e.0; ty = e.1 }) (map ground_entry fs) ≡ fs
unfolding ground_entry
fields_again [] = refl
fields_again (f ∷ fs) = ap (λ r. f ∷ r) (fields_again fs)

module _ (fs : List GroundField) (m : OpenRow) (same : roll-TyRow (record { fields = map as_field fs; tail = Closed }) ≡ row_type m) where
  seen : ◌≡◌ {A = List TyField} (map as_field fs) (map field_type (fin.entries m.fields))
  seen =
      ap (λ r. r.fields) (sym (out-roll-TyRow (record { fields = map as_field fs; tail = Closed })))
      ∙ ap (λ r. (out-TyRow r).fields) same
      ∙ ap (λ r. r.fields) (out-roll-TyRow (record { fields = map field_type (fin.entries m.fields); tail = m.tail }))

  ends : Closed ≡ m.tail
  ends =
      ap (λ r. r.tail) (sym (out-roll-TyRow (record { fields = map as_field fs; tail = Closed })))
      ∙ ap (λ r. (out-TyRow r).tail) same
      ∙ ap (λ r. r.tail) (out-roll-TyRow (record { fields = map field_type (fin.entries m.fields); tail = m.tail }))

  es : List (Label × Ground)
  es = map ground_entry fs

  es_are : map as_entry es ≡ fin.entries m.fields
  unfolding es
  es_are = sym (ground_entries fs) ∙ ap (map entry_of) seen ∙ entries_of (fin.entries m.fields)

  es_sorted : T (fin.is_sorted label_order es)
  es_sorted = sorted_back as_type es (subst (λ es. T (fin.is_sorted label_order es)) (sym es_are) (fin.entries_sorted m.fields))

  row_of_fields : (n : Row) × (fs ≡ fields_of n) × (m ≡ as_row n)
  unfolding es
  row_of_fields =
      let n : Row = fin.from_entries es in
      let entries : fin.entries n ≡ es = entries_back es es_sorted in
      let fields : m.fields ≡ fin.from_entries (map as_entry (fin.entries n)) = sym (map_back m.fields) ∙ ap fin.from_entries (sym es_are) ∙ ap (λ es. fin.from_entries (map as_entry es)) (sym entries) in
      (n, sym (ap (map (λ (e : Label × Ground). record { label = e.0; ty = e.1 })) entries ∙ fields_again fs), λ i. record { fields = fields i; tail = sym ends i })

fields_is : (g : Ground) (m : OpenRow) → as_type g ≡ ty.Fields (row_type m) → (n : Row) × (g ≡ known.Fields (fields_of n)) × (m ≡ as_row n)
fields_is g m e =
    let fs = row_ground (row_type m) in
    let is : g ≡ known.Fields fs = read_back g (ty.Fields (row_type m)) e ∙ of_fields (row_type m) in
    let r = row_of_fields fs m (fields_once (roll-TyRow (record { fields = map as_field fs; tail = Closed })) (row_type m) (sym (as_fields fs) ∙ ap as_type (sym is) ∙ e)) in
    (r.0, is ∙ ap known.Fields r.1, r.2)

tags_is : (g : Ground) (m : OpenRow) → as_type g ≡ ty.Tags (row_type m) → (n : Row) × (g ≡ known.Tags (fields_of n)) × (m ≡ as_row n)
tags_is g m e =
    let fs = row_ground (row_type m) in
    let is : g ≡ known.Tags fs = read_back g (ty.Tags (row_type m)) e ∙ of_tags (row_type m) in
    let r = row_of_fields fs m (tags_once (roll-TyRow (record { fields = map as_field fs; tail = Closed })) (row_type m) (sym (as_tags fs) ∙ ap as_type (sym is) ∙ e)) in
    (r.0, is ∙ ap known.Tags r.1, r.2)

-- ---- constructors

cons_once : {A : Type 0} {a b : A} {xs ys : List A} → a ∷ xs ≡ b ∷ ys → (a ≡ b) × (xs ≡ ys)
cons_once e = (cc, cc)

no_cons : {A : Type 0} (a : A) (xs : List A) → [] ≡ a ∷ xs → ⊥
no_cons a xs e = cc

module _ (τ : Grounding) where
  -- a base type
  base_reads : (t : Ty) (g : Ground) → ground_of t ≡ g → under τ t ≡ Some g → (x y : Value) → x ≡ Plain t → y ≡ Plain t → Reads τ OfTypes x y
  base_reads t g of is x y a b h e = (t, a, is ∙ ap Some (sym (read_back h t (plain_once (sym e ∙ b)) ∙ of)))

  list_reads : (k : Kind) (a b x y : Value) → k ≡ OfTypes → IsMadeOf head.List (a ∷ []) x → IsMadeOf head.List (b ∷ []) y → Reads τ k a b → Reads τ OfTypes x y
  list_reads k (OfRow m) b x y kind p q r g e = absurd p
  list_reads k (Plain t) (OfRow n) x y kind p q r g e = absurd q
  list_reads k (Plain s) (Plain t) x y kind p q r g e =
      let l = list_is g t (plain_once (sym e ∙ q)) in
      let reads : Reads τ OfTypes (Plain s) (Plain t) = subst (λ k. Reads τ k (Plain s) (Plain t)) kind r in
      let inner = reads l.0 (ap Plain l.2) in
      (ty.List s, p, under_list τ s ∙ ap (option_map known.List) (ap (under τ) (plain_once inner.1) ∙ inner.2) ∙ ap Some (sym l.1))

  row_is_read : (m n : OpenRow) (r : Row) → Reads τ OfFields (OfRow m) (OfRow n) → n ≡ as_row r → row_under τ (row_type m) ≡ Some r
  row_is_read m n r reads e = let inner = reads r (ap OfRow e) in ap (λ m. row_under τ (row_type m)) (row_once inner.1) ∙ inner.2

  fields_reads : (k : Kind) (a b x y : Value) → k ≡ OfFields → IsMadeOf head.Fields (a ∷ []) x → IsMadeOf head.Fields (b ∷ []) y → Reads τ k a b → Reads τ OfTypes x y
  fields_reads k (Plain m) b x y kind p q r g e = absurd p
  fields_reads k (OfRow t) (Plain n) x y kind p q r g e = absurd q
  fields_reads k (OfRow m) (OfRow n) x y kind p q r g e =
      let l = fields_is g n (plain_once (sym e ∙ q)) in
      let reads : Reads τ OfFields (OfRow m) (OfRow n) = subst (λ k. Reads τ k (OfRow m) (OfRow n)) kind r in
      (ty.Fields (row_type m), p, under_fields τ (row_type m) ∙ ap (option_map (λ m. known.Fields (fields_of m))) (row_is_read m n l.0 reads l.2) ∙ ap Some (sym l.1))

  tags_reads : (k : Kind) (a b x y : Value) → k ≡ OfFields → IsMadeOf head.Tags (a ∷ []) x → IsMadeOf head.Tags (b ∷ []) y → Reads τ k a b → Reads τ OfTypes x y
  tags_reads k (Plain m) b x y kind p q r g e = absurd p
  tags_reads k (OfRow t) (Plain n) x y kind p q r g e = absurd q
  tags_reads k (OfRow m) (OfRow n) x y kind p q r g e =
      let l = tags_is g n (plain_once (sym e ∙ q)) in
      let reads : Reads τ OfFields (OfRow m) (OfRow n) = subst (λ k. Reads τ k (OfRow m) (OfRow n)) kind r in
      (ty.Tags (row_type m), p, under_tags τ (row_type m) ∙ ap (option_map (λ m. known.Tags (fields_of m))) (row_is_read m n l.0 reads l.2) ∙ ap Some (sym l.1))

  module _ (kind : ℕ → Kind) (u v : ℕ → Value) where
    types_read : (ps : List ℕ) (us : List Ty) (hs : List Ground) → Each (λ k. k ≡ OfTypes) (map kind ps) → map u ps ≡ map Plain us → map v ps ≡ map Plain (map as_type hs)
        → Each (λ p. Reads τ (kind p) (u p) (v p)) ps → all_of (map (under τ) us) ≡ Some hs
    types_read [] [] [] kinds a b reads = refl
    types_read [] [] (h ∷ hs) kinds a b reads = absurd (no_cons (Plain (as_type h)) (map Plain (map as_type hs)) b)
    types_read [] (t ∷ us) hs kinds a b reads = absurd (no_cons (Plain t) (map Plain us) a)
    types_read (p ∷ ps) [] hs kinds a b reads = absurd (no_cons (u p) (map u ps) (sym a))
    types_read (p ∷ ps) (t ∷ us) [] kinds a b reads = absurd (no_cons (v p) (map v ps) (sym b))
    types_read (p ∷ ps) (t ∷ us) (h ∷ hs) kinds a b reads =
        let c = cons_once a in
        let d = cons_once b in
        let own : Reads τ OfTypes (u p) (v p) = subst (λ k. Reads τ k (u p) (v p)) kinds.0 reads.0 in
        let first = own h d.0 in
        let rest = types_read ps us hs kinds.1 c.1 d.1 reads.1 in
        ap (λ o. all_of (o ∷ map (under τ) us)) (ap (under τ) (plain_once (sym c.0 ∙ first.1)) ∙ first.2) ∙ ap (option_map (λ more. h ∷ more)) rest

    function_reads : (k l : Kind) (a b c d x y : Value) (ps : List ℕ) → k ≡ OfEffects → l ≡ OfTypes → Each (λ k. k ≡ OfTypes) (map kind ps)
        → IsMadeOf head.Fun (a ∷ (c ∷ map u ps)) x → IsMadeOf head.Fun (b ∷ (d ∷ map v ps)) y → Reads τ k a b → Reads τ l c d → Each (λ p. Reads τ (kind p) (u p) (v p)) ps → Reads τ OfTypes x y
    function_reads k l (Plain a) b c d x y ps first second kinds p q ra rc reads g e = absurd p
    function_reads k l (OfRow a) b (OfRow c) d x y ps first second kinds p q ra rc reads g e = absurd p
    function_reads k l (OfRow a) (Plain b) (Plain c) d x y ps first second kinds p q ra rc reads g e = absurd q
    function_reads k l (OfRow a) (OfRow b) (Plain c) (OfRow d) x y ps first second kinds p q ra rc reads g e = absurd q
    function_reads k l (OfRow a) (OfRow b) (Plain c) (Plain d) x y ps first second kinds p q ra rc reads g e =
        let f = function_is g q.1 q.0 d (plain_once (sym e ∙ q.4)) in
        let of_effects : Reads τ OfEffects (OfRow a) (OfRow b) = subst (λ k. Reads τ k (OfRow a) (OfRow b)) first ra in
        let effects = of_effects q.0.labels (ap OfRow (q.2 ∙ ap effect_row f.4)) in
        let same : p.0 ≡ effects.0 = effect_row-once p.0 effects.0 (sym p.2 ∙ row_once effects.1) in
        let of_answer : Reads τ OfTypes (Plain c) (Plain d) = subst (λ k. Reads τ k (Plain c) (Plain d)) second rc in
        let answer = of_answer f.1 (ap Plain f.5) in
        let params = types_read ps p.1 f.0 kinds p.3 (q.3 ∙ ap (map Plain) f.3) reads in (
          ty.Fun p.1 (effects_type p.0) c,
          p.4,
          under_function τ p.1 (effects_type p.0) c
              ∙ (λ i. function_of (params i) ((ap (λ s. effects_under τ (effects_type s)) same ∙ effects.2) i) ((ap (under τ) (plain_once answer.1) ∙ answer.2) i))
              ∙ ap Some (sym f.2),
        )

    -- a constructor whose parts are read is read
    pub made_reads : (h : Head) (ps : List ℕ) (x y : Value) → TakesKinds h (map kind ps) → IsMadeOf h (map u ps) x → IsMadeOf h (map v ps) y
        → Each (λ p. Reads τ (kind p) (u p) (v p)) ps → Reads τ OfTypes x y
    made_reads head.Int [] x y takes a b reads = base_reads ty.Int known.Int of_int (under_int τ) x y a b
    made_reads head.Bool [] x y takes a b reads = base_reads ty.Bool known.Bool of_bool (under_bool τ) x y a b
    made_reads head.Text [] x y takes a b reads = base_reads ty.Text known.Text of_text (under_text τ) x y a b
    made_reads head.List (p ∷ []) x y takes a b reads = list_reads (kind p) (u p) (v p) x y takes a b reads.0
    made_reads head.Fields (p ∷ []) x y takes a b reads = fields_reads (kind p) (u p) (v p) x y takes a b reads.0
    made_reads head.Tags (p ∷ []) x y takes a b reads = tags_reads (kind p) (u p) (v p) x y takes a b reads.0
    made_reads head.Fun (p ∷ q ∷ ps) x y takes a b reads = function_reads (kind p) (kind q) (u p) (v p) (u q) (v q) x y ps takes.0 takes.1 takes.2 a b reads.0 reads.1.0 reads.1.1
    made_reads _ _ x y takes a b reads = absurd takes
