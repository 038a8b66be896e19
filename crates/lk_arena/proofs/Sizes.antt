-- Sizes of values: parts are smaller.
use Rattle.std.proofs.Common.{◌≡◌, ℕ, ◌+◌, ◌*◌, ◌<◌, ◌≤◌, List, [], ◌∷◌, ⊎_elim, length, map, refl, sym, ◌∙◌, ap, subst, arith, Some, None, cond, true, false}
use Rattle.std.proofs.lemmas.List.{nil_from_length}
use Rattle.std.specs.Cmp.Lexicographic.{nat_list_cmp_total, bytes_decides}
use Rattle.std.specs.FinMap as fin
use Rattle.std.specs.Ordering.{is_eq}
use Rattle.std.specs.Str.{bytes_eq}
use Rattle.std.specs.declared.cmp.Ordering.{Ordering}
use Rattle.std.specs.declared.cmp.Ordering.TheVariants.{Less, Equal, Greater}
use Rattle.lk_types.proofs.LabelMaps.{labels_tie, labels_differ}
use Rattle.lk_types.proofs.Members.{each_weaker, each_to_map, each_from_map}
use Rattle.lk_types.specs.Each.{Each}
use Rattle.lk_types.specs.Rows.{Label, label_order, effects_of}
use Rattle.lk_types.specs.TypeText.{effect_word}
use Rattle.lk_types.specs.declared.ty.Effect.{Effect}
use Rattle.lk_types.specs.declared.ty.Effects.{Effects}
use Rattle.lk_types.specs.declared.ty.RowTail.{RowTail}
use Rattle.lk_types.specs.declared.ty.RowTail.TheVariants.{Closed}
use Rattle.lk_types.specs.declared.ty.Ty.{Ty, fold-Ty}
use Rattle.lk_types.specs.declared.ty.Ty.TheFolds.{the_lemmas}
use Rattle.lk_types.specs.declared.ty.Ty.TheOpen.{Ty-F, TyField-F, TyRow-F}
use Rattle.lk_types.specs.declared.ty.Ty.TheVariants as ty
use Rattle.lk_types.specs.declared.ty.TyField.{TyField, fold-TyField}
use Rattle.lk_types.specs.declared.ty.TyRow.{TyRow, fold-TyRow, roll-TyRow}
use Rattle.lk_arena.proofs.RowAlgebra.{RowFields, label_cases, found_here, found_below, same_rows}
use Rattle.lk_arena.specs.Counting.{sum_of}
use Rattle.lk_arena.specs.Openings.{OpenRow, effects_type, field_type, row_type, unit_type}
use Rattle.lk_arena.specs.Shapes.{found_at, plain_of, value_at, parts_of, fields_in, IsPlain, IsRowOf, IsBuilt, IsDistinct, HasFields}
use Rattle.lk_arena.specs.Values.{Value, Plain, OfRow, IsMadeOf}
use Rattle.lk_arena.specs.declared.node.Field.{Field}
use Rattle.lk_arena.specs.declared.node.Head.{Head}
use Rattle.lk_arena.specs.declared.node.Head.TheVariants as head
use Rattle.lk_arena.specs.declared.node.Shape.{Shape}
use Rattle.lk_arena.specs.declared.node.Shape.TheVariants.{Free, Open, Empty, Made}
use Rattle.lk_arena.specs.declared.node.Shape.TheVariants as shape

-- an effect counts as a field of the unit type, and the end of a row nothing
abbrev type_step : Ty-F ℕ ℕ ℕ → ℕ
type_step (Ty-F.List t) = 1 + t
type_step (Ty-F.Fields row) = 1 + row
type_step (Ty-F.Tags row) = 1 + row
type_step (Ty-F.Fun ps es r) = 1 + sum_of ps + 2 * length es.labels + r
type_step _ = 1

abbrev row_step : TyRow-F ℕ ℕ ℕ → ℕ
row_step row = sum_of row.fields

abbrev field_step : TyField-F ℕ ℕ ℕ → ℕ
field_step f = 1 + f.ty

pub type_size : Ty → ℕ
type_size = fold-Ty ℕ ℕ ℕ type_step field_step row_step

abbrev pub entries_size : List (Label × Ty) → ℕ
entries_size [] = 0
entries_size (e ∷ es) = (1 + type_size e.1) + entries_size es

pub map_size : RowFields → ℕ
map_size m = entries_size (fin.entries m)

pub row_size : OpenRow → ℕ
row_size m = map_size m.fields

abbrev pub value_size : Value → ℕ
value_size (Plain t) = type_size t
value_size (OfRow m) = row_size m

type_size-List : (t : Ty) → type_size (ty.List t) ≡ 1 + type_size t
unfolding type_size
type_size-List t = search the_lemmas

type_size-Fun : (ps : List Ty) (es : Effects) (r : Ty) → type_size (ty.Fun ps es r) ≡ 1 + sum_of (map type_size ps) + 2 * length es.labels + type_size r
unfolding type_size
type_size-Fun ps es r = search the_lemmas

field_size : TyField → ℕ
field_size = fold-TyField ℕ ℕ ℕ type_step field_step row_step

field_size-is : (f : TyField) → field_size f ≡ 1 + type_size f.ty
unfolding type_size field_size
field_size-is f = search the_lemmas

fields_type_size : TyRow → ℕ
fields_type_size = fold-TyRow ℕ ℕ ℕ type_step field_step row_step

fields_type_size-is : (fields : List TyField) (tail : RowTail) → fields_type_size (roll-TyRow (record { fields = fields; tail = tail })) ≡ sum_of (map field_size fields)
unfolding field_size fields_type_size
fields_type_size-is fields tail = search the_lemmas

type_size-Fields : (r : TyRow) → type_size (ty.Fields r) ≡ 1 + fields_type_size r
unfolding type_size fields_type_size
type_size-Fields r = search the_lemmas

type_size-Tags : (r : TyRow) → type_size (ty.Tags r) ≡ 1 + fields_type_size r
unfolding type_size fields_type_size
type_size-Tags r = search the_lemmas

-- ---- an entry more

abbrev pick : {A : Type 0} → Ordering → A → A → A → A
pick Less a b c = a
pick Equal a b c = b
pick Greater a b c = c

found_none : (l : Label) (x : Label × Ty) (es : List (Label × Ty)) (o : Ordering) → label_order l x.0 ≡ o → fin.find label_order l (x ∷ es) ≡ None →
    cond (is_eq o) (Some x.1) (fin.find label_order l es) ≡ None
found_none l x es o is e = subst (λ o. cond (is_eq o) (Some x.1) (fin.find label_order l es) ≡ None) is e

placed : (l : Label) (t : Ty) (x : Label × Ty) (es : List (Label × Ty)) (o : Ordering) →
    cond (is_eq o) (Some x.1) (fin.find label_order l es) ≡ None → (fin.find label_order l es ≡ None → entries_size (fin.put label_order l t es) ≡ (1 + type_size t) + entries_size es) →
    entries_size (pick o ((l, t) ∷ x ∷ es) ((x.0, t) ∷ es) (x ∷ fin.put label_order l t es)) ≡ (1 + type_size t) + entries_size (x ∷ es)
placed l t x es Less e ih = refl
placed l t x es Equal e ih = let f : Some x.1 ≡ None = e in cc
placed l t x es Greater e ih = let h = ih e in omega arith

pub entries_size-put : (l : Label) (t : Ty) (es : List (Label × Ty)) → fin.find label_order l es ≡ None → entries_size (fin.put label_order l t es) ≡ (1 + type_size t) + entries_size es
entries_size-put l t [] e = refl
entries_size-put l t (x ∷ es) e = placed l t x es (label_order l x.0) (found_none l x es (label_order l x.0) refl e) (entries_size-put l t es)

pub map_size-insert : (m : RowFields) (l : Label) (t : Ty) → fin.get m l ≡ None → map_size (fin.insert m l t) ≡ (1 + type_size t) + map_size m
unfolding map_size
map_size-insert m l t e =
    ap entries_size (fin.entries-insert nat_list_cmp_total m l t) ∙ entries_size-put l t (fin.entries m) (sym (fin.get-entries m l) ∙ e)

-- ---- a row by its fields

abbrev pub plain_or : Value → Ty
plain_or (Plain t) = t
plain_or (OfRow m) = ty.Int

pub plain_or-is : (x : Value) → IsPlain x → plain_of x ≡ Some (plain_or x)
plain_or-is (Plain t) p = refl
plain_or-is (OfRow m) p = let f : OfRow m ≡ Plain p.0 = p.1 in cc

-- the fields before a row
abbrev pub map_with : List Field → (ℕ → Value) → RowFields → RowFields
map_with [] w r = r
map_with (f ∷ fs) w r = fin.insert (map_with fs w r) f.label (plain_or (w f.node))

abbrev pub row_with : List Field → (ℕ → Value) → OpenRow → OpenRow
row_with fs w r = record { fields = map_with fs w r.fields; tail = r.tail }

get-map_with : (fs : List Field) (w : ℕ → Value) (r : RowFields) → Each (λ f. IsPlain (w f.node)) fs → (l : Label) → fin.get (map_with fs w r) l ≡ value_at w (found_at fs l) (fin.get r l)
get-map_with [] w r p l = refl
get-map_with (f ∷ fs) w r p l =
    let g = fin.get-insert nat_list_cmp_total (map_with fs w r) f.label (plain_or (w f.node)) l in
    let ih = get-map_with fs w r p.1 l in
    ⊎_elim
    (λ (e : (bytes_eq l f.label ≡ true) × (l ≡ f.label)).
    g ∙ ap (λ b. cond b (Some (plain_or (w f.node))) (fin.get (map_with fs w r) l)) (labels_tie l f.label e.1) ∙ sym (plain_or-is (w f.node) p.0)
    ∙ sym (ap (λ o. value_at w o (fin.get r l)) (found_here f fs l e.0)))
    (λ (e : bytes_eq l f.label ≡ false).
    g ∙ ap (λ b. cond b (Some (plain_or (w f.node))) (fin.get (map_with fs w r) l)) (labels_differ l f.label (λ same. (let t : false ≡ true = sym e ∙ (bytes_decides l f.label).1 same in cc)))
    ∙ ih ∙ sym (ap (λ o. value_at w o (fin.get r l)) (found_below f fs l e)))
    (label_cases l f.label)

pub get-row_with : (fs : List Field) (w : ℕ → Value) (r : OpenRow) → Each (λ f. IsPlain (w f.node)) fs → (l : Label)
    → fin.get (row_with fs w r).fields l ≡ value_at w (found_at fs l) (fin.get r.fields l)
get-row_with fs w r p l = get-map_with fs w r.fields p l

abbrev pub fields_size : List Field → (ℕ → Value) → ℕ
fields_size [] w = 0
fields_size (f ∷ fs) w = (1 + value_size (w f.node)) + fields_size fs w

plain_size : (x : Value) → IsPlain x → type_size (plain_or x) ≡ value_size x
plain_size (Plain t) p = refl
plain_size (OfRow m) p = let f : OfRow m ≡ Plain p.0 = p.1 in cc

size-map_with :
    (fs : List Field) (w : ℕ → Value) (r : RowFields) → Each (λ f. IsPlain (w f.node)) fs → IsDistinct fs → Each (λ f. fin.get r f.label ≡ None) fs
    → map_size (map_with fs w r) ≡ fields_size fs w + map_size r
size-map_with [] w r p d fresh = omega arith
size-map_with (f ∷ fs) w r p d fresh =
    let free : fin.get (map_with fs w r) f.label ≡ None = get-map_with fs w r p.1 f.label ∙ ap (λ o. value_at w o (fin.get r f.label)) d.0 ∙ fresh.0 in
    let a = map_size-insert (map_with fs w r) f.label (plain_or (w f.node)) free in
    let b = plain_size (w f.node) p.0 in
    let ih = size-map_with fs w r p.1 d.1 fresh.1 in
    omega arith

size-row_with :
    (fs : List Field) (w : ℕ → Value) (r : OpenRow) → Each (λ f. IsPlain (w f.node)) fs → IsDistinct fs → Each (λ f. fin.get r.fields f.label ≡ None) fs
    → row_size (row_with fs w r) ≡ fields_size fs w + row_size r
unfolding row_size
size-row_with fs w r p d fresh = size-map_with fs w r.fields p d fresh

-- a row is as large as its fields and its tail
pub row_is_larger : (fs : List Field) (w : ℕ → Value) (y x : Value) → IsDistinct fs → IsRowOf fs w y x → value_size x ≡ fields_size fs w + value_size y
row_is_larger fs w y x d r =
    let e : r.row ≡ row_with fs w r.tail = same_rows r.row (row_with fs w r.tail) (λ l. r.at l ∙ sym (get-row_with fs w r.tail r.plain l)) r.same_end in
    ap value_size r.row_is ∙ ap row_size e ∙ size-row_with fs w r.tail r.plain d r.fresh ∙ ap (λ n. fields_size fs w + n) (ap value_size (sym r.tail_is))

pub fields_larger : (fs : List Field) (w : ℕ → Value) → Each (λ f. value_size (w f.node) < fields_size fs w) fs
fields_larger [] w = tt
fields_larger (f ∷ fs) w =
    (omega arith, each_weaker (λ g. value_size (w g.node) < fields_size fs w) (λ g. value_size (w g.node) < fields_size (f ∷ fs) w) (λ g h. omega arith) fs (fields_larger fs w))

-- ---- constructors

placed-le : (l : Label) (t : Ty) (x : Label × Ty) (es : List (Label × Ty)) (o : Ordering) →
    entries_size (fin.put label_order l t es) ≤ (1 + type_size t) + entries_size es →
    entries_size (pick o ((l, t) ∷ x ∷ es) ((x.0, t) ∷ es) (x ∷ fin.put label_order l t es)) ≤ (1 + type_size t) + entries_size (x ∷ es)
placed-le l t x es Less ih = omega arith
placed-le l t x es Equal ih = omega arith
placed-le l t x es Greater ih = omega arith

entries_size-put-le : (l : Label) (t : Ty) (es : List (Label × Ty)) → entries_size (fin.put label_order l t es) ≤ (1 + type_size t) + entries_size es
entries_size-put-le l t [] = omega arith
entries_size-put-le l t (x ∷ es) = placed-le l t x es (label_order l x.0) (entries_size-put-le l t es)

abbrev pub empty_map : RowFields
empty_map = fin.empty

pub no_entries : fin.entries empty_map ≡ []
no_entries = nil_from_length (fin.entries empty_map) (sym (fin.len-entries empty_map) ∙ fin.len-empty label_order Ty)

map_size-from_entries : (es : List (Label × Ty)) → map_size (fin.from_entries es) ≤ entries_size es
unfolding map_size
map_size-from_entries [] = rw no_entries (omega arith)
map_size-from_entries (e ∷ es) =
    let m : RowFields = fin.from_entries es in
    let ih : map_size m ≤ entries_size es = map_size-from_entries es in
    let r : map_size m ≡ entries_size (fin.entries m) = refl in
    let q : map_size (fin.insert m e.0 e.1) ≡ entries_size (fin.put label_order e.0 e.1 (fin.entries m)) = ap entries_size (fin.entries-insert nat_list_cmp_total m e.0 e.1) in
    let p : entries_size (fin.put label_order e.0 e.1 (fin.entries m)) ≤ (1 + type_size e.1) + entries_size (fin.entries m) = entries_size-put-le e.0 e.1 (fin.entries m) in
    let goal : map_size (fin.insert m e.0 e.1) ≤ (1 + type_size e.1) + entries_size es = omega arith in
    goal

unit_size : type_size unit_type ≡ 1
unit_size = let a = type_size-Fields (roll-TyRow (record { fields = []; tail = Closed })) in let b = fields_type_size-is [] Closed in omega arith

effects_size : (es : List Effect) → entries_size (map (λ e. (effect_word e, unit_type)) es) ≡ 2 * length es
effects_size [] = omega arith
effects_size (e ∷ es) = let ih = effects_size es in let u = unit_size in omega arith

sizes-field_types : (es : List (Label × Ty)) → sum_of (map field_size (map field_type es)) ≡ entries_size es
sizes-field_types [] = refl
sizes-field_types (e ∷ es) = let ih = sizes-field_types es in let u = field_size-is (field_type e) in omega arith

-- a row as a type is as large as the row
row_type_size : (m : OpenRow) → fields_type_size (row_type m) ≡ row_size m
unfolding row_size map_size
row_type_size m = fields_type_size-is (map field_type (fin.entries m.fields)) m.tail ∙ sizes-field_types (fin.entries m.fields)

Each-plain : (ps : List Ty) (n : ℕ) → sum_of (map type_size ps) < n → Each (λ v. value_size v < n) (map Plain ps)
Each-plain [] n h = tt
Each-plain (p ∷ ps) n h = (omega arith, Each-plain ps n (omega arith))

-- a value is larger than its parts
pub made_larger : (h : Head) (vs : List Value) (x : Value) → IsMadeOf h vs x → Each (λ v. value_size v < value_size x) vs
unfolding row_size
made_larger head.Int [] x e = tt
made_larger head.Bool [] x e = tt
made_larger head.Text [] x e = tt
made_larger head.List (Plain t ∷ []) x e = let s = ap value_size e in let u = type_size-List t in (omega arith, tt)
made_larger head.Fields (OfRow m ∷ []) x e =
    let s = ap value_size e in
    let u = type_size-Fields (row_type m) in
    let w = row_type_size m in (omega arith, tt)
made_larger head.Tags (OfRow m ∷ []) x e =
    let s = ap value_size e in
    let u = type_size-Tags (row_type m) in
    let w = row_type_size m in (omega arith, tt)
made_larger head.Fun (OfRow m ∷ Plain r ∷ vs) x e =
    let s = ap value_size e.4 in
    let u = type_size-Fun e.1 (effects_type e.0) r in
    let a = ap row_size e.2 in
    let b = map_size-from_entries (map (λ e. (effect_word e, unit_type)) (effects_of e.0.labels)) in
    let c = effects_size (effects_of e.0.labels) in
    (omega arith, (omega arith, subst (Each (λ v. value_size v < value_size x)) (sym e.3) (Each-plain e.1 (value_size x) (omega arith))))
made_larger _ _ x e = absurd e

-- ---- parts of a node

pub parts_smaller : (s : Shape) (w : ℕ → Value) (x : Value) → IsDistinct (fields_in s) → HasFields s → IsBuilt s w x → Each (λ p. value_size (w p) < value_size x) (parts_of s)
parts_smaller Free w x d h b = tt
parts_smaller Open w x d h b = tt
parts_smaller Empty w x d h b = tt
parts_smaller (Made g ps) w x d h b = each_from_map (λ v. value_size v < value_size x) w ps (made_larger g (map w ps) x b)
parts_smaller (shape.Row [] t) w x d h b = absurd h
parts_smaller (shape.Row (f ∷ fs) t) w x d h b =
    let e = row_is_larger (f ∷ fs) w (w t) x d b in
    let l = fields_larger (f ∷ fs) w in (
      omega arith,
      each_to_map (λ p. value_size (w p) < value_size x) (λ (f : Field). f.node) (f ∷ fs)
          (each_weaker (λ (g : Field). value_size (w g.node) < fields_size (f ∷ fs) w) (λ g. value_size (w g.node) < value_size x) (λ g k. omega arith) (f ∷ fs) l),
    )
