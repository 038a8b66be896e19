-- What rows count, by their entries, and by the fields that stand before a tail; effects by their row; constructors by their parts.
use Rattle.std.proofs.Common.{◌≡◌, ℕ, ◌+◌, Bool, true, false, List, [], ◌∷◌, length, map, refl, sym, ◌∙◌, ap, ap₂, subst, arith, Some, None, cond}
use Rattle.std.specs.Cmp.Lexicographic.{nat_list_cmp_total}
use Rattle.std.specs.FinMap as fin
use Rattle.std.specs.List.{filter}
use Rattle.std.specs.Ordering.{eq_by_cmp, is_eq}
use Rattle.std.specs.declared.cmp.Ordering.{Ordering}
use Rattle.std.specs.declared.cmp.Ordering.TheVariants.{Less, Equal, Greater}
use Rattle.lk_types.specs.Each.{Each}
use Rattle.lk_types.specs.Rows.{Label, EffectSet, label_order, effects_of}
use Rattle.lk_types.specs.TypeText.{effect_word}
use Rattle.lk_types.specs.declared.ty.Effect.{Effect}
use Rattle.lk_types.specs.declared.ty.Effect.TheVariants.{Local, Move, Print, Rec, Scan, Trap, Write}
use Rattle.lk_types.specs.declared.ty.RowTail.{RowTail}
use Rattle.lk_types.specs.declared.ty.Ty.{Ty}
use Rattle.lk_types.specs.declared.ty.Ty.TheVariants as ty
use Rattle.lk_unify.proofs.OpenUnfold.{count_int, count_bool, count_text, count_list, count_fields, count_tags, count_function, count_rolled}
use Rattle.lk_arena.proofs.RowAlgebra.{RowFields, row_same, same_rows}
use Rattle.lk_arena.proofs.Sizes.{map_with, row_with, get-row_with, plain_or, no_entries}
use Rattle.lk_arena.specs.Counting.{sum_of}
use Rattle.lk_arena.specs.Kinds.{Kind, OfTypes, OfFields, OfEffects, TakesKinds}
use Rattle.lk_unify.specs.Nodes.{count, row_count, end_count, effects_count, value_count}
use Rattle.lk_arena.specs.Openings.{OpenRow, OpenEffects, only_tail, field_type, row_type, effects_type, unit_type}
use Rattle.lk_arena.specs.Shapes.{value_at, IsPlain, IsRowOf, IsDistinct}
use Rattle.lk_arena.specs.Values.{Value, Plain, OfRow, IsMadeOf, effect_row}
use Rattle.lk_arena.specs.declared.node.Field.{Field}
use Rattle.lk_arena.specs.declared.node.Head.{Head}
use Rattle.lk_arena.specs.declared.node.Head.TheVariants as head

-- ---- an entry more, where `weight` says what a type counts

abbrev pub pick : {A : Type 0} → Ordering → A → A → A → A
pick Less a b c = a
pick Equal a b c = b
pick Greater a b c = c

module _ (weight : Ty → ℕ) where
  abbrev pub weighed : List (Label × Ty) → ℕ
  weighed [] = 0
  weighed (e ∷ es) = (1 + weight e.1) + weighed es

  placed : (l : Label) (t : Ty) (x : Label × Ty) (es : List (Label × Ty)) (o : Ordering) →
      cond (is_eq o) (Some x.1) (fin.find label_order l es) ≡ None → (fin.find label_order l es ≡ None → weighed (fin.put label_order l t es) ≡ (1 + weight t) + weighed es) →
      weighed (pick o ((l, t) ∷ x ∷ es) ((x.0, t) ∷ es) (x ∷ fin.put label_order l t es)) ≡ (1 + weight t) + weighed (x ∷ es)
  placed l t x es Less e ih = refl
  placed l t x es Equal e ih = let f : Some x.1 ≡ None = e in cc
  placed l t x es Greater e ih = let h = ih e in omega arith

  weighed-put : (l : Label) (t : Ty) (es : List (Label × Ty)) → fin.find label_order l es ≡ None → weighed (fin.put label_order l t es) ≡ (1 + weight t) + weighed es
  weighed-put l t [] e = refl
  weighed-put l t (x ∷ es) e = placed l t x es (label_order l x.0) e (weighed-put l t es)

  pub weighed-insert : (m : RowFields) (l : Label) (t : Ty) → fin.get m l ≡ None → weighed (fin.entries (fin.insert m l t)) ≡ (1 + weight t) + weighed (fin.entries m)
  weighed-insert m l t e =
      ap weighed (fin.entries-insert nat_list_cmp_total m l t) ∙ weighed-put l t (fin.entries m) (sym (fin.get-entries m l) ∙ e)

  -- what a value counts that is to be a type
  abbrev pub plain_weight : Value → ℕ
  plain_weight (Plain t) = weight t
  plain_weight (OfRow m) = 0

  plain_weighs : (x : Value) → IsPlain x → weight (plain_or x) ≡ plain_weight x
  plain_weighs (Plain t) p = refl
  plain_weighs (OfRow m) p = let f : OfRow m ≡ Plain p.0 = p.1 in cc

  weighed-map_with : (fs : List Field) (w : ℕ → Value) (m : OpenRow) → Each (λ f. IsPlain (w f.node)) fs → IsDistinct fs → Each (λ f. fin.get m.fields f.label ≡ None) fs →
      weighed (fin.entries (map_with fs w m.fields)) ≡ sum_of (map (λ f. 1 + plain_weight (w f.node)) fs) + weighed (fin.entries m.fields)
  weighed-map_with [] w m p d fresh = omega arith
  weighed-map_with (f ∷ fs) w m p d fresh =
      let free : fin.get (map_with fs w m.fields) f.label ≡ None = get-row_with fs w m p.1 f.label ∙ ap (λ o. value_at w o (fin.get m.fields f.label)) d.0 ∙ fresh.0 in
      let a = weighed-insert (map_with fs w m.fields) f.label (plain_or (w f.node)) free in
      let b = plain_weighs (w f.node) p.0 in
      let ih = weighed-map_with fs w m p.1 d.1 fresh.1 in
      omega arith

-- the two rows themselves
pub its_rows : (fs : List Field) (w : ℕ → Value) (y x : Value) (r : IsRowOf fs w y x) → IsRowOf fs w (OfRow r.tail) (OfRow r.row)
its_rows fs w y x r =
    record { tail = r.tail; row = r.row; tail_is = refl; row_is = refl; plain = r.plain; fresh = r.fresh; at = r.at; same_end = r.same_end }

-- the row is the one with these fields before the tail
pub is_row_with : (fs : List Field) (w : ℕ → Value) (m n : OpenRow) → IsRowOf fs w (OfRow m) (OfRow n) → n ≡ row_with fs w m
is_row_with fs w m n r =
    let tail : r.tail ≡ m = row_same r.tail m (sym r.tail_is) in
    let row : r.row ≡ n = row_same r.row n (sym r.row_is) in
    sym row ∙ same_rows r.row (row_with fs w r.tail) (λ l. r.at l ∙ sym (get-row_with fs w r.tail r.plain l)) r.same_end ∙ ap (row_with fs w) tail

pub weighed_by_fields : (weight : Ty → ℕ) (fs : List Field) (w : ℕ → Value) (m n : OpenRow) → IsDistinct fs → IsRowOf fs w (OfRow m) (OfRow n) →
    weighed weight (fin.entries n.fields) ≡ sum_of (map (λ f. 1 + plain_weight weight (w f.node)) fs) + weighed weight (fin.entries m.fields)
weighed_by_fields weight fs w m n d r =
    let tail : r.tail ≡ m = row_same r.tail m (sym r.tail_is) in
    ap (λ (n : OpenRow). weighed weight (fin.entries n.fields)) (is_row_with fs w m n r)
    ∙ weighed-map_with weight fs w m r.plain d (subst (λ (m : OpenRow). Each (λ f. fin.get m.fields f.label ≡ None) fs) tail r.fresh)

pub same_tail : (fs : List Field) (w : ℕ → Value) (m n : OpenRow) → IsRowOf fs w (OfRow m) (OfRow n) → n.tail ≡ m.tail
same_tail fs w m n r = ap (λ (n : OpenRow). n.tail) (is_row_with fs w m n r)

-- ---- rows of types

module _ (closed : ℕ) where
  each_field : (es : List (Label × Ty)) → sum_of (map (λ f. 1 + count closed f.ty) (map field_type es)) ≡ weighed (count closed) es
  each_field [] = refl
  each_field (e ∷ es) = ap (λ n. (1 + count closed e.1) + n) (each_field es)

  pub row_count_entries : (m : OpenRow) → row_count closed (row_type m) ≡ weighed (count closed) (fin.entries m.fields) + end_count closed m.tail
  row_count_entries m =
      count_rolled closed (map field_type (fin.entries m.fields)) m.tail ∙ ap (λ n. n + end_count closed m.tail) (each_field (fin.entries m.fields))

  pub row_count_insert : (m : OpenRow) (l : Label) (t : Ty) → fin.get m.fields l ≡ None →
      row_count closed (row_type (record { fields = fin.insert m.fields l t; tail = m.tail })) ≡ (1 + count closed t) + row_count closed (row_type m)
  row_count_insert m l t e =
      let a = row_count_entries (record { fields = fin.insert m.fields l t; tail = m.tail }) in
      let b = row_count_entries m in
      let c = weighed-insert (count closed) m.fields l t e in
      omega arith

  -- what a value counts that is to be a type
  abbrev pub plain_count : Value → ℕ
  plain_count = plain_weight (count closed)

  pub row_count_fields : (fs : List Field) (w : ℕ → Value) (m n : OpenRow) → IsDistinct fs → IsRowOf fs w (OfRow m) (OfRow n) →
      row_count closed (row_type n) ≡ sum_of (map (λ f. 1 + plain_count (w f.node)) fs) + row_count closed (row_type m)
  row_count_fields fs w m n d r =
      let a = row_count_entries n in
      let b = row_count_entries m in
      let c = weighed_by_fields (count closed) fs w m n d r in
      let end = ap (end_count closed) (same_tail fs w m n r) in
      omega arith

  pub row_count_end : (tail : RowTail) → row_count closed (row_type (only_tail tail)) ≡ end_count closed tail
  row_count_end tail =
      let a = row_count_entries (only_tail tail) in
      let b : weighed (count closed) (fin.entries (only_tail tail).fields) ≡ 0 = ap (weighed (count closed)) no_entries in
      omega arith

-- ---- rows of effects

abbrev nothing : Ty → ℕ
nothing t = 0

length_weighed : (es : List (Label × Ty)) → length es ≡ weighed nothing es
length_weighed [] = refl
length_weighed (e ∷ es) = let h = length_weighed es in omega arith

length_fields : (fs : List Field) (w : ℕ → Value) → sum_of (map (λ f. 1 + plain_weight nothing (w f.node)) fs) ≡ length fs
length_fields [] w = refl
length_fields (f ∷ fs) w = let h = length_fields fs w in let none = nothing_weighs (w f.node) in omega arith
  where
    nothing_weighs : (x : Value) → plain_weight nothing x ≡ 0
    nothing_weighs (Plain t) = refl
    nothing_weighs (OfRow m) = refl

pub entries_by_fields : (fs : List Field) (w : ℕ → Value) (m n : OpenRow) → IsDistinct fs → IsRowOf fs w (OfRow m) (OfRow n) →
    length (fin.entries n.fields) ≡ length fs + length (fin.entries m.fields)
entries_by_fields fs w m n d r =
    let a = length_weighed (fin.entries n.fields) in
    let b = length_weighed (fin.entries m.fields) in
    let c = weighed_by_fields nothing fs w m n d r in
    let e = length_fields fs w in
    omega arith

-- no two of the effects have one word
abbrev OtherWord : Effect → Effect → Type 0
OtherWord e x = eq_by_cmp label_order (effect_word e) (effect_word x) ≡ false

abbrev OtherWords : List Effect → Type 0
OtherWords [] = Unit {0}
OtherWords (e ∷ es) = Each (OtherWord e) es × OtherWords es

kept_each : {A : Type 0} (P : A → Type 0) (b : Bool) (x : A) (xs : List A) → P x → Each P xs → Each P (cond b (x ∷ xs) xs)
kept_each P true x xs p e = (p, e)
kept_each P false x xs p e = e

filter_each : {A : Type 0} (P : A → Type 0) (s : A → Bool) (xs : List A) → Each P xs → Each P (filter s xs)
filter_each P s [] e = tt
filter_each P s (x ∷ xs) e = kept_each P (s x) x (filter s xs) e.0 (filter_each P s xs e.1)

kept_words : (b : Bool) (e : Effect) (es : List Effect) → Each (OtherWord e) es → OtherWords es → OtherWords (cond b (e ∷ es) es)
kept_words true e es h o = (h, o)
kept_words false e es h o = o

filter_words : (s : EffectSet) (es : List Effect) → OtherWords es → OtherWords (filter s es)
filter_words s [] o = tt
filter_words s (e ∷ es) o = kept_words (s e) e (filter s es) (filter_each (OtherWord e) s es o.0) (filter_words s es o.1)

other_words : OtherWords (Local ∷ Move ∷ Print ∷ Rec ∷ Scan ∷ Trap ∷ Write ∷ [])
other_words =
    let one : Each (OtherWord Write) [] = tt in
    let two : Each (OtherWord Trap) (Write ∷ []) = (refl, tt) in
    let three : Each (OtherWord Scan) (Trap ∷ Write ∷ []) = (refl, (refl, tt)) in
    let four : Each (OtherWord Rec) (Scan ∷ Trap ∷ Write ∷ []) = (refl, (refl, (refl, tt))) in
    let five : Each (OtherWord Print) (Rec ∷ Scan ∷ Trap ∷ Write ∷ []) = (refl, (refl, (refl, (refl, tt)))) in
    let six : Each (OtherWord Move) (Print ∷ Rec ∷ Scan ∷ Trap ∷ Write ∷ []) = (refl, (refl, (refl, (refl, (refl, tt))))) in
    let seven : Each (OtherWord Local) (Move ∷ Print ∷ Rec ∷ Scan ∷ Trap ∷ Write ∷ []) = (refl, (refl, (refl, (refl, (refl, (refl, tt)))))) in
    (seven, (six, (five, (four, (three, (two, (one, tt)))))))

abbrev word_entries : List Effect → List (Label × Ty)
word_entries es = map (λ e. (effect_word e, unit_type)) es

not_found : (e : Effect) (es : List Effect) → Each (OtherWord e) es → fin.find label_order (effect_word e) (word_entries es) ≡ None
not_found e [] h = refl
not_found e (x ∷ es) h = ap (λ b. cond b (Some unit_type) (fin.find label_order (effect_word e) (word_entries es))) h.0 ∙ not_found e es h.1

word_rows : (es : List Effect) → OtherWords es → weighed nothing (fin.entries (fin.from_entries {R = label_order} (word_entries es))) ≡ length es
word_rows [] o = ap (weighed nothing) no_entries
word_rows (e ∷ es) o =
    let m : RowFields = fin.from_entries (word_entries es) in
    let free : fin.get m (effect_word e) ≡ None = fin.get-from_entries nat_list_cmp_total (word_entries es) (effect_word e) ∙ not_found e es o.0 in
    let a : weighed nothing (fin.entries (fin.insert m (effect_word e) unit_type)) ≡ (1 + 0) + weighed nothing (fin.entries m) = weighed-insert nothing m (effect_word e) unit_type free in
    let b : weighed nothing (fin.entries m) ≡ length es = word_rows es o.1 in
    let goal : weighed nothing (fin.entries (fin.insert m (effect_word e) unit_type)) ≡ length (e ∷ es) = omega arith in
    goal

pub effect_row_entries : (s : OpenEffects) → length (fin.entries (effect_row s).fields) ≡ length (effects_of s.labels)
effect_row_entries s =
    length_weighed (fin.entries (effect_row s).fields)
    ∙ word_rows (effects_of s.labels) (filter_words s.labels (Local ∷ Move ∷ Print ∷ Rec ∷ Scan ∷ Trap ∷ Write ∷ []) other_words)

-- ---- constructors

pub nothing_first : (x : Value) (xs : List Value) → [] ≡ x ∷ xs → ⊥
nothing_first x xs e = cc

pub first_same : (x y : Value) (xs ys : List Value) → x ∷ xs ≡ y ∷ ys → x ≡ y
first_same x y xs ys e = cc

pub rest_same : (x y : Value) (xs ys : List Value) → x ∷ xs ≡ y ∷ ys → xs ≡ ys
rest_same x y xs ys e = cc

module _ (closed : ℕ) (kind : ℕ → Kind) (w : ℕ → Value) where
  abbrev pub part_count : ℕ → ℕ
  part_count p = value_count closed (kind p) (w p)

  pub effects_value_count : (s : OpenEffects) → value_count closed OfEffects (OfRow (effect_row s)) ≡ effects_count closed (effects_type s)
  effects_value_count s = ap (λ n. n + end_count closed s.tail) (effect_row_entries s)

  params_count : (ps : List ℕ) (params : List Ty) → map w ps ≡ map Plain params → Each (λ k. k ≡ OfTypes) (map kind ps) → sum_of (map part_count ps) ≡ sum_of (map (count closed) params)
  params_count [] [] e k = refl
  params_count [] (t ∷ ts) e k = absurd (nothing_first (Plain t) (map Plain ts) e)
  params_count (p ∷ ps) [] e k = absurd (nothing_first (w p) (map w ps) (sym e))
  params_count (p ∷ ps) (t ∷ ts) e k =
      ap₂ (λ a b. a + b) (ap₂ (value_count closed) k.0 (first_same (w p) (Plain t) (map w ps) (map Plain ts) e)) (params_count ps ts (rest_same (w p) (Plain t) (map w ps) (map Plain ts) e) k.1)

  list_count : (k : Kind) (v x : Value) → k ≡ OfTypes → IsMadeOf head.List (v ∷ []) x → value_count closed OfTypes x ≡ 1 + (value_count closed k v + 0)
  list_count k (Plain t) x e is =
      let a : value_count closed OfTypes x ≡ count closed (ty.List t) = ap (value_count closed OfTypes) is in
      let b = count_list closed t in
      let c : value_count closed k (Plain t) ≡ count closed t = ap (λ k. value_count closed k (Plain t)) e in
      omega arith
  list_count k (OfRow m) x e is = absurd is

  fields_count : (k : Kind) (v x : Value) → k ≡ OfFields → IsMadeOf head.Fields (v ∷ []) x → value_count closed OfTypes x ≡ 1 + (value_count closed k v + 0)
  fields_count k (Plain t) x e is = absurd is
  fields_count k (OfRow m) x e is =
      let a : value_count closed OfTypes x ≡ count closed (ty.Fields (row_type m)) = ap (value_count closed OfTypes) is in
      let b = count_fields closed (row_type m) in
      let c : value_count closed k (OfRow m) ≡ row_count closed (row_type m) = ap (λ k. value_count closed k (OfRow m)) e in
      omega arith

  tags_count : (k : Kind) (v x : Value) → k ≡ OfFields → IsMadeOf head.Tags (v ∷ []) x → value_count closed OfTypes x ≡ 1 + (value_count closed k v + 0)
  tags_count k (Plain t) x e is = absurd is
  tags_count k (OfRow m) x e is =
      let a : value_count closed OfTypes x ≡ count closed (ty.Tags (row_type m)) = ap (value_count closed OfTypes) is in
      let b = count_tags closed (row_type m) in
      let c : value_count closed k (OfRow m) ≡ row_count closed (row_type m) = ap (λ k. value_count closed k (OfRow m)) e in
      omega arith

  function_count : (j k : Kind) (v u x : Value) (ps : List ℕ) → j ≡ OfEffects → k ≡ OfTypes → Each (λ k. k ≡ OfTypes) (map kind ps) → IsMadeOf head.Fun (v ∷ u ∷ map w ps) x →
      value_count closed OfTypes x ≡ 1 + (value_count closed j v + (value_count closed k u + sum_of (map part_count ps)))
  function_count j k (OfRow m) (Plain answer) x ps ej ek each is =
      let a : value_count closed OfTypes x ≡ count closed (ty.Fun is.1 (effects_type is.0) answer) = ap (value_count closed OfTypes) is.4 in
      let b = count_function closed is.1 (effects_type is.0) answer in
      let c : value_count closed j (OfRow m) ≡ effects_count closed (effects_type is.0) = ap₂ (λ j (m : OpenRow). value_count closed j (OfRow m)) ej is.2 ∙ effects_value_count is.0 in
      let d : value_count closed k (Plain answer) ≡ count closed answer = ap (λ k. value_count closed k (Plain answer)) ek in
      let f = params_count ps is.1 is.3 each in
      omega arith
  function_count j k (Plain t) u x ps ej ek each is = absurd is
  function_count j k (OfRow m) (OfRow n) x ps ej ek each is = absurd is

  -- a type counts one more than its parts
  pub made_count : (h : Head) (ps : List ℕ) (x : Value) → TakesKinds h (map kind ps) → IsMadeOf h (map w ps) x → value_count closed OfTypes x ≡ 1 + sum_of (map part_count ps)
  made_count head.Int [] x k e = ap (value_count closed OfTypes) e ∙ count_int closed
  made_count head.Int (p ∷ ps) x k e = absurd k
  made_count head.Bool [] x k e = ap (value_count closed OfTypes) e ∙ count_bool closed
  made_count head.Bool (p ∷ ps) x k e = absurd k
  made_count head.Text [] x k e = ap (value_count closed OfTypes) e ∙ count_text closed
  made_count head.Text (p ∷ ps) x k e = absurd k
  made_count head.List [] x k e = absurd k
  made_count head.List (p ∷ q ∷ ps) x k e = absurd k
  made_count head.List (p ∷ []) x k e = list_count (kind p) (w p) x k e
  made_count head.Fields [] x k e = absurd k
  made_count head.Fields (p ∷ q ∷ ps) x k e = absurd k
  made_count head.Fields (p ∷ []) x k e = fields_count (kind p) (w p) x k e
  made_count head.Tags [] x k e = absurd k
  made_count head.Tags (p ∷ q ∷ ps) x k e = absurd k
  made_count head.Tags (p ∷ []) x k e = tags_count (kind p) (w p) x k e
  made_count head.Fun [] x k e = absurd k
  made_count head.Fun (p ∷ []) x k e = absurd k
  made_count head.Fun (p ∷ q ∷ ps) x k e = function_count (kind p) (kind q) (w p) (w q) x ps k.0 k.1 k.2 e
