-- What holds of each variable of its parts holds of each variable of the whole: of a row by its fields and its tail, of a type by the
-- parts of its constructor, and of the values of nodes where each class of which nothing is known is a variable.
use Rattle.std.proofs.Common.{◌≡◌, ℕ, zero, suc, ◌<◌, List, [], ◌∷◌, ◌++◌, length, map, refl, sym, ◌∙◌, ap, subst, arith}
use Rattle.std.specs.Cmp.Lexicographic.{nat_list_cmp_total}
use Rattle.std.specs.FinMap as fin
use Rattle.std.specs.List.{cons_option}
use Rattle.std.specs.Prelude.{flat_map}
use Rattle.std.specs.declared.cmp.Ordering.{Ordering}
use Rattle.std.specs.declared.cmp.Ordering.TheVariants.{Less, Equal, Greater}
use Rattle.lk_classes.specs.Classes.{class_at}
use Rattle.lk_types.proofs.Members.{each_both, each_front, each_back, each_from_map}
use Rattle.lk_types.proofs.Unfold.{variables_int, variables_bool, variables_text, variables_list, variables_fields, variables_tags, variables_function, variables_variable, variables_field}
use Rattle.lk_types.specs.Each.{Each}
use Rattle.lk_types.specs.Rows.{Label, label_order}
use Rattle.lk_types.specs.Variables.{joined, before_tail, tail_variable, effects_variables, variables_of, variables_of_row, variables_of_field}
use Rattle.lk_types.specs.declared.ty.RowTail.{RowTail}
use Rattle.lk_types.specs.declared.ty.RowTail.TheVariants.{Closed, Var}
use Rattle.lk_types.specs.declared.ty.Ty.{Ty}
use Rattle.lk_types.specs.declared.ty.Ty.TheFolds.{the_lemmas}
use Rattle.lk_types.specs.declared.ty.Ty.TheVariants as ty
use Rattle.lk_types.specs.declared.ty.TyField.{TyField}
use Rattle.lk_types.specs.declared.ty.TyRow.{roll-TyRow}
use Rattle.lk_types.specs.declared.ty.Variable.{Variable}
use Rattle.lk_types.specs.declared.ty.Variable.TheVariants as variable
use Rattle.lk_arena.proofs.EachLemmas.{Each-zip}
use Rattle.lk_arena.proofs.RowAlgebra.{RowFields}
use Rattle.lk_unify.proofs.RowCounts.{its_rows, pick, is_row_with, first_same, rest_same, nothing_first}
use Rattle.lk_arena.proofs.Sizes.{map_with, row_with, plain_or, no_entries}
use Rattle.lk_arena.specs.Kinds.{Kind, OfTypes, OfFields, OfEffects, OfUnit, OfNothing, TakesKinds, HasKind, AreKinded}
use Rattle.lk_unify.specs.Models.{IsOwn}
use Rattle.lk_arena.specs.Openings.{OpenRow, OpenEffects, only_tail, field_type, row_type, effects_type}
use Rattle.lk_arena.specs.Order.{IsRanked}
use Rattle.lk_arena.specs.Shapes.{shape_at, parts_of, IsArena, IsBuilt, IsRowOf}
use Rattle.lk_arena.specs.Values.{Value, Plain, OfRow, IsMadeOf, effect_row}
use Rattle.lk_arena.specs.declared.node.Field.{Field}
use Rattle.lk_arena.specs.declared.node.Head.{Head}
use Rattle.lk_arena.specs.declared.node.Head.TheVariants as head
use Rattle.lk_arena.specs.declared.node.Shape.{Shape}
use Rattle.lk_arena.specs.declared.node.Shape.TheVariants.{Free, Open, Empty, Made}
use Rattle.lk_arena.specs.declared.node.Shape.TheVariants as shape

pub variables_rolled : (fs : List TyField) (tail : RowTail)
    → variables_of_row (roll-TyRow (record { fields = fs; tail = tail })) ≡ before_tail (joined (map variables_of_field fs)) variable.Row tail
unfolding variables_of_row variables_of_field
variables_rolled fs tail = search the_lemmas

module _ (P : Variable → Type 0) where
  abbrev pub OfEntry : Label × Ty → Type 0
  OfEntry e = Each P (variables_of e.1)

  -- it holds of the variable of a tail, if it has one
  abbrev pub AtTail : (ℕ → Variable) → RowTail → Type 0
  AtTail of tail = Each P (cons_option (tail_variable of tail) [])

  -- ---- a row by its entries

  joined_entries : (es : List (Label × Ty)) → Each OfEntry es → Each P (joined (map variables_of_field (map field_type es)))
  joined_entries [] h = tt
  joined_entries (e ∷ es) h =
      each_both P (variables_of_field (field_type e)) (joined (map variables_of_field (map field_type es))) (subst (Each P) (sym (variables_field (field_type e))) h.0) (joined_entries es h.1)

  entries_joined : (es : List (Label × Ty)) → Each P (joined (map variables_of_field (map field_type es))) → Each OfEntry es
  entries_joined [] h = tt
  entries_joined (e ∷ es) h = (
    subst (Each P) (variables_field (field_type e)) (each_front P (variables_of_field (field_type e)) (joined (map variables_of_field (map field_type es))) h),
    entries_joined es (each_back P (variables_of_field (field_type e)) (joined (map variables_of_field (map field_type es))) h),
  )

  abbrev entry_variables : OpenRow → List Variable
  entry_variables m = joined (map variables_of_field (map field_type (fin.entries m.fields)))

  pub row_variables_from : (m : OpenRow) → Each OfEntry (fin.entries m.fields) → AtTail variable.Row m.tail → Each P (variables_of_row (row_type m))
  row_variables_from m h tail =
      subst (Each P) (sym (variables_rolled (map field_type (fin.entries m.fields)) m.tail))
      (each_both P (entry_variables m) (cons_option (tail_variable variable.Row m.tail) []) (joined_entries (fin.entries m.fields) h) tail)

  pub row_entries_have : (m : OpenRow) → Each P (variables_of_row (row_type m)) → Each OfEntry (fin.entries m.fields)
  row_entries_have m h =
      entries_joined (fin.entries m.fields)
      (each_front P (entry_variables m) (cons_option (tail_variable variable.Row m.tail) []) (subst (Each P) (variables_rolled (map field_type (fin.entries m.fields)) m.tail) h))

  pub row_tail_has : (m : OpenRow) → Each P (variables_of_row (row_type m)) → AtTail variable.Row m.tail
  row_tail_has m h =
      each_back P (entry_variables m) (cons_option (tail_variable variable.Row m.tail) []) (subst (Each P) (variables_rolled (map field_type (fin.entries m.fields)) m.tail) h)

  placed : (l : Label) (t : Ty) (x : Label × Ty) (es more : List (Label × Ty)) (o : Ordering) → Each P (variables_of t) → Each OfEntry (x ∷ es) → Each OfEntry more
      → Each OfEntry (pick o ((l, t) ∷ x ∷ es) ((x.0, t) ∷ es) (x ∷ more))
  placed l t x es more Less h e ih = (h, e)
  placed l t x es more Equal h e ih = (h, e.1)
  placed l t x es more Greater h e ih = (e.0, ih)

  put_entries : (l : Label) (t : Ty) (es : List (Label × Ty)) → Each P (variables_of t) → Each OfEntry es → Each OfEntry (fin.put label_order l t es)
  put_entries l t [] h e = (h, tt)
  put_entries l t (x ∷ es) h e = placed l t x es (fin.put label_order l t es) (label_order l x.0) h e (put_entries l t es h e.1)

  insert_entries : (m : RowFields) (l : Label) (t : Ty) → Each P (variables_of t) → Each OfEntry (fin.entries m) → Each OfEntry (fin.entries (fin.insert m l t))
  insert_entries m l t h e = subst (Each OfEntry) (sym (fin.entries-insert nat_list_cmp_total m l t)) (put_entries l t (fin.entries m) h e)

  -- ---- a row by its fields and its tail

  -- of a value that is to be a type
  abbrev pub PlainHas : Value → Type 0
  PlainHas (Plain t) = Each P (variables_of t)
  PlainHas (OfRow m) = Unit {0}

  plain_has : (x : Value) → PlainHas x → Each P (variables_of (plain_or x))
  plain_has (Plain t) h = h
  plain_has (OfRow m) h = subst (Each P) (sym variables_int) tt

  with_entries : (fs : List Field) (w : ℕ → Value) (m : RowFields) → Each (λ f. PlainHas (w f.node)) fs → Each OfEntry (fin.entries m) → Each OfEntry (fin.entries (map_with fs w m))
  with_entries [] w m h e = e
  with_entries (f ∷ fs) w m h e = insert_entries (map_with fs w m) f.label (plain_or (w f.node)) (plain_has (w f.node) h.0) (with_entries fs w m h.1 e)

  pub fields_variables : (fs : List Field) (w : ℕ → Value) (m n : OpenRow) → IsRowOf fs w (OfRow m) (OfRow n) → Each (λ f. PlainHas (w f.node)) fs
      → Each P (variables_of_row (row_type m)) → Each P (variables_of_row (row_type n))
  fields_variables fs w m n r h e =
      subst (λ (n : OpenRow). Each P (variables_of_row (row_type n))) (sym (is_row_with fs w m n r))
      (row_variables_from (row_with fs w m) (with_entries fs w m.fields h (row_entries_have m e)) (row_tail_has m e))

  pub end_variables : (tail : RowTail) → AtTail variable.Row tail → Each P (variables_of_row (row_type (only_tail tail)))
  end_variables tail h = row_variables_from (only_tail tail) (subst (Each OfEntry) (sym no_entries) tt) h

  -- ---- values by their kinds

  abbrev pub ValueHas : Kind → Value → Type 0
  ValueHas OfTypes (Plain t) = Each P (variables_of t)
  ValueHas OfFields (OfRow m) = Each P (variables_of_row (row_type m))
  ValueHas OfEffects (OfRow m) = AtTail variable.Effects m.tail
  ValueHas _ x = Unit {0}

  module _ (kind : ℕ → Kind) (w : ℕ → Value) where
    abbrev pub NodeHas : ℕ → Type 0
    NodeHas p = ValueHas (kind p) (w p)

    list_variables : (k : Kind) (v x : Value) → k ≡ OfTypes → IsMadeOf head.List (v ∷ []) x → ValueHas k v → ValueHas OfTypes x
    list_variables k (Plain t) x e is h = subst (ValueHas OfTypes) (sym is) (subst (Each P) (sym (variables_list t)) (subst (λ k. ValueHas k (Plain t)) e h))
    list_variables k (OfRow m) x e is h = absurd is

    record_variables : (k : Kind) (v x : Value) → k ≡ OfFields → IsMadeOf head.Fields (v ∷ []) x → ValueHas k v → ValueHas OfTypes x
    record_variables k (Plain t) x e is h = absurd is
    record_variables k (OfRow m) x e is h = subst (ValueHas OfTypes) (sym is) (subst (Each P) (sym (variables_fields (row_type m))) (subst (λ k. ValueHas k (OfRow m)) e h))

    variant_variables : (k : Kind) (v x : Value) → k ≡ OfFields → IsMadeOf head.Tags (v ∷ []) x → ValueHas k v → ValueHas OfTypes x
    variant_variables k (Plain t) x e is h = absurd is
    variant_variables k (OfRow m) x e is h = subst (ValueHas OfTypes) (sym is) (subst (Each P) (sym (variables_tags (row_type m))) (subst (λ k. ValueHas k (OfRow m)) e h))

    params_variables : (ps : List ℕ) (params : List Ty) → map w ps ≡ map Plain params → Each (λ k. k ≡ OfTypes) (map kind ps) → Each NodeHas ps → Each P (flat_map variables_of params)
    params_variables ps [] e k h = tt
    params_variables [] (t ∷ ts) e k h = absurd (nothing_first (Plain t) (map Plain ts) e)
    params_variables (p ∷ ps) (t ∷ ts) e k h =
        let first : w p ≡ Plain t = first_same (w p) (Plain t) (map w ps) (map Plain ts) e in
        let here : Each P (variables_of t) = subst (ValueHas OfTypes) first (subst (λ k. ValueHas k (w p)) k.0 h.0) in
        each_both P (variables_of t) (flat_map variables_of ts) here (params_variables ps ts (rest_same (w p) (Plain t) (map w ps) (map Plain ts) e) k.1 h.1)

    function_variables : (j k : Kind) (v u x : Value) (ps : List ℕ) → j ≡ OfEffects → k ≡ OfTypes → Each (λ k. k ≡ OfTypes) (map kind ps) → IsMadeOf head.Fun (v ∷ u ∷ map w ps) x
        → ValueHas j v → ValueHas k u → Each NodeHas ps → ValueHas OfTypes x
    function_variables j k (OfRow m) (Plain answer) x ps ej ek each is hm ha h =
        let s : OpenEffects = is.0 in
        let params : List Ty = is.1 in
        let tail : List Variable = cons_option (tail_variable variable.Effects s.tail) [] in
        let at_tail : Each P tail = subst (ValueHas OfEffects) (ap OfRow is.2) (subst (λ k. ValueHas k (OfRow m)) ej hm) in
        let at_answer : Each P (variables_of answer) = subst (λ k. ValueHas k (Plain answer)) ek ha in
        subst (ValueHas OfTypes) (sym is.4)
        (subst (Each P) (sym (variables_function params (effects_type s) answer))
        (each_both P (flat_map variables_of params ++ tail) (variables_of answer) (each_both P (flat_map variables_of params) tail (params_variables ps params is.3 each h) at_tail) at_answer))
    function_variables j k (Plain t) u x ps ej ek each is hm ha h = absurd is
    function_variables j k (OfRow m) (OfRow n) x ps ej ek each is hm ha h = absurd is

    -- a type by the parts of its constructor
    pub made_variables : (g : Head) (ps : List ℕ) (x : Value) → TakesKinds g (map kind ps) → IsMadeOf g (map w ps) x → Each NodeHas ps → ValueHas OfTypes x
    made_variables head.Int [] x k e h = subst (ValueHas OfTypes) (sym e) (subst (Each P) (sym variables_int) tt)
    made_variables head.Int (p ∷ ps) x k e h = absurd k
    made_variables head.Bool [] x k e h = subst (ValueHas OfTypes) (sym e) (subst (Each P) (sym variables_bool) tt)
    made_variables head.Bool (p ∷ ps) x k e h = absurd k
    made_variables head.Text [] x k e h = subst (ValueHas OfTypes) (sym e) (subst (Each P) (sym variables_text) tt)
    made_variables head.Text (p ∷ ps) x k e h = absurd k
    made_variables head.List [] x k e h = absurd k
    made_variables head.List (p ∷ q ∷ ps) x k e h = absurd k
    made_variables head.List (p ∷ []) x k e h = list_variables (kind p) (w p) x k e h.0
    made_variables head.Fields [] x k e h = absurd k
    made_variables head.Fields (p ∷ q ∷ ps) x k e h = absurd k
    made_variables head.Fields (p ∷ []) x k e h = record_variables (kind p) (w p) x k e h.0
    made_variables head.Tags [] x k e h = absurd k
    made_variables head.Tags (p ∷ q ∷ ps) x k e h = absurd k
    made_variables head.Tags (p ∷ []) x k e h = variant_variables (kind p) (w p) x k e h.0
    made_variables head.Fun [] x k e h = absurd k
    made_variables head.Fun (p ∷ []) x k e h = absurd k
    made_variables head.Fun (p ∷ q ∷ ps) x k e h = function_variables (kind p) (kind q) (w p) (w q) x ps k.0 k.1 k.2 e h.0 h.1.0 h.1.1

    plain_of_kind : (k : Kind) (x : Value) → k ≡ OfTypes → ValueHas k x → PlainHas x
    plain_of_kind k (Plain t) e h = subst (λ k. ValueHas k (Plain t)) e h
    plain_of_kind k (OfRow m) e h = tt

    -- a row of types, and one of effects, by its fields and its tail
    pub row_has : (fs : List Field) (k : Kind) (y x : Value) → k ≡ OfFields → Each (λ f. kind f.node ≡ OfTypes) fs → IsRowOf fs w y x
        → Each (λ f. NodeHas f.node) fs → ValueHas k y → ValueHas OfFields x
    row_has fs k y x e kinds r h hy =
        let row : IsRowOf fs w (OfRow r.tail) (OfRow r.row) = its_rows fs w y x r in
        let below : Each P (variables_of_row (row_type r.tail)) = subst (ValueHas OfFields) r.tail_is (subst (λ k. ValueHas k y) e hy) in
        subst (ValueHas OfFields) (sym r.row_is)
        (fields_variables fs w r.tail r.row row
        (Each-zip (λ (f : Field). kind f.node ≡ OfTypes) (λ f. NodeHas f.node) (λ f. PlainHas (w f.node)) (λ f q a. plain_of_kind (kind f.node) (w f.node) q a) fs kinds h) below)

    pub effects_have : (fs : List Field) (k : Kind) (y x : Value) → k ≡ OfEffects → IsRowOf fs w y x → ValueHas k y → ValueHas OfEffects x
    effects_have fs k y x e r hy =
        let below : AtTail variable.Effects r.tail.tail = subst (ValueHas OfEffects) r.tail_is (subst (λ k. ValueHas k y) e hy) in
        subst (ValueHas OfEffects) (sym r.row_is) (subst (AtTail variable.Effects) (sym r.same_end) below)

    -- of a shape, where a variable with this name stands for what isn't known
    pub shape_has : (k : Kind) (s : Shape) (x : Value) (n : ℕ) → HasKind kind k s → IsBuilt s w x
        → (s ≡ Free → x ≡ Plain (ty.Var n)) → (s ≡ Open → x ≡ OfRow (only_tail (Var n)))
        → (s ≡ Free → P (variable.Plain n)) → (k ≡ OfFields → s ≡ Open → P (variable.Row n)) → (k ≡ OfEffects → s ≡ Open → P (variable.Effects n))
        → Each NodeHas (parts_of s) → ValueHas k x
    shape_has OfTypes Free x n k b free loose types rows effects h =
        subst (ValueHas OfTypes) (sym (free refl)) (subst (Each P) (sym (variables_variable n)) (types refl, tt))
    shape_has OfTypes Open x n k b free loose types rows effects h = absurd k
    shape_has OfTypes Empty x n k b free loose types rows effects h = absurd k
    shape_has OfTypes (Made g ps) x n k b free loose types rows effects h = made_variables g ps x k b h
    shape_has OfTypes (shape.Row fs t) x n k b free loose types rows effects h = absurd k
    shape_has OfFields Free x n k b free loose types rows effects h = absurd k
    shape_has OfFields Open x n k b free loose types rows effects h = subst (ValueHas OfFields) (sym (loose refl)) (end_variables (Var n) (rows refl refl, tt))
    shape_has OfFields Empty x n k b free loose types rows effects h = subst (ValueHas OfFields) (sym b) (end_variables Closed tt)
    shape_has OfFields (Made g ps) x n k b free loose types rows effects h = absurd k
    shape_has OfFields (shape.Row fs t) x n k b free loose types rows effects h =
        row_has fs (kind t) (w t) x k.1 k.0 b (each_from_map NodeHas (λ (f : Field). f.node) fs h.1) h.0
    shape_has OfEffects Free x n k b free loose types rows effects h = absurd k
    shape_has OfEffects Open x n k b free loose types rows effects h = subst (ValueHas OfEffects) (sym (loose refl)) (effects refl refl, tt)
    shape_has OfEffects Empty x n k b free loose types rows effects h = subst (ValueHas OfEffects) (sym b) tt
    shape_has OfEffects (Made g ps) x n k b free loose types rows effects h = absurd k
    shape_has OfEffects (shape.Row fs t) x n k b free loose types rows effects h = effects_have fs (kind t) (w t) x k.1 b h.0
    shape_has OfUnit s x n k b free loose types rows effects h = tt
    shape_has OfNothing s x n k b free loose types rows effects h = tt

-- ---- over all nodes

-- it is given of the name of each class of which nothing is known
pub record IsGivenOfNames (P : Variable → Type 0) (shapes : List Shape) (classes : List ℕ) (kind : ℕ → Kind) (name : ℕ → ℕ) : Type 0 where
  pub types : (i : ℕ) → i < length shapes → class_at classes i ≡ i → shape_at shapes i ≡ Free → P (variable.Plain (name i))
  pub rows : (i : ℕ) → i < length shapes → class_at classes i ≡ i → kind i ≡ OfFields → shape_at shapes i ≡ Open → P (variable.Row (name i))
  pub effects : (i : ℕ) → i < length shapes → class_at classes i ≡ i → kind i ≡ OfEffects → shape_at shapes i ≡ Open → P (variable.Effects (name i))

module _ (P : Variable → Type 0) (shapes : List Shape) (classes : List ℕ) (kind : ℕ → Kind) (rank name : ℕ → ℕ) (u : ℕ → Value)
    (arena : IsArena shapes classes) (kinded : AreKinded shapes classes kind)
    (ranked : IsRanked shapes classes rank) (own : IsOwn shapes classes name u) (given : IsGivenOfNames P shapes classes kind name) where
  has_below : (n i : ℕ) → i < length shapes → rank (class_at classes i) < n → ValueHas P (kind i) (u i)
  has_below zero i b h = absurd (omega arith)
  has_below (suc n) i b h =
      let c = class_at classes i in
      let below = arena.named.below i b in
      let named = arena.named.named i b in
      subst (ValueHas P (kind i)) (sym (own.fits.respects i (subst (λ n. i < n) (sym arena.named.count) b)))
      (shape_has P kind u (kind i) (shape_at shapes c) (u c) (name c)
      (subst (λ k. HasKind kind k (shape_at shapes c)) (kinded i b).0 (kinded c below).1) (own.fits.builds c below named) (own.types c below named) (own.rows c below named)
      (given.types c below named) (λ k. given.rows c below named ((kinded i b).0 ∙ k)) (λ k. given.effects c below named ((kinded i b).0 ∙ k))
      (Each-zip (λ p. rank (class_at classes p) < rank c) (λ p. p < length shapes) (λ p. ValueHas P (kind p) (u p)) (λ p r l. has_below n p l (omega arith))
      (parts_of (shape_at shapes c)) (ranked c below named) (arena.nodes c below)))

  pub own_variables : (i : ℕ) → i < length shapes → ValueHas P (kind i) (u i)
  own_variables i b = has_below (suc (rank (class_at classes i))) i b (omega arith)

  has_as : (i : ℕ) → i < length shapes → (k : Kind) (x : Value) → kind i ≡ k → u i ≡ x → ValueHas P k x
  has_as i b k x is e = subst (ValueHas P k) e (subst (λ k. ValueHas P k (u i)) is (own_variables i b))

  pub own_type_variables : (i : ℕ) → i < length shapes → kind i ≡ OfTypes → (t : Ty) → u i ≡ Plain t → Each P (variables_of t)
  own_type_variables i b k t e = has_as i b OfTypes (Plain t) k e

  pub own_row_variables : (i : ℕ) → i < length shapes → kind i ≡ OfFields → (m : OpenRow) → u i ≡ OfRow m → Each P (variables_of_row (row_type m))
  own_row_variables i b k m e = has_as i b OfFields (OfRow m) k e

  pub own_effects_variables : (i : ℕ) → i < length shapes → kind i ≡ OfEffects → (s : OpenEffects) → u i ≡ OfRow (effect_row s) → Each P (effects_variables (effects_type s))
  own_effects_variables i b k s e = has_as i b OfEffects (OfRow (effect_row s)) k e
