-- What a type becomes is as large as the type, where each variable counts what is put for it.
use Rattle.std.proofs.Common.{◌≡◌, ℕ, ◌+◌, Bool, true, false, ◌||◌, List, [], ◌∷◌, length, map, refl, sym, ◌∙◌, ap, ap₂, arith, Option, Some, None, cond}
use Rattle.std.specs.FinMap as fin
use Rattle.std.specs.List.{filter}
use Rattle.std.specs.Option.{option_map}
use Rattle.std.specs.Prelude.{is_some}
use Rattle.lk_types.proofs.Parts.{same_some, all_some}
use Rattle.lk_types.proofs.SameEffect.{for_each_effect}
use Rattle.lk_types.proofs.Unfold.{nodes_int, nodes_bool, nodes_text, nodes_list, nodes_fields, nodes_tags, nodes_function, nodes_variable}
use Rattle.lk_types.specs.Each.{Each}
use Rattle.lk_types.specs.Grounding.{all_of, before_effects}
use Rattle.lk_types.specs.Rows.{Label, EffectSet, same_effect, with_effect, effects_of}
use Rattle.lk_types.specs.Sizes.{nodes, nodes_with, row_nodes_with, effects_nodes, tail_nodes, one}
use Rattle.lk_types.specs.declared.ty.Effect.{Effect}
use Rattle.lk_types.specs.declared.ty.Effect.TheVariants.{Local, Move, Print, Rec, Scan, Trap, Write}
use Rattle.lk_types.specs.declared.ty.Effects.{Effects}
use Rattle.lk_types.specs.declared.ty.RowTail.{RowTail}
use Rattle.lk_types.specs.declared.ty.RowTail.TheVariants.{Closed, Var}
use Rattle.lk_types.specs.declared.ty.Ty.{Ty}
use Rattle.lk_types.specs.declared.ty.Ty.TheVariants as ty
use Rattle.lk_types.specs.declared.ty.TyField.{TyField}
use Rattle.lk_types.specs.declared.ty.TyRow.{TyRow, roll-TyRow}
use Rattle.lk_types.specs.declared.ty.Variable.{Variable}
use Rattle.lk_types.specs.declared.ty.Variable.TheVariants as variable
use Rattle.lk_unify.proofs.OpenCounts.{sum_is, nodes_rolled, count_nodes, row_count_nodes, effects_count_nodes}
use Rattle.lk_unify.proofs.OpenUnfold.{opened_int, opened_bool, opened_text, opened_list, opened_fields, opened_tags, opened_function, opened_variable, opened_rolled, count_int, count_bool, count_text, count_list, count_fields, count_tags, count_function}
use Rattle.lk_unify.proofs.RowCounts.{row_count_insert, row_count_end}
use Rattle.lk_types.proofs.TypeInduction.{Hereditary, every_type}
use Rattle.lk_arena.specs.Counting.{sum_of}
use Rattle.lk_unify.specs.Nodes.{count, row_count, effects_count, end_count}
use Rattle.lk_arena.specs.Openings.{Opening, OpenRow, OpenEffects, row_type, effects_type, opened, row_opened, before_open, with_opened, open_function, tail_opened, effects_tail_opened, effects_opened}

-- how large that is which is put for a variable
abbrev pub opening_size : Opening → Variable → ℕ
opening_size ρ (variable.Plain n) = nodes (ρ.plain n)
opening_size ρ (variable.Row n) = row_nodes_with one (row_type (ρ.rows n))
opening_size ρ (variable.Effects n) = effects_nodes one (effects_type (ρ.effects n))

-- ---- what was there before

none_some : {A C : Type 0} {x : A} → None ≡ Some x → C
none_some e = let f : ⊥ = cc in absurd f

pub mapped : {A B : Type 0} (f : A → B) (o : Option A) (y : B) → option_map f o ≡ Some y → (x : A) × (o ≡ Some x) × (f x ≡ y)
mapped f (Some x) y e = (x, refl, same_some e)
mapped f None y e = none_some e

pub record BothThere (o : Option Ty) (p : Option OpenRow) (l : Label) (n : OpenRow) : Type 0 where
  pub type : Ty
  pub row : OpenRow
  pub type_is : o ≡ Some type
  pub row_is : p ≡ Some row
  pub lacks : fin.get row.fields l ≡ None
  pub is : n ≡ record { fields = fin.insert row.fields l type; tail = row.tail }

lacking : (o : Option Ty) → is_some o ≡ false → o ≡ None
lacking None e = refl
lacking (Some t) e = let f : true ≡ false = e in cc

pub both_there : (l : Label) (o : Option Ty) (p : Option OpenRow) (n : OpenRow) → with_opened l o p ≡ Some n → BothThere o p l n
both_there l None p n e = none_some e
both_there l (Some t) None n e = none_some e
both_there l (Some t) (Some m) n e = by_test (fin.contains_key m.fields l) refl e
  where
    by_test : (b : Bool) → fin.contains_key m.fields l ≡ b → cond b None (Some (record { fields = fin.insert m.fields l t; tail = m.tail })) ≡ Some n → BothThere (Some t) (Some m) l n
    by_test true has e = none_some e
    by_test false has e = record { type = t; row = m; type_is = refl; row_is = refl; lacks = lacking (fin.get m.fields l) has; is = sym (same_some e) }

pub record AllThere (ps : Option (List Ty)) (s : Option OpenEffects) (t : Option Ty) (x : Ty) : Type 0 where
  pub params : List Ty
  pub effects : OpenEffects
  pub answer : Ty
  pub params_are : ps ≡ Some params
  pub effects_are : s ≡ Some effects
  pub answer_is : t ≡ Some answer
  pub is : x ≡ ty.Fun params (effects_type effects) answer

pub all_there : (ps : Option (List Ty)) (s : Option OpenEffects) (t : Option Ty) (x : Ty) → open_function ps s t ≡ Some x → AllThere ps s t x
all_there (Some ps) (Some s) (Some t) x e =
    record { params = ps; effects = s; answer = t; params_are = refl; effects_are = refl; answer_is = refl; is = sym (same_some e) }
all_there (Some ps) (Some s) None x e = none_some e
all_there (Some ps) None t x e = none_some e
all_there None s t x e = none_some e

-- ---- effects

pub record OneMore (e : Effect) (o : Option EffectSet) (s : EffectSet) : Type 0 where
  pub set : EffectSet
  pub set_is : o ≡ Some set
  pub lacks : set e ≡ false
  pub is : s ≡ (λ x. same_effect e x || set x)

pub one_more_effect : (e : Effect) (o : Option EffectSet) (s : EffectSet) → with_effect e o ≡ Some s → OneMore e o s
one_more_effect e None s is = none_some is
one_more_effect e (Some t) s is = by_test (t e) refl is
  where
    by_test : (b : Bool) → t e ≡ b → cond b None (Some (λ x. same_effect e x || t x)) ≡ Some s → OneMore e (Some t) s
    by_test true has is = none_some is
    by_test false has is = record { set = t; set_is = refl; lacks = has; is = sym (same_some is) }

kept_length : (a b : Bool) (e : Effect) (xs ys zs : List Effect) → (a ≡ true → b ≡ false) → length xs ≡ length zs + length ys
    → length (cond (a || b) (e ∷ xs) xs) ≡ length (cond a (e ∷ zs) zs) + length (cond b (e ∷ ys) ys)
kept_length true true e xs ys zs h is = let f : true ≡ false = h refl in cc
kept_length true false e xs ys zs h is = omega arith
kept_length false true e xs ys zs h is = omega arith
kept_length false false e xs ys zs h is = is

filter_length : (p s : EffectSet) → ((x : Effect) → p x ≡ true → s x ≡ false) → (es : List Effect) → length (filter (λ x. p x || s x) es) ≡ length (filter p es) + length (filter s es)
filter_length p s h [] = refl
filter_length p s h (e ∷ es) = kept_length (p e) (s e) e (filter (λ x. p x || s x) es) (filter s es) (filter p es) (h e) (filter_length p s h es)

alone : (e : Effect) → length (effects_of (same_effect e)) ≡ 1
alone Local = refl
alone Move = refl
alone Print = refl
alone Rec = refl
alone Scan = refl
alone Trap = refl
alone Write = refl

wrong : {A : Type 0} → false ≡ true → A
wrong e = let f : ⊥ = cc in absurd f

lacks_same : (s : EffectSet) (e : Effect) → s e ≡ false → (x : Effect) → same_effect e x ≡ true → s x ≡ false
lacks_same s Local there = for_each_effect (λ x. same_effect Local x ≡ true → s x ≡ false) (λ is. there) wrong wrong wrong wrong wrong wrong
lacks_same s Move there = for_each_effect (λ x. same_effect Move x ≡ true → s x ≡ false) wrong (λ is. there) wrong wrong wrong wrong wrong
lacks_same s Print there = for_each_effect (λ x. same_effect Print x ≡ true → s x ≡ false) wrong wrong (λ is. there) wrong wrong wrong wrong
lacks_same s Rec there = for_each_effect (λ x. same_effect Rec x ≡ true → s x ≡ false) wrong wrong wrong (λ is. there) wrong wrong wrong
lacks_same s Scan there = for_each_effect (λ x. same_effect Scan x ≡ true → s x ≡ false) wrong wrong wrong wrong (λ is. there) wrong wrong
lacks_same s Trap there = for_each_effect (λ x. same_effect Trap x ≡ true → s x ≡ false) wrong wrong wrong wrong wrong (λ is. there) wrong
lacks_same s Write there = for_each_effect (λ x. same_effect Write x ≡ true → s x ≡ false) wrong wrong wrong wrong wrong wrong (λ is. there)

-- an effect more
pub effects_more : (e : Effect) (s : EffectSet) → s e ≡ false → length (effects_of (λ x. same_effect e x || s x)) ≡ 1 + length (effects_of s)
effects_more e s h =
    filter_length (same_effect e) s (lacks_same s e h) (Local ∷ Move ∷ Print ∷ Rec ∷ Scan ∷ Trap ∷ Write ∷ []) ∙ ap (λ n. n + length (effects_of s)) (alone e)

pub before_effects_length : (es : List Effect) (t s : EffectSet) → before_effects es t ≡ Some s → length (effects_of s) ≡ length es + length (effects_of t)
before_effects_length [] t s is = let a : length (effects_of s) ≡ length (effects_of t) = ap (λ (s : EffectSet). length (effects_of s)) (sym (same_some is)) in omega arith
before_effects_length (e ∷ es) t s is =
    let more : OneMore e (before_effects es t) s = one_more_effect e (before_effects es t) s is in
    let a = ap (λ (s : EffectSet). length (effects_of s)) more.is in
    let b = effects_more e more.set more.lacks in
    let c = before_effects_length es t more.set more.set_is in
    omega arith

-- ---- types

module _ (ρ : Opening) where
  abbrev Sized : Ty → Type 0
  Sized t = (u : Ty) → opened ρ t ≡ Some u → count 0 u ≡ nodes_with (opening_size ρ) t

  abbrev RowSized : TyRow → Type 0
  RowSized r = (m : OpenRow) → row_opened ρ r ≡ Some m → row_count 0 (row_type m) ≡ row_nodes_with (opening_size ρ) r

  base_sized : (t : Ty) → opened ρ t ≡ Some t → count 0 t ≡ 1 → nodes_with (opening_size ρ) t ≡ 1 → Sized t
  base_sized t is a b u e = ap (count 0) (sym (same_some (sym is ∙ e))) ∙ a ∙ sym b

  list_sized : (t : Ty) → Sized t → Sized (ty.List t)
  list_sized t h u e =
      let m = mapped ty.List (opened ρ t) u (sym (opened_list ρ t) ∙ e) in
      ap (count 0) (sym m.2) ∙ count_list 0 m.0 ∙ ap (λ n. 1 + n) (h m.0 m.1) ∙ sym (nodes_list (opening_size ρ) t)

  record_sized : (r : TyRow) → RowSized r → Sized (ty.Fields r)
  record_sized r h u e =
      let m = mapped (λ m. ty.Fields (row_type m)) (row_opened ρ r) u (sym (opened_fields ρ r) ∙ e) in
      ap (count 0) (sym m.2) ∙ count_fields 0 (row_type m.0) ∙ ap (λ n. 1 + n) (h m.0 m.1) ∙ sym (nodes_fields (opening_size ρ) r)

  variant_sized : (r : TyRow) → RowSized r → Sized (ty.Tags r)
  variant_sized r h u e =
      let m = mapped (λ m. ty.Tags (row_type m)) (row_opened ρ r) u (sym (opened_tags ρ r) ∙ e) in
      ap (count 0) (sym m.2) ∙ count_tags 0 (row_type m.0) ∙ ap (λ n. 1 + n) (h m.0 m.1) ∙ sym (nodes_tags (opening_size ρ) r)

  params_sized : (ps us : List Ty) → all_of (map (opened ρ) ps) ≡ Some us → Each Sized ps → sum_of (map (count 0) us) ≡ sum_of (map (nodes_with (opening_size ρ)) ps)
  params_sized [] us e h = ap (λ us. sum_of (map (count 0) us)) (sym (same_some e))
  params_sized (p ∷ ps) us e h =
      let m = all_some (opened ρ p) (map (opened ρ) ps) us e in
      ap (λ us. sum_of (map (count 0) us)) m.4 ∙ ap₂ (λ a b. a + b) (h.0 m.0 m.2) (params_sized ps m.1 m.3 h.1)

  effects_tail_sized : (tail : RowTail) → effects_count 0 (effects_type (effects_tail_opened ρ tail)) ≡ tail_nodes (opening_size ρ) variable.Effects tail
  effects_tail_sized Closed = refl
  effects_tail_sized (Var n) = effects_count_nodes (effects_type (ρ.effects n))

  effects_sized : (es : Effects) (s : OpenEffects) → effects_opened ρ es ≡ Some s → effects_count 0 (effects_type s) ≡ effects_nodes (opening_size ρ) es
  effects_sized es s e =
      let tail : OpenEffects = effects_tail_opened ρ es.tail in
      let m : (labels : EffectSet) × (before_effects es.labels tail.labels ≡ Some labels) × ((record { labels = labels; tail = tail.tail }) ≡ s) =
      mapped (λ labels. record { labels = labels; tail = tail.tail }) (before_effects es.labels tail.labels) s e in
      let a : effects_count 0 (effects_type s) ≡ length (effects_of m.0) + end_count 0 tail.tail = ap (λ s. effects_count 0 (effects_type s)) (sym m.2) in
      let b = before_effects_length es.labels tail.labels m.0 m.1 in
      let c = effects_tail_sized es.tail in
      omega arith

  function_sized : (ps : List Ty) (es : Effects) (t : Ty) → Each Sized ps → Sized t → Sized (ty.Fun ps es t)
  function_sized ps es t each h u e =
      let all = all_there (all_of (map (opened ρ) ps)) (effects_opened ρ es) (opened ρ t) u (sym (opened_function ρ ps es t) ∙ e) in
      ap (count 0) all.is
      ∙ count_function 0 all.params (effects_type all.effects) all.answer
      ∙ ap₂ (λ a b. 1 + (a + b)) (params_sized ps all.params all.params_are each ∙ sym (sum_is (map (nodes_with (opening_size ρ)) ps)))
      (ap₂ (λ a b. a + b) (effects_sized es all.effects all.effects_are) (h all.answer all.answer_is))
      ∙ sym (nodes_function (opening_size ρ) ps es t)

  variable_sized : (n : ℕ) → Sized (ty.Var n)
  variable_sized n u e = ap (count 0) (sym (same_some (sym (opened_variable ρ n) ∙ e))) ∙ count_nodes (ρ.plain n) ∙ sym (nodes_variable (opening_size ρ) n)

  tail_sized : (tail : RowTail) → row_count 0 (row_type (tail_opened ρ tail)) ≡ tail_nodes (opening_size ρ) variable.Row tail
  tail_sized Closed = row_count_end 0 Closed
  tail_sized (Var n) = row_count_nodes (row_type (ρ.rows n))

  fields_sized : (fs : List TyField) (tail m : OpenRow) → before_open (map (λ f. (f.label, opened ρ f.ty)) fs) tail ≡ Some m → Each (λ f. Sized f.ty) fs
      → row_count 0 (row_type m) ≡ sum_of (map (λ f. 1 + nodes_with (opening_size ρ) f.ty) fs) + row_count 0 (row_type tail)
  fields_sized [] tail m e h =
      let a : row_count 0 (row_type m) ≡ row_count 0 (row_type tail) = ap (λ m. row_count 0 (row_type m)) (sym (same_some e)) in omega arith
  fields_sized (f ∷ fs) tail m e h =
      let both = both_there f.label (opened ρ f.ty) (before_open (map (λ f. (f.label, opened ρ f.ty)) fs) tail) m e in
      let a = ap (λ m. row_count 0 (row_type m)) both.is in
      let b = row_count_insert 0 both.row f.label both.type both.lacks in
      let c = h.0 both.type both.type_is in
      let d = fields_sized fs tail both.row both.row_is h.1 in
      omega arith

  row_sized : (fs : List TyField) (tail : RowTail) → Each (λ f. Sized f.ty) fs → RowSized (roll-TyRow (record { fields = fs; tail = tail }))
  row_sized fs tail each m e =
      fields_sized fs (tail_opened ρ tail) m (sym (opened_rolled ρ fs tail) ∙ e) each
      ∙ ap (λ n. sum_of (map (λ f. 1 + nodes_with (opening_size ρ) f.ty) fs) + n) (tail_sized tail)
      ∙ sym (nodes_rolled (opening_size ρ) fs tail)

  all_sized : Hereditary Sized RowSized
  all_sized = record {
    at_int = base_sized ty.Int (opened_int ρ) (count_int 0) (nodes_int (opening_size ρ));
    at_bool = base_sized ty.Bool (opened_bool ρ) (count_bool 0) (nodes_bool (opening_size ρ));
    at_text = base_sized ty.Text (opened_text ρ) (count_text 0) (nodes_text (opening_size ρ));
    at_list = list_sized;
    at_fields = record_sized;
    at_tags = variant_sized;
    at_function = function_sized;
    at_variable = variable_sized;
    at_row = row_sized;
  }

  pub opened_nodes : (t u : Ty) → opened ρ t ≡ Some u → nodes u ≡ nodes_with (opening_size ρ) t
  opened_nodes t u e = sym (count_nodes u) ∙ every_type Sized RowSized all_sized t u e
