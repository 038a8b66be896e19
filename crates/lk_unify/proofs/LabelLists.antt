-- The labels in a type, on each form of type: where the parts are in order, and the labels of the form itself, the whole is.
use Rattle.std.proofs.Common.{◌≡◌, ℕ, Bool, true, ◌&&◌, List, [], ◌∷◌, ◌++◌, map, flat_map, refl, sym, ap, ap₂, subst}
use Rattle.std.proofs.lemmas.List.Kept.{IsStrictlySortedBy-filter}
use Rattle.std.specs.FinMap as fin
use Rattle.std.specs.List.{AllByRecursion}
use Rattle.std.specs.List.Sorted.{IsStrictlySortedBy}
use Rattle.std.specs.Ordering.{is_lt}
use Rattle.std.specs.Prelude.{T}
use Rattle.std.specs.declared.cmp.Ordering.{Ordering}
use Rattle.std.specs.declared.cmp.Ordering.TheVariants.{Less, Equal, Greater}
use Rattle.lk_types.proofs.LabelMaps.{first_holds, second_holds}
use Rattle.lk_types.proofs.Members.{each_both}
use Rattle.lk_types.specs.Each.{Each}
use Rattle.lk_types.specs.Rows.{Label, EffectSet, label_order, effects_of}
use Rattle.lk_types.specs.TypeText.{effect_word}
use Rattle.lk_types.specs.Variables.{joined}
use Rattle.lk_types.specs.declared.ty.Effect.{Effect}
use Rattle.lk_types.specs.declared.ty.Effect.TheVariants.{Local, Move, Print, Rec, Scan, Trap, Write}
use Rattle.lk_types.specs.declared.ty.Effects.{Effects}
use Rattle.lk_types.specs.declared.ty.RowTail.{RowTail}
use Rattle.lk_types.specs.declared.ty.Ty.{Ty}
use Rattle.lk_types.specs.declared.ty.Ty.TheFolds.{the_lemmas}
use Rattle.lk_types.specs.declared.ty.Ty.TheVariants as ty
use Rattle.lk_types.specs.declared.ty.TyField.{TyField}
use Rattle.lk_types.specs.declared.ty.TyRow.{TyRow, roll-TyRow}
use Rattle.lk_arena.specs.Openings.{OpenRow, OpenEffects, field_type, row_type, effects_type}
use Rattle.lk_unify.specs.InOrder.{LabelledField, labels_in, labels_in_row, labels_in_field, AreSorted, IsInOrder}

-- ---- equations

int_labels : labels_in ty.Int ≡ []
unfolding labels_in
int_labels = search the_lemmas

bool_labels : labels_in ty.Bool ≡ []
unfolding labels_in
bool_labels = search the_lemmas

text_labels : labels_in ty.Text ≡ []
unfolding labels_in
text_labels = search the_lemmas

variable_labels : (n : ℕ) → labels_in (ty.Var n) ≡ []
unfolding labels_in
variable_labels n = search the_lemmas

list_labels : (t : Ty) → labels_in (ty.List t) ≡ labels_in t
unfolding labels_in
list_labels t = search the_lemmas

fields_labels : (r : TyRow) → labels_in (ty.Fields r) ≡ labels_in_row r
unfolding labels_in labels_in_row
fields_labels r = search the_lemmas

tags_labels : (r : TyRow) → labels_in (ty.Tags r) ≡ labels_in_row r
unfolding labels_in labels_in_row
tags_labels r = search the_lemmas

function_labels : (params : List Ty) (es : Effects) (answer : Ty)
    → labels_in (ty.Fun params es answer) ≡ joined (map labels_in params) ++ (map effect_word es.labels ∷ labels_in answer)
unfolding labels_in
function_labels params es answer = search the_lemmas

field_labels-is : (f : TyField) → labels_in_field f ≡ record { label = f.label; inside = labels_in f.ty }
unfolding labels_in labels_in_field
field_labels-is f = search the_lemmas

rolled_labels : (fs : List TyField) (tail : RowTail)
    → labels_in_row (roll-TyRow (record { fields = fs; tail = tail })) ≡ map (λ f. f.label) (map labels_in_field fs) ∷ flat_map (λ f. f.inside) (map labels_in_field fs)
unfolding labels_in_row labels_in_field
rolled_labels fs tail = search the_lemmas

-- ---- plain forms

pub in_order_int : IsInOrder ty.Int
in_order_int = subst (Each AreSorted) (sym int_labels) tt

pub in_order_bool : IsInOrder ty.Bool
in_order_bool = subst (Each AreSorted) (sym bool_labels) tt

pub in_order_text : IsInOrder ty.Text
in_order_text = subst (Each AreSorted) (sym text_labels) tt

pub in_order_variable : (n : ℕ) → IsInOrder (ty.Var n)
in_order_variable n = subst (Each AreSorted) (sym (variable_labels n)) tt

pub in_order_list : (t : Ty) → IsInOrder t → IsInOrder (ty.List t)
in_order_list t h = subst (Each AreSorted) (sym (list_labels t)) h

-- ---- rows

abbrev pub IsEntryInOrder : Label × Ty → Type 0
IsEntryInOrder e = IsInOrder e.1

abbrev Entries : Type 0
Entries = List (Label × Ty)

less : (o : Ordering) → T (is_lt o) → o ≡ Less
less Less p = refl
less Equal p = absurd p
less Greater p = absurd p

abbrev is_below : Label → Entries → Bool
is_below l [] = true
is_below l (e ∷ es) = is_lt (label_order l e.0) && is_below l es

labels_above : (l : Label) (es : Entries) → T (is_below l es) → AllByRecursion (λ k. label_order l k ≡ Less) (map (λ e. e.0) es)
labels_above l [] h = tt
labels_above l (e ∷ es) h =
    (less (label_order l e.0) (first_holds (is_lt (label_order l e.0)) (is_below l es) h), labels_above l es (second_holds (is_lt (label_order l e.0)) (is_below l es) h))

labels_sorted : (es : Entries) → T (fin.is_sorted label_order es) → AreSorted (map (λ e. e.0) es)
unfolding IsStrictlySortedBy
labels_sorted [] h = tt
labels_sorted (e ∷ es) h =
    (labels_above e.0 es (first_holds (is_below e.0 es) (fin.is_sorted label_order es) h), labels_sorted es (second_holds (is_below e.0 es) (fin.is_sorted label_order es) h))

own_labels : (es : Entries) → map (λ (f : LabelledField). f.label) (map labels_in_field (map field_type es)) ≡ map (λ e. e.0) es
own_labels [] = refl
own_labels (e ∷ es) = ap₂ (λ l ls. l ∷ ls) (ap (λ (f : LabelledField). f.label) (field_labels-is (field_type e))) (own_labels es)

inside_sorted : (es : Entries) → Each IsEntryInOrder es → Each AreSorted (flat_map (λ (f : LabelledField). f.inside) (map labels_in_field (map field_type es)))
inside_sorted [] h = tt
inside_sorted (e ∷ es) h =
    each_both AreSorted (labels_in_field (field_type e)).inside (flat_map (λ (f : LabelledField). f.inside) (map labels_in_field (map field_type es)))
    (subst (λ (f : LabelledField). Each AreSorted f.inside) (sym (field_labels-is (field_type e))) h.0) (inside_sorted es h.1)

pub in_order_row : (m : OpenRow) → Each IsEntryInOrder (fin.entries m.fields) → Each AreSorted (labels_in_row (row_type m))
in_order_row m h =
    let es = fin.entries m.fields in
    subst (Each AreSorted) (sym (rolled_labels (map field_type es) m.tail))
    (subst AreSorted (sym (own_labels es)) (labels_sorted es (fin.entries_sorted m.fields)), inside_sorted es h)

pub in_order_fields : (m : OpenRow) → Each IsEntryInOrder (fin.entries m.fields) → IsInOrder (ty.Fields (row_type m))
in_order_fields m h = subst (Each AreSorted) (sym (fields_labels (row_type m))) (in_order_row m h)

pub in_order_tags : (m : OpenRow) → Each IsEntryInOrder (fin.entries m.fields) → IsInOrder (ty.Tags (row_type m))
in_order_tags m h = subst (Each AreSorted) (sym (tags_labels (row_type m))) (in_order_row m h)

-- ---- functions

abbrev effect_order : Effect → Effect → Ordering
effect_order a b = label_order (effect_word a) (effect_word b)

abbrev every_effect : List Effect
every_effect = Local ∷ Move ∷ Print ∷ Rec ∷ Scan ∷ Trap ∷ Write ∷ []

every_sorted : IsStrictlySortedBy effect_order every_effect
unfolding IsStrictlySortedBy
every_sorted =
    ((refl, (refl, (refl, (refl, (refl, (refl, tt)))))), ((refl, (refl, (refl, (refl, (refl, tt))))), ((refl, (refl, (refl, (refl, tt)))), ((refl, (refl, (refl, tt))), ((refl, (refl, tt)), ((refl, tt), (tt, tt)))))))

words_above : (a : Effect) (es : List Effect) → AllByRecursion (λ b. effect_order a b ≡ Less) es → AllByRecursion (λ l. label_order (effect_word a) l ≡ Less) (map effect_word es)
words_above a [] h = tt
words_above a (e ∷ es) h = (h.0, words_above a es h.1)

words_sorted : (es : List Effect) → IsStrictlySortedBy effect_order es → AreSorted (map effect_word es)
unfolding IsStrictlySortedBy
words_sorted [] h = tt
words_sorted (e ∷ es) h = (words_above e es h.0, words_sorted es h.1)

pub effects_sorted : (s : EffectSet) → AreSorted (map effect_word (effects_of s))
effects_sorted s = words_sorted (effects_of s) (IsStrictlySortedBy-filter effect_order s every_effect every_sorted)

params_sorted : (ts : List Ty) → Each IsInOrder ts → Each AreSorted (joined (map labels_in ts))
params_sorted [] h = tt
params_sorted (t ∷ ts) h = each_both AreSorted (labels_in t) (joined (map labels_in ts)) h.0 (params_sorted ts h.1)

pub in_order_function : (params : List Ty) (s : OpenEffects) (answer : Ty) → Each IsInOrder params → IsInOrder answer → IsInOrder (ty.Fun params (effects_type s) answer)
in_order_function params s answer ps a =
    subst (Each AreSorted) (sym (function_labels params (effects_type s) answer))
    (each_both AreSorted (joined (map labels_in params)) (map effect_word (effects_of s.labels) ∷ labels_in answer) (params_sorted params ps) (effects_sorted s.labels, a))
