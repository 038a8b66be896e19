-- A row whose labels are effects and whose types are all the unit type is the row of the effects that it has, with its end.
use Rattle.std.proofs.Common.{◌≡◌, true, false, ◌⊎◌, inl, inr, ⊎_elim, List, [], ◌∷◌, map, Some, None, refl, sym, ◌∙◌, ap, subst}
use Rattle.std.specs.Cmp.Lexicographic.{nat_list_cmp_total, bytes_decides}
use Rattle.std.specs.FinMap as fin
use Rattle.std.specs.List.{filter}
use Rattle.std.specs.Ordering.{eq_by_cmp}
use Rattle.std.specs.Prelude.{is_some, cond}
use Rattle.std.specs.Str.{bytes_eq}
use Rattle.std.proofs.lemmas.Bool.{cases_Bool}
use Rattle.lk_types.proofs.LabelMaps.{labels_tie, labels_differ}
use Rattle.lk_types.specs.Each.{OneOf}
use Rattle.lk_types.specs.Rows.{Label, EffectSet, label_order}
use Rattle.lk_types.specs.TypeText.{effect_word}
use Rattle.lk_types.specs.declared.ty.Effect.{Effect}
use Rattle.lk_types.specs.declared.ty.Effect.TheVariants.{Local, Move, Print, Rec, Scan, Trap, Write}
use Rattle.lk_types.specs.declared.ty.RowTail.{RowTail}
use Rattle.lk_types.specs.declared.ty.Ty.{Ty}
use Rattle.lk_arena.proofs.RowAlgebra.{RowFields, one_more, same_rows, label_cases}
use Rattle.lk_arena.specs.Kinds.{IsEffectName}
use Rattle.lk_arena.specs.Openings.{OpenRow, only_tail, unit_type}
use Rattle.lk_unify.specs.Reading.{effects_in}
use Rattle.lk_arena.specs.Values.{effect_row}

tie_cases : (a b : Label) → ((eq_by_cmp label_order a b ≡ true) × (a ≡ b)) ⊎ ((eq_by_cmp label_order a b ≡ false) × (a ≡ b → ⊥))
tie_cases a b =
    ⊎_elim
    (λ (e : (bytes_eq a b ≡ true) × (a ≡ b)). inl (labels_tie a b e.1, e.1))
    (λ (e : bytes_eq a b ≡ false).
    let n : a ≡ b → ⊥ = λ same. (let t : false ≡ true = sym e ∙ (bytes_decides a b).1 same in cc) in
    inr (labels_differ a b n, n))
    (label_cases a b)

hit : (m : RowFields) (k : Label) (t : Ty) (l : Label) → eq_by_cmp label_order l k ≡ true → fin.get (fin.insert m k t) l ≡ Some t
hit m k t l e = fin.get-insert nat_list_cmp_total m k t l ∙ ap (λ b. cond b (Some t) (fin.get m l)) e

miss : (m : RowFields) (k : Label) (t : Ty) (l : Label) → eq_by_cmp label_order l k ≡ false → fin.get (fin.insert m k t) l ≡ fin.get m l
miss m k t l e = fin.get-insert nat_list_cmp_total m k t l ∙ ap (λ b. cond b (Some t) (fin.get m l)) e

-- each field is an effect with the unit type
abbrev pub IsEffectRow : OpenRow → Type 0
IsEffectRow m = (l : Label) → (fin.get m.fields l ≡ None) ⊎ (IsEffectName l × (fin.get m.fields l ≡ Some unit_type))

pub IsEffectRow-empty : (tail : RowTail) → IsEffectRow (only_tail tail)
IsEffectRow-empty tail l = inl (fin.get-empty label_order l)

pub IsEffectRow-insert : (m : OpenRow) (l : Label) → IsEffectName l → IsEffectRow m → IsEffectRow (one_more m l unit_type)
IsEffectRow-insert m l e row q =
    ⊎_elim
    (λ (same : (eq_by_cmp label_order q l ≡ true) × (q ≡ l)). inr (subst IsEffectName (sym same.1) e, hit m.fields l unit_type q same.0))
    (λ (other : (eq_by_cmp label_order q l ≡ false) × (q ≡ l → ⊥)).
    let g = miss m.fields l unit_type q other.0 in
    ⊎_elim (λ n. inl (g ∙ n)) (λ s. inr (s.0, g ∙ s.1)) (row q))
    (tie_cases q l)

-- the effects that it has
abbrev pub set_in : OpenRow → EffectSet
set_in m e = is_some (fin.get m.fields (effect_word e))

abbrev row_of : EffectSet → List Effect → RowFields
row_of s es = fin.from_entries (map (λ e. (effect_word e, unit_type)) (filter s es))

taken : (s : EffectSet) (e : Effect) (es : List Effect) → s e ≡ true → row_of s (e ∷ es) ≡ fin.insert (row_of s es) (effect_word e) unit_type
taken s e es h = ap (λ b. fin.from_entries (map (λ e. (effect_word e, unit_type)) (cond b (e ∷ filter s es) (filter s es)))) h

left : (s : EffectSet) (e : Effect) (es : List Effect) → s e ≡ false → row_of s (e ∷ es) ≡ row_of s es
left s e es h = ap (λ b. fin.from_entries (map (λ e. (effect_word e, unit_type)) (cond b (e ∷ filter s es) (filter s es)))) h

get-none : (s : EffectSet) (es : List Effect) (l : Label) → ((e : Effect) → s e ≡ true → l ≡ effect_word e → ⊥) → fin.get (row_of s es) l ≡ None
get-none s [] l n = fin.get-empty label_order l
get-none s (e ∷ es) l n =
    ⊎_elim
    (λ (h : s e ≡ true).
    ap (λ m. fin.get m l) (taken s e es h) ∙ miss (row_of s es) (effect_word e) unit_type l (labels_differ l (effect_word e) (n e h)) ∙ get-none s es l n)
    (λ (h : s e ≡ false). ap (λ m. fin.get m l) (left s e es h) ∙ get-none s es l n)
    (cases_Bool (s e))

get-some : (s : EffectSet) (es : List Effect) (l : Label) (x : Effect) → OneOf (λ e. e ≡ x) es → s x ≡ true → l ≡ effect_word x → fin.get (row_of s es) l ≡ Some unit_type
get-some s [] l x o h is = absurd o
get-some s (e ∷ es) l x (inl same) h is =
    ap (λ m. fin.get m l) (taken s e es (ap s same ∙ h)) ∙ hit (row_of s es) (effect_word e) unit_type l (labels_tie l (effect_word e) (is ∙ ap effect_word (sym same)))
get-some s (e ∷ es) l x (inr o) h is =
    ⊎_elim
    (λ (t : s e ≡ true).
    ap (λ m. fin.get m l) (taken s e es t) ∙
    ⊎_elim
    (λ (a : (eq_by_cmp label_order l (effect_word e) ≡ true) × (l ≡ effect_word e)). hit (row_of s es) (effect_word e) unit_type l a.0)
    (λ (a : (eq_by_cmp label_order l (effect_word e) ≡ false) × (l ≡ effect_word e → ⊥)).
    miss (row_of s es) (effect_word e) unit_type l a.0 ∙ get-some s es l x o h is)
    (tie_cases l (effect_word e)))
    (λ (f : s e ≡ false). ap (λ m. fin.get m l) (left s e es f) ∙ get-some s es l x o h is)
    (cases_Bool (s e))

all_effects : (x : Effect) → OneOf (λ e. e ≡ x) (Local ∷ Move ∷ Print ∷ Rec ∷ Scan ∷ Trap ∷ Write ∷ [])
all_effects Local = inl refl
all_effects Move = inr (inl refl)
all_effects Print = inr (inr (inl refl))
all_effects Rec = inr (inr (inr (inl refl)))
all_effects Scan = inr (inr (inr (inr (inl refl))))
all_effects Trap = inr (inr (inr (inr (inr (inl refl)))))
all_effects Write = inr (inr (inr (inr (inr (inr (inl refl))))))

-- it is the row of its effects
pub its_effects : (m : OpenRow) → IsEffectRow m → m ≡ effect_row (effects_in m)
its_effects m row =
    same_rows m (effect_row (effects_in m))
    (λ l.
    ⊎_elim
    (λ (n : fin.get m.fields l ≡ None).
    n ∙ sym (get-none (set_in m) (Local ∷ Move ∷ Print ∷ Rec ∷ Scan ∷ Trap ∷ Write ∷ []) l
    (λ e h is. (let f : false ≡ true = sym (ap is_some n) ∙ ap (λ l. is_some (fin.get m.fields l)) is ∙ h in cc))))
    (λ (h : IsEffectName l × (fin.get m.fields l ≡ Some unit_type)).
    h.1 ∙ sym (get-some (set_in m) (Local ∷ Move ∷ Print ∷ Rec ∷ Scan ∷ Trap ∷ Write ∷ []) l h.0.0 (all_effects h.0.0)
    (ap (λ l. is_some (fin.get m.fields l)) (sym h.0.1) ∙ ap is_some h.1) h.0.1))
    (row l))
    refl
