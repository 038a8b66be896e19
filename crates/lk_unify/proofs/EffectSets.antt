-- The row of effects shows which they are, and their end.
use Rattle.std.proofs.Common.{◌≡◌, ℕ, Bool, true, false, inl, inr, List, [], ◌∷◌, map, Some, refl, sym, ◌∙◌, ap, subst}
use Rattle.std.specs.Cmp.Lexicographic.{nat_list_cmp_total}
use Rattle.std.specs.FinMap as fin
use Rattle.std.specs.List.{filter}
use Rattle.std.specs.Ordering.{eq_by_cmp}
use Rattle.std.specs.Prelude.{is_some, cond, ◌==◌}
use Rattle.lk_types.proofs.LabelMaps.{labels_tie, labels_differ}
use Rattle.lk_types.specs.Each.{OneOf}
use Rattle.lk_types.specs.Rows.{Label, EffectSet, label_order, effects_of}
use Rattle.lk_types.specs.TypeText.{effect_word}
use Rattle.lk_types.specs.declared.ty.Effect.{Effect}
use Rattle.lk_types.specs.declared.ty.Effect.TheVariants.{Local, Move, Print, Rec, Scan, Trap, Write}
use Rattle.lk_types.specs.declared.ty.RowTail.{RowTail}
use Rattle.lk_unify.proofs.EffectRows.{IsEffectRow, IsEffectRow-empty, IsEffectRow-insert, set_in}
use Rattle.lk_arena.proofs.RowAlgebra.{RowFields}
use Rattle.lk_arena.specs.Openings.{OpenRow, OpenEffects, unit_type}
use Rattle.lk_arena.specs.Values.{effect_row}

-- ---- effects by the first bytes of their words

first_byte : Label → ℕ
first_byte [] = 0
first_byte (b ∷ bs) = b

by_byte : ℕ → Effect
by_byte b =
    cond (b == 108) Local (cond (b == 109) Move (cond (b == 112) Print (cond (b == 114) Rec (cond (b == 115) Scan (cond (b == 116) Trap Write)))))

by_word : (e : Effect) → by_byte (first_byte (effect_word e)) ≡ e
unfolding by_byte first_byte
by_word Local = refl
by_word Move = refl
by_word Print = refl
by_word Rec = refl
by_word Scan = refl
by_word Trap = refl
by_word Write = refl

pub same_word : (a b : Effect) → effect_word a ≡ effect_word b → a ≡ b
same_word a b e = sym (by_word a) ∙ ap (λ l. by_byte (first_byte l)) e ∙ by_word b

-- ---- the row of some effects

map_of : List Effect → RowFields
map_of es = fin.from_entries (map (λ e. (effect_word e, unit_type)) es)

abbrev row_of : List Effect → RowTail → OpenRow
row_of es tail = record { fields = map_of es; tail = tail }

its_row : (es : List Effect) (tail : RowTail) → IsEffectRow (row_of es tail)
unfolding map_of
its_row [] tail = IsEffectRow-empty tail
its_row (e ∷ es) tail = IsEffectRow-insert (row_of es tail) (effect_word e) (e, refl) (its_row es tail)

pub IsEffectRow-effect_row : (s : OpenEffects) → IsEffectRow (effect_row s)
unfolding map_of
IsEffectRow-effect_row s = its_row (effects_of s.labels) s.tail

-- whether the effect is among them
has_effect : RowFields → Effect → Bool
has_effect m x = is_some (fin.get m (effect_word x))

found_in : (es : List Effect) (x : Effect) → OneOf (λ e. e ≡ x) es → has_effect (map_of es) x ≡ true
unfolding map_of has_effect
found_in [] x o = absurd o
found_in (e ∷ es) x o =
    ap is_some (fin.get-insert nat_list_cmp_total (map_of es) (effect_word e) unit_type (effect_word x)) ∙ by_test (eq_by_cmp label_order (effect_word x) (effect_word e)) refl o (found_in es x)
  where
    by_test : (b : Bool) → eq_by_cmp label_order (effect_word x) (effect_word e) ≡ b → OneOf (λ e. e ≡ x) (e ∷ es) → (OneOf (λ e. e ≡ x) es → has_effect (map_of es) x ≡ true)
        → is_some (cond b (Some unit_type) (fin.get (map_of es) (effect_word x))) ≡ true
    by_test true is o below = refl
    by_test false is (inl same) below = let f : false ≡ true = sym is ∙ labels_tie (effect_word x) (effect_word e) (ap effect_word (sym same)) in cc
    by_test false is (inr rest) below = below rest

missing_in : (es : List Effect) (x : Effect) → (OneOf (λ e. e ≡ x) es → ⊥) → has_effect (map_of es) x ≡ false
unfolding map_of has_effect
missing_in [] x n = ap is_some (fin.get-empty label_order (effect_word x))
missing_in (e ∷ es) x n =
    ap is_some (fin.get-insert nat_list_cmp_total (map_of es) (effect_word e) unit_type (effect_word x)
    ∙ ap (λ b. cond b (Some unit_type) (fin.get (map_of es) (effect_word x))) (labels_differ (effect_word x) (effect_word e) (λ same. n (inl (sym (same_word x e same))))))
    ∙ missing_in es x (λ o. n (inr o))

kept : (s : EffectSet) (x : Effect) (es : List Effect) → s x ≡ true → OneOf (λ e. e ≡ x) es → OneOf (λ e. e ≡ x) (filter s es)
kept s x [] h o = o
kept s x (e ∷ es) h (inl same) = subst (λ b. OneOf (λ e. e ≡ x) (cond b (e ∷ filter s es) (filter s es))) (sym (ap s same ∙ h)) (inl same)
kept s x (e ∷ es) h (inr o) = by_test (s e) (kept s x es h o)
  where
    by_test : (b : Bool) → OneOf (λ e. e ≡ x) (filter s es) → OneOf (λ e. e ≡ x) (cond b (e ∷ filter s es) (filter s es))
    by_test true below = inr below
    by_test false below = below

left_out : (s : EffectSet) (x : Effect) (es : List Effect) → s x ≡ false → OneOf (λ e. e ≡ x) (filter s es) → ⊥
left_out s x [] h o = o
left_out s x (e ∷ es) h o = by_test (s e) refl o (left_out s x es h)
  where
    by_test : (b : Bool) → s e ≡ b → OneOf (λ e. e ≡ x) (cond b (e ∷ filter s es) (filter s es)) → (OneOf (λ e. e ≡ x) (filter s es) → ⊥) → ⊥
    by_test true is (inl same) below = let f : true ≡ false = sym is ∙ ap s same ∙ h in cc
    by_test true is (inr o) below = below o
    by_test false is o below = below o

all_effects : (x : Effect) → OneOf (λ e. e ≡ x) (Local ∷ Move ∷ Print ∷ Rec ∷ Scan ∷ Trap ∷ Write ∷ [])
all_effects Local = inl refl
all_effects Move = inr (inl refl)
all_effects Print = inr (inr (inl refl))
all_effects Rec = inr (inr (inr (inl refl)))
all_effects Scan = inr (inr (inr (inr (inl refl))))
all_effects Trap = inr (inr (inr (inr (inr (inl refl)))))
all_effects Write = inr (inr (inr (inr (inr (inr (inl refl))))))

pub set_in-effect_row : (s : OpenEffects) (e : Effect) → set_in (effect_row s) e ≡ s.labels e
unfolding map_of has_effect
set_in-effect_row s e = by_test (s.labels e) refl
  where
    by_test : (b : Bool) → s.labels e ≡ b → set_in (effect_row s) e ≡ b
    by_test true is = found_in (effects_of s.labels) e (kept s.labels e (Local ∷ Move ∷ Print ∷ Rec ∷ Scan ∷ Trap ∷ Write ∷ []) is (all_effects e))
    by_test false is = missing_in (effects_of s.labels) e (left_out s.labels e (Local ∷ Move ∷ Print ∷ Rec ∷ Scan ∷ Trap ∷ Write ∷ []) is)

same_labels : (s t : OpenEffects) → effect_row s ≡ effect_row t → s.labels ≡ t.labels
same_labels s t e i x = (sym (set_in-effect_row s x) ∙ ap (λ (m : OpenRow). set_in m x) e ∙ set_in-effect_row t x) i

pub same_set : (s t : OpenEffects) → effect_row s ≡ effect_row t → s ≡ t
same_set s t e =
    let labels = same_labels s t e in
    let tails : s.tail ≡ t.tail = ap (λ (m : OpenRow). m.tail) e in
    λ i. record { labels = labels i; tail = tails i }
