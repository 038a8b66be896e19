-- A type shows its constructor, and the types and rows that it is made of.
use Rattle.std.proofs.Common.{◌≡◌, List, [], ◌∷◌, map, refl, sym, ◌∙◌, ap}
use Rattle.std.specs.FinMap as fin
use Rattle.lk_types.specs.Rows.{Label, label_order}
use Rattle.lk_types.specs.TypeText.{effect_word}
use Rattle.lk_types.specs.declared.ty.Effects.{Effects}
use Rattle.lk_types.specs.declared.ty.Ty.{Ty, out-Ty}
use Rattle.lk_types.specs.declared.ty.Ty.TheOpen.{Ty-F, TyRow-F}
use Rattle.lk_types.specs.declared.ty.Ty.TheVariants as ty
use Rattle.lk_types.specs.declared.ty.TyField.{TyField}
use Rattle.lk_types.specs.declared.ty.TyRow.{TyRow, out-TyRow, out-roll-TyRow}
use Rattle.lk_arena.proofs.RowAlgebra.{RowFields}
use Rattle.lk_arena.specs.Openings.{OpenRow, effects_type, field_type, row_type, unit_type}
use Rattle.lk_arena.specs.Values.{Value, Plain, OfRow, IsMadeOf}
use Rattle.lk_arena.specs.declared.node.Head.{Head}
use Rattle.lk_arena.specs.declared.node.Head.TheVariants as head

fields_from : List TyField → RowFields
fields_from fs = fin.from_sorted (map (λ f. (f.label, f.ty)) fs)

map-back : (es : List (Label × Ty)) → map (λ (f : TyField). (f.label, f.ty)) (map field_type es) ≡ es
map-back [] = refl
map-back (e ∷ es) = ap (λ r. e ∷ r) (map-back es)

fields_from-entries : (m : RowFields) → fields_from (map field_type (fin.entries m)) ≡ m
unfolding fields_from
fields_from-entries m =
    ap fin.from_sorted (map-back (fin.entries m))
    ∙ fin.same_entries_map (fin.from_sorted (fin.entries m)) m (fin.entries-from_sorted label_order (fin.entries m) (fin.entries_sorted m))

abbrev row_at : TyRow-F Ty TyField TyRow → OpenRow
row_at r = record { fields = fields_from r.fields; tail = r.tail }

row_from : TyRow → OpenRow
row_from r = row_at (out-TyRow r)

row_from-row_type : (m : OpenRow) → row_from (row_type m) ≡ m
unfolding row_from
row_from-row_type m =
    ap row_at (out-roll-TyRow (record { fields = map field_type (fin.entries m.fields); tail = m.tail }))
    ∙ ap (λ (fields : RowFields). record { fields = fields; tail = m.tail }) (fields_from-entries m.fields)

effects_row : Effects → OpenRow
effects_row es = record { fields = fin.from_entries (map (λ e. (effect_word e, unit_type)) es.labels); tail = es.tail }

abbrev view_at : Ty-F Ty TyField TyRow → Head × List Value
view_at Ty-F.Bool = (head.Bool, [])
view_at Ty-F.Text = (head.Text, [])
view_at (Ty-F.List t) = (head.List, Plain t ∷ [])
view_at (Ty-F.Fields r) = (head.Fields, OfRow (row_from r) ∷ [])
view_at (Ty-F.Tags r) = (head.Tags, OfRow (row_from r) ∷ [])
view_at (Ty-F.Fun ps es r) = (head.Fun, OfRow (effects_row es) ∷ Plain r ∷ map Plain ps)
view_at _ = (head.Int, [])

view : Ty → Head × List Value
view t = view_at (out-Ty t)

made_view : (h : Head) (vs : List Value) (x : Value) → IsMadeOf h vs x → (t : Ty) × (x ≡ Plain t) × (view t ≡ (h, vs))
unfolding view effects_row
made_view head.Int [] x e = (ty.Int, e, ap view_at ty.outs-Int)
made_view head.Bool [] x e = (ty.Bool, e, ap view_at ty.outs-Bool)
made_view head.Text [] x e = (ty.Text, e, ap view_at ty.outs-Text)
made_view head.List (Plain t ∷ []) x e = (ty.List t, e, ap view_at (ty.outs-List t))
made_view head.Fields (OfRow m ∷ []) x e =
    (ty.Fields (row_type m), e, ap view_at (ty.outs-Fields (row_type m)) ∙ ap (λ r. (head.Fields, OfRow r ∷ [])) (row_from-row_type m))
made_view head.Tags (OfRow m ∷ []) x e =
    (ty.Tags (row_type m), e, ap view_at (ty.outs-Tags (row_type m)) ∙ ap (λ r. (head.Tags, OfRow r ∷ [])) (row_from-row_type m))
made_view head.Fun (OfRow m ∷ Plain r ∷ vs) x e =
    (ty.Fun e.1 (effects_type e.0) r, e.4, ap view_at (ty.outs-Fun e.1 (effects_type e.0) r) ∙ (λ i. (head.Fun, OfRow (sym e.2 i) ∷ Plain r ∷ sym e.3 i)))
made_view _ _ x e = absurd e

pub plain_injective : (s t : Ty) → Plain s ≡ Plain t → s ≡ t
plain_injective s t e = cc

-- a value is made in one way
pub made_once : (h k : Head) (vs ws : List Value) (x : Value) → IsMadeOf h vs x → IsMadeOf k ws x → (h ≡ k) × (vs ≡ ws)
made_once h k vs ws x a b =
    let m = made_view h vs x a in
    let n = made_view k ws x b in
    let same : m.0 ≡ n.0 = plain_injective m.0 n.0 (sym m.1 ∙ n.1) in
    let e = sym m.2 ∙ ap view same ∙ n.2 in
    (ap (λ p. p.0) e, ap (λ p. p.1) e)

-- a made value is no row
pub made_plain : (h : Head) (vs : List Value) (x : Value) → IsMadeOf h vs x → (t : Ty) × (x ≡ Plain t)
made_plain h vs x a = let m = made_view h vs x a in (m.0, m.1)
