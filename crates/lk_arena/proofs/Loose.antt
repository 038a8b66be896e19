-- Shapes that say nothing, and the row without fields.
use Rattle.std.proofs.Common.{◌≡◌, ◌≢◌, ℕ, true, false, List, [], ◌∷◌, Some, None, map, refl, sym, ◌∙◌, ap}
use Rattle.std.specs.FinMap as fin
use Rattle.lk_types.specs.Rows.{label_order}
use Rattle.lk_types.specs.declared.ty.RowTail.TheVariants.{Closed}
use Rattle.lk_arena.proofs.Chains.{row_value, not_row_value}
use Rattle.lk_arena.proofs.Heads.{made_plain}
use Rattle.lk_arena.proofs.RowAlgebra.{found_same, row_same}
use Rattle.lk_arena.specs.Openings.{OpenRow, only_tail}
use Rattle.lk_arena.specs.Shapes.{plain_of, value_at, IsBuilt, HasFields, NeverBoth, is_row_shape, is_loose_shape, is_fields}
use Rattle.lk_arena.specs.Values.{Value, Plain, OfRow}
use Rattle.lk_arena.specs.declared.node.Field.{Field}
use Rattle.lk_arena.specs.declared.node.Shape.{Shape}
use Rattle.lk_arena.specs.declared.node.Shape.TheVariants.{Free, Open, Empty, Made}
use Rattle.lk_arena.specs.declared.node.Shape.TheVariants as shape

-- whatever the other of its kind may be, it may be
pub loose_built : (s t : Shape) (v : ℕ → Value) (x : Value) → is_loose_shape s ≡ true → is_row_shape s ≡ is_row_shape t → IsBuilt t v x → IsBuilt s v x
loose_built Free t v x l k b = not_row_value t v x (sym k) b
loose_built Open t v x l k b = row_value t v x (sym k) b
loose_built Empty t v x l k b = let f : false ≡ true = l in cc
loose_built (Made h ps) t v x l k b = let f : false ≡ true = l in cc
loose_built (shape.Row fs r) t v x l k b = let f : false ≡ true = l in cc

-- a row with a field isn't empty
pub not_empty : (fs : List Field) (t : ℕ) (v : ℕ → Value) (x : Value) → HasFields (shape.Row fs t) → IsBuilt (shape.Row fs t) v x → x ≡ OfRow (only_tail Closed) → ⊥
not_empty [] t v x h b e = h
not_empty (f ∷ fs) t v x h b e =
    let p = b.plain.0 in
    let m : b.row ≡ only_tail Closed = row_same b.row (only_tail Closed) (sym b.row_is ∙ e) in
    let g : fin.get b.row.fields f.label ≡ None = ap (λ (r : OpenRow). fin.get r.fields f.label) m ∙ fin.get-empty label_order f.label in
    let k : fin.get b.row.fields f.label ≡ Some p.0 = b.at f.label ∙ ap (λ o. value_at v o (fin.get b.tail.fields f.label)) (found_same f fs f.label refl) ∙ ap plain_of p.1 in
    let q : None ≡ Some p.0 = sym g ∙ k in
    cc

-- ---- shapes of which something is known

-- only the row without fields has no field
pub empty_apart : (t : Shape) → t ≢ Empty → is_loose_shape t ≡ false → HasFields t → NeverBoth Empty t
empty_apart Free other known filled w x a b = let e : true ≡ false = known in cc
empty_apart Open other known filled w x a b = let e : true ≡ false = known in cc
empty_apart Empty other known filled w x a b = other refl
empty_apart (Made h ps) other known filled w x a b = let t = made_plain h (map w ps) x b in let e : Plain t.0 ≡ OfRow (only_tail Closed) = sym t.1 ∙ a in cc
empty_apart (shape.Row fs t) other known filled w x a b = not_empty fs t w x filled b a

pub fields_apart : (fs : List Field) (t : ℕ) (s : Shape) → HasFields (shape.Row fs t) → is_fields s ≡ false → is_loose_shape s ≡ false → NeverBoth (shape.Row fs t) s
fields_apart fs t Free filled other known w x a b = let e : true ≡ false = known in cc
fields_apart fs t Open filled other known w x a b = let e : true ≡ false = known in cc
fields_apart fs t Empty filled other known w x a b = not_empty fs t w x filled a b
fields_apart fs t (Made h ps) filled other known w x a b = let t = made_plain h (map w ps) x b in let e : Plain t.0 ≡ OfRow a.row = sym t.1 ∙ a.row_is in cc
fields_apart fs t (shape.Row gs u) filled other known w x a b = let e : true ≡ false = other in cc

pub no_fields_in : (s : Shape) → ((fs : List Field) (t : ℕ) → s ≢ shape.Row fs t) → is_fields s ≡ false
no_fields_in Free other = refl
no_fields_in Open other = refl
no_fields_in Empty other = refl
no_fields_in (Made h ps) other = refl
no_fields_in (shape.Row fs t) other = absurd (other fs t refl)
