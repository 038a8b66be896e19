-- What the fields down a chain of rows say of the value of its first node.
use Rattle.std.proofs.Common.{◌≡◌, ℕ, zero, suc, ◌<◌, inl, inr, List, [], ◌∷◌, ◌++◌, length, map, refl, sym, ◌∙◌, ap, subst, arith, Option, Some, None}
use Rattle.std.specs.Prelude.{IsSome}
use Rattle.lk_classes.specs.Classes.{class_at}
use Rattle.lk_types.proofs.Members.{each_both, each_from_map}
use Rattle.lk_types.specs.Each.{Each, OneOf}
use Rattle.lk_arena.proofs.Chains.{labels_apart, IsDistinct-append, IsRowOf-append, IsRowOf-nil}
use Rattle.lk_arena.proofs.EachLemmas.{Each-zip}
use Rattle.lk_arena.specs.Kinds.{Kind, OfTypes, OfFields, HasKind, AreKinded}
use Rattle.lk_arena.specs.Openings.{only_tail}
use Rattle.lk_arena.specs.Shapes.{fields_in, found_at, parts_of, IsDistinct, IsRowOf}
use Rattle.lk_arena.specs.Values.{Value, OfRow}
use Rattle.lk_arena.specs.declared.arena.Arena.{Arena}
use Rattle.lk_arena.specs.declared.node.Field.{Field}
use Rattle.lk_arena.specs.declared.node.Shape.{Shape}
use Rattle.lk_arena.specs.declared.node.Shape.TheVariants.{Free, Open, Empty, Made}
use Rattle.lk_arena.specs.declared.node.Shape.TheVariants as shape
use Rattle.lk_unify.proofs.PlacedRows.{chain_over, chain_row, end_row}
use Rattle.lk_unify.proofs.ReadParts.{open_value, shape_built}
use Rattle.lk_unify.specs.Levels.{chain, chain_end, class_shape, end_at, end_for, tail_in, CanReadNodes}
use Rattle.lk_unify.specs.Models.{IsOwn}
use Rattle.lk_unify.specs.Reading.{name_in, CanRead}

-- labels of which none stands among other fields
none_of : (fs gs : List Field) → (OneOf (λ g. IsSome (found_at fs g.label)) gs → ⊥) → Each (λ g. found_at fs g.label ≡ None) gs
none_of fs [] never = tt
none_of fs (g ∷ gs) never = (by_found (found_at fs g.label) refl, none_of fs gs (λ one. never (inr one)))
  where
    by_found : (o : Option ℕ) → found_at fs g.label ≡ o → o ≡ None
    by_found None is = refl
    by_found (Some n) is = absurd (never (inl (subst IsSome (sym is) (cc))))

module _ (nodes : Arena) (numbers : List ℕ) (fuel : ℕ) (can : CanReadNodes nodes numbers fuel) (kind : ℕ → Kind) (kinded : AreKinded nodes.shapes nodes.classes kind) where
  -- each node can be read
  pub reads : (n : ℕ) (k : Kind) → n < length nodes.shapes → kind n ≡ k → CanRead nodes numbers fuel n k
  reads n k below is = record {
    arena = can.arena;
    count = can.count;
    below = below;
    kind = kind;
    kinded = kinded;
    kind_is = is;
    rank = can.rank;
    ranked = can.ranked;
    room = can.room (class_at nodes.classes n) (can.arena.named.below n below);
  }

  abbrev parts_at : ℕ → List ℕ
  parts_at n = parts_of (class_shape nodes n)

  parts_below : (n : ℕ) → n < length nodes.shapes → Each (λ p. p < length nodes.shapes) (parts_at n)
  parts_below n below = can.arena.nodes (class_at nodes.classes n) (can.arena.named.below n below)

  kind_at : (n : ℕ) (k : Kind) → n < length nodes.shapes → kind n ≡ k → HasKind kind k (class_shape nodes n)
  kind_at n k below is =
      let c = kinded n below in
      subst (λ k. HasKind kind k (class_shape nodes n)) (c.0 ∙ is) (kinded (class_at nodes.classes n) (can.arena.named.below n below)).1

  -- ---- which nodes the fields have

  module _ (P : ℕ → Type 0) (closed : (n : ℕ) → n < length nodes.shapes → P n → Each P (parts_at n)) where
    abbrev pub IsTypeField : Field → Type 0
    IsTypeField f = (f.node < length nodes.shapes) × (kind f.node ≡ OfTypes) × P f.node

    own_fields : (s : Shape) → HasKind kind OfFields s → Each (λ p. p < length nodes.shapes) (parts_of s) → Each P (parts_of s) → Each IsTypeField (fields_in s)
    own_fields (shape.Row fs t) h below each =
        Each-zip (λ f. f.node < length nodes.shapes) (λ f. (kind f.node ≡ OfTypes) × P f.node) IsTypeField (λ f b r. (b, r.0, r.1)) fs
        (each_from_map (λ p. p < length nodes.shapes) (λ f. f.node) fs below.1)
        (Each-zip (λ f. kind f.node ≡ OfTypes) (λ f. P f.node) (λ f. (kind f.node ≡ OfTypes) × P f.node) (λ f k p. (k, p)) fs h.0 (each_from_map P (λ f. f.node) fs each.1))
    own_fields _ h below each = tt

    abbrev IsRowNode : ℕ → Type 0
    IsRowNode n = (n < length nodes.shapes) × (kind n ≡ OfFields) × P n

    next_row : (n : ℕ) (s : Shape) → IsRowNode n → HasKind kind OfFields s → Each (λ p. p < length nodes.shapes) (parts_of s) → Each P (parts_of s) → IsRowNode (tail_in s n)
    next_row n (shape.Row fs t) at h below each = (below.0, h.1, each.0)
    next_row n Free at h below each = at
    next_row n Open at h below each = at
    next_row n Empty at h below each = at
    next_row n (Made g ps) at h below each = at

    -- all of them are of types, and what goes from a class to its parts holds of them
    pub chain_fields : (f n : ℕ) → IsRowNode n → Each IsTypeField (chain nodes f n)
    chain_fields zero n at = tt
    chain_fields (suc f) n at =
        let s = class_shape nodes n in
        let h = kind_at n OfFields at.0 at.1 in
        each_both IsTypeField (fields_in s) (chain nodes f (tail_in s n)) (own_fields s h (parts_below n at.0) (closed n at.0 at.2))
        (chain_fields f (tail_in s n) (next_row n s at h (parts_below n at.0) (closed n at.0 at.2)))

  -- ---- their values

  module _ (u : ℕ → Value) (own : IsOwn nodes.shapes nodes.classes (name_in numbers) u) where
    -- they stand before the end of the chain
    pub record IsRead (f n : ℕ) : Type 0 where
      pub distinct : IsDistinct (chain nodes f n)
      pub row : IsRowOf (chain nodes f n) u (u (chain_end nodes f n)) (u n)
      pub end : u (chain_end nodes f n) ≡ OfRow (only_tail (end_at nodes numbers (chain_end nodes f n)))

    end_value : (n : ℕ) → n < length nodes.shapes → kind n ≡ OfFields → ((fs : List Field) (t : ℕ) → class_shape nodes n ≡ shape.Row fs t → ⊥) → u n ≡ OfRow (only_tail (end_at nodes numbers n))
    end_value n below is never = by_shape (class_shape nodes n) refl
      where
        by_shape : (s : Shape) → class_shape nodes n ≡ s → u n ≡ OfRow (only_tail (end_for (class_shape nodes n) (name_in numbers (class_at nodes.classes n))))
        by_shape Free at = absurd (subst (HasKind kind OfFields) at (kind_at n OfFields below is))
        by_shape (Made h ps) at = absurd (subst (HasKind kind OfFields) at (kind_at n OfFields below is))
        by_shape (shape.Row fs t) at = absurd (never fs t at)
        by_shape Open at =
            open_value nodes numbers fuel n OfFields (reads n OfFields below is) u own at
            ∙ ap (λ s. OfRow (only_tail (end_for s (name_in numbers (class_at nodes.classes n))))) (sym at)
        by_shape Empty at =
            shape_built nodes numbers fuel n OfFields (reads n OfFields below is) u own Empty at
            ∙ ap (λ s. OfRow (only_tail (end_for s (name_in numbers (class_at nodes.classes n))))) (sym at)

    -- at a node that is no row of fields
    read_over : (f n : ℕ) → n < length nodes.shapes → kind n ≡ OfFields → ((fs : List Field) (t : ℕ) → class_shape nodes n ≡ shape.Row fs t → ⊥) → IsRead f n
    read_over f n below is never =
        let none = chain_over nodes f n never in
        let end = end_value n below is never in
        let row : IsRowOf [] u (u n) (u n) = IsRowOf-nil u (only_tail (end_at nodes numbers n)) (u n) end in
        record {
          distinct = subst IsDistinct (sym none.0) tt;
          row = subst (λ fs. IsRowOf fs u (u (chain_end nodes f n)) (u n)) (sym none.0) (subst (λ e. IsRowOf [] u (u e) (u n)) (sym none.1) row);
          end = subst (λ e. u e ≡ OfRow (only_tail (end_at nodes numbers e))) (sym none.1) end;
        }

    -- at fields before a row that is read
    read_more : (f n : ℕ) (fs : List Field) (t : ℕ) → n < length nodes.shapes → kind n ≡ OfFields → class_shape nodes n ≡ shape.Row fs t → IsRead f t → IsRead (suc f) n
    read_more f n fs t below is at rest =
        let more : List Field = chain nodes f t in
        let end : ℕ = chain_end nodes f t in
        let upper : IsRowOf fs u (u t) (u n) = shape_built nodes numbers fuel n OfFields (reads n OfFields below is) u own (shape.Row fs t) at in
        let first : IsDistinct fs = subst (λ s. IsDistinct (fields_in s)) at (can.arena.distinct (class_at nodes.classes n) (can.arena.named.below n below)) in
        let whole : IsRowOf (fs ++ more) u (u end) (u n) = IsRowOf-append fs more u (u n) (u t) (u end) upper rest.row in
        let distinct : IsDistinct (fs ++ more) =
        IsDistinct-append fs more first rest.distinct (none_of fs more (labels_apart fs more u (u n) (u t) (u end) upper rest.row rest.distinct)) in
        record {
          distinct = subst IsDistinct (sym (chain_row nodes f n fs t at)) distinct;
          row =
              subst (λ all. IsRowOf all u (u (chain_end nodes (suc f) n)) (u n)) (sym (chain_row nodes f n fs t at))
              (subst (λ e. IsRowOf (fs ++ more) u (u e) (u n)) (sym (end_row nodes f n fs t at)) whole);
          end = subst (λ e. u e ≡ OfRow (only_tail (end_at nodes numbers e))) (sym (end_row nodes f n fs t at)) rest.end;
        }

    pub chain_read : (f n : ℕ) → n < length nodes.shapes → kind n ≡ OfFields → can.rank (class_at nodes.classes n) < f → IsRead f n
    chain_read zero n below is low = absurd (omega arith)
    chain_read (suc f) n below is low = by_shape (class_shape nodes n) refl (λ t. chain_read f t)
      where
        by_shape : (s : Shape) → class_shape nodes n ≡ s → ((t : ℕ) → t < length nodes.shapes → kind t ≡ OfFields → can.rank (class_at nodes.classes t) < f → IsRead f t) → IsRead (suc f) n
        by_shape Free at rest = read_over (suc f) n below is (λ fs t same. (let wrong : Free ≡ shape.Row fs t = sym at ∙ same in cc))
        by_shape Open at rest = read_over (suc f) n below is (λ fs t same. (let wrong : Open ≡ shape.Row fs t = sym at ∙ same in cc))
        by_shape Empty at rest = read_over (suc f) n below is (λ fs t same. (let wrong : Empty ≡ shape.Row fs t = sym at ∙ same in cc))
        by_shape (Made h ps) at rest = read_over (suc f) n below is (λ fs t same. (let wrong : Made h ps ≡ shape.Row fs t = sym at ∙ same in cc))
        by_shape (shape.Row fs t) at rest =
            let c : ℕ = class_at nodes.classes n in
            let parts : Each (λ p. p < length nodes.shapes) (t ∷ map (λ f. f.node) fs) = subst (λ s. Each (λ p. p < length nodes.shapes) (parts_of s)) at (parts_below n below) in
            let ranks : Each (λ p. can.rank (class_at nodes.classes p) < can.rank c) (t ∷ map (λ f. f.node) fs) =
            subst (λ s. Each (λ p. can.rank (class_at nodes.classes p) < can.rank c) (parts_of s)) at (can.ranked c (can.arena.named.below n below) (can.arena.named.named n below)) in
            let less : can.rank (class_at nodes.classes t) < can.rank c = ranks.0 in
            let kinds : HasKind kind OfFields (shape.Row fs t) = subst (HasKind kind OfFields) at (kind_at n OfFields below is) in
            read_more f n fs t below is at (rest t parts.0 kinds.1 (omega arith))
