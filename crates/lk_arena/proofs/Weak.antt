-- The fields of a row and of the classes below it, told from the names of the classes alone.
use Rattle.std.proofs.Common.{◌≡◌, ◌≢◌, ℕ, ◌+◌, ◌<◌, true, false, List, [], ◌∷◌, ◌++◌, length, map, refl, sym, ◌∙◌, ap, subst, arith, Option, Some, None, append_assoc, append-nil}
use Rattle.std.specs.Prelude.{IsSome}
use Rattle.lk_types.proofs.Members.{each_both, each_from_map}
use Rattle.lk_types.specs.Each.{Each, OneOf}
use Rattle.lk_arena.proofs.Chains.{IsDistinct-append, IsRowOf-append, IsRowOf-nil, labels_apart, not_row_value, row_value, IsRowOf-front, or_found, found_at-append}
use Rattle.lk_arena.proofs.Sizes.{value_size, fields_size, row_is_larger}
use Rattle.lk_classes.specs.Classes.{class_at}
use Rattle.lk_arena.specs.Openings.{OpenRow}
use Rattle.lk_arena.specs.Shapes.{shape_at, parts_of, found_at, IsRowOf, IsBuilt, IsDistinct, FitsNodes, IsArena, IsFlatOf, IsFlatBut, BuildsBut, Respects, NeverSame, fields_in, is_row_shape, HasFields}
use Rattle.lk_arena.specs.Values.{Value, Plain, OfRow}
use Rattle.lk_arena.specs.declared.node.Field.{Field}
use Rattle.lk_arena.specs.declared.node.Shape.{Shape}
use Rattle.lk_arena.specs.declared.node.Shape.TheVariants as shape

module _ (hole : ℕ) (shapes : List Shape) (classes : List ℕ) (arena : IsArena shapes classes) where
  in_classes : (i : ℕ) → i < length shapes → i < length classes
  in_classes i h = let e : length classes ≡ length shapes = arena.named.count in omega arith

  row_parts : (i : ℕ) (fs : List Field) (t : ℕ) → i < length shapes → shape_at shapes i ≡ shape.Row fs t → Each (λ p. p < length shapes) (t ∷ map (λ f. f.node) fs)
  row_parts i fs t b is = subst (λ s. Each (λ p. p < length shapes) (parts_of s)) is (arena.nodes i b)

  row_distinct : (i : ℕ) (fs : List Field) (t : ℕ) → i < length shapes → shape_at shapes i ≡ shape.Row fs t → IsDistinct fs
  row_distinct i fs t b is = subst (λ s. IsDistinct (fields_in s)) is (arena.distinct i b)

  row_built : (i : ℕ) (fs : List Field) (t : ℕ) → i < length shapes → shape_at shapes i ≡ shape.Row fs t → (v : ℕ → Value) → FitsNodes shapes classes v → IsRowOf fs v (v t) (v i)
  row_built i fs t b is v fits = subst (λ s. IsBuilt s v (v i)) is (fits.builds i b)

  pub but_start : (row : ℕ) (own : List Field) (first : ℕ) → row < length shapes → shape_at shapes row ≡ shape.Row own first → IsFlatBut hole shapes classes row own (class_at classes first)
  but_start row own first b is =
      let parts = row_parts row own first b is in
      record {
        own = own;
        rest = [];
        first = first;
        shape_is = is;
        fields_is = sym (append-nil own);
        distinct = row_distinct row own first b is;
        nodes = each_from_map (λ p. p < length shapes) (λ f. f.node) own parts.1;
        below = arena.named.below first parts.0;
        first_below = parts.0;
        row_below = b;
        named = arena.named.named first parts.0;
        rows = λ v builds respects m e. subst (λ x. IsRowOf [] v (v (class_at classes first)) x) (sym (respects first (in_classes first parts.0))) (IsRowOf-nil v m (v (class_at classes first)) e);
        tail_row = λ v fits.
            let r = row_built row own first b is v fits in
            (r.tail, sym (fits.respects first (in_classes first parts.0)) ∙ r.tail_is);
        lower = λ rank down h. h;
        under = λ rank down h v builds respects m e.
            subst (λ x. IsRowOf [] v (v (class_at classes first)) x) (sym (respects first (in_classes first parts.0))) (IsRowOf-nil v m (v (class_at classes first)) e);
      }

  module _ (row : ℕ) (fields : List Field) (tail : ℕ) (flat : IsFlatBut hole shapes classes row fields tail) where
    -- values that fit everywhere
    strong : (v : ℕ → Value) → FitsNodes shapes classes v → IsRowOf fields v (v tail) (v row)
    strong v fits =
        let m = flat.tail_row v fits in
        let low = flat.rows v (λ i b n ne. fits.builds i b) fits.respects m.0 m.1 in
        subst (λ fs. IsRowOf fs v (v tail) (v row)) (sym flat.fields_is)
        (IsRowOf-append flat.own flat.rest v (v row) (v flat.first) (v tail) (row_built row flat.own flat.first flat.row_below flat.shape_is v fits) low)

    pub but_flat : IsFlatOf shapes classes row fields tail
    but_flat = record { distinct = flat.distinct; nodes = flat.nodes; below = flat.below; rows = strong }

    pub but_hit : tail ≡ hole → NeverSame shapes classes row hole
    but_hit e v fits same =
        let larger = row_is_larger fields v (v tail) (v row) flat.distinct (strong v fits) in
        let here : value_size (v tail) ≡ value_size (v row) = ap value_size (ap v e ∙ sym same) in
        let some : fields_size flat.own v ≡ 0 → ⊥ = no_fields flat.own (subst HasFields flat.shape_is (arena.filled row flat.row_below)) in
        let sum : fields_size fields v ≡ fields_size flat.own v + fields_size flat.rest v = ap (λ fs. fields_size fs v) flat.fields_is ∙ sizes flat.own flat.rest in
        some (omega arith)
      where
        no_fields : (fs : List Field) → HasFields (shape.Row fs flat.first) → fields_size fs v ≡ 0 → ⊥
        no_fields [] h z = h
        no_fields (f ∷ fs) h z = omega arith

        sizes : (xs ys : List Field) → fields_size (xs ++ ys) v ≡ fields_size xs v + fields_size ys v
        sizes [] ys = omega arith
        sizes (x ∷ xs) ys = let ih = sizes xs ys in omega arith

    pub but_kind : is_row_shape (shape_at shapes tail) ≡ false → NeverSame shapes classes row hole
    but_kind k v fits same =
        let m = flat.tail_row v fits in
        let t = not_row_value (shape_at shapes tail) v (v tail) k (fits.builds tail flat.below) in
        (let e : OfRow m.0 ≡ Plain t.0 = sym m.1 ∙ t.1 in cc)

    module _ (more : List Field) (next : ℕ) (is : shape_at shapes tail ≡ shape.Row more next) where
      more_parts : Each (λ p. p < length shapes) (next ∷ map (λ f. f.node) more)
      more_parts = row_parts tail more next flat.below is

      pub next_below : next < length classes
      next_below = in_classes next more_parts.0

      pub but_clash : OneOf (λ f. IsSome (found_at fields f.label)) more → NeverSame shapes classes row hole
      but_clash one v fits same =
          labels_apart fields more v (v row) (v tail) (v next) (strong v fits) (row_built tail more next flat.below is v fits) (row_distinct tail more next flat.below is) one

      pub but_more : tail ≢ hole → Each (λ f. found_at fields f.label ≡ None) more → IsFlatBut hole shapes classes row (fields ++ more) (class_at classes next)
      but_more apart lacks = record {
        own = flat.own;
        rest = flat.rest ++ more;
        first = flat.first;
        shape_is = flat.shape_is;
        fields_is = ap (λ fs. fs ++ more) flat.fields_is ∙ append_assoc flat.own flat.rest more;
        distinct = IsDistinct-append fields more flat.distinct (row_distinct tail more next flat.below is) lacks;
        nodes = each_both (λ f. f.node < length shapes) fields more flat.nodes (each_from_map (λ p. p < length shapes) (λ f. f.node) more more_parts.1);
        below = arena.named.below next more_parts.0;
        first_below = flat.first_below;
        row_below = flat.row_below;
        named = arena.named.named next more_parts.0;
        rows = λ v builds respects m e.
            let low : IsRowOf more v (v next) (v tail) = subst (λ s. IsBuilt s v (v tail)) is (builds tail flat.below flat.named apart) in
            let up = flat.rows v builds respects low.row low.row_is in
            subst (λ y. IsRowOf (flat.rest ++ more) v y (v flat.first)) (respects next next_below)
            (IsRowOf-append flat.rest more v (v flat.first) (v tail) (v next) up low);
        tail_row = λ v fits.
            let r = row_built tail more next flat.below is v fits in
            (r.tail, sym (fits.respects next next_below) ∙ r.tail_is);
        lower = λ rank down h. let a = flat.lower rank down h in let b = down tail next more flat.below flat.named is in omega arith;
        under = λ rank down h v builds respects m e.
            let low : IsRowOf more v (v next) (v tail) = subst (λ s. IsBuilt s v (v tail)) is (builds tail flat.below flat.named (flat.lower rank down h)) in
            let up = flat.under rank down h v builds respects low.row low.row_is in
            subst (λ y. IsRowOf (flat.rest ++ more) v y (v flat.first)) (respects next next_below)
            (IsRowOf-append flat.rest more v (v flat.first) (v tail) (v next) up low);
      }

-- ---- a row told from the names of classes

none_none : (a b : Option ℕ) → or_found a b ≡ None → (a ≡ None) × (b ≡ None)
unfolding or_found
none_none None b e = (refl, e)
none_none (Some n) b e = let f : Some n ≡ None = e in cc

pub distinct_apart : (xs ys : List Field) → IsDistinct (xs ++ ys) → Each (λ f. found_at ys f.label ≡ None) xs
distinct_apart [] ys d = tt
distinct_apart (x ∷ xs) ys d = ((none_none (found_at xs x.label) (found_at ys x.label) (sym (found_at-append xs ys x.label) ∙ d.0)).1, distinct_apart xs ys d.1)

module _ (hole : ℕ) (shapes : List Shape) (classes : List ℕ) (row : ℕ) (fields : List Field) (tail : ℕ) (flat : IsFlatBut hole shapes classes row fields tail)
    (kind : is_row_shape (shape_at shapes tail) ≡ true) (apart : tail ≢ hole) (v : ℕ → Value) (but : BuildsBut hole shapes classes v) (respects : Respects classes v) where
  pub but_tail : (m : OpenRow) × (v tail ≡ OfRow m)
  but_tail = row_value (shape_at shapes tail) v (v tail) kind (but tail flat.below flat.named apart)

  low : IsRowOf flat.rest v (v tail) (v flat.first)
  low = flat.rows v but respects but_tail.0 but_tail.1

  -- from its own shape
  pub but_whole : (x : Value) → IsBuilt (shape_at shapes row) v x → IsRowOf fields v (v tail) x
  but_whole x built =
      subst (λ fs. IsRowOf fs v (v tail) x) (sym flat.fields_is)
      (IsRowOf-append flat.own flat.rest v x (v flat.first) (v tail) (subst (λ s. IsBuilt s v x) flat.shape_is built) low)

  -- and back
  pub but_front : (x : Value) → IsRowOf fields v (v tail) x → IsBuilt (shape_at shapes row) v x
  but_front x whole =
      subst (λ s. IsBuilt s v x) (sym flat.shape_is)
      (IsRowOf-front flat.own flat.rest v x (v flat.first) (v tail) (subst (λ fs. IsRowOf fs v (v tail) x) flat.fields_is whole) low
      (distinct_apart flat.own flat.rest (subst IsDistinct flat.fields_is flat.distinct)))
