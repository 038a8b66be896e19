-- Rows of places, field by field and row by row down their chains.
use Rattle.std.proofs.Common.{◌≡◌, ℕ, zero, suc, ◌<◌, List, [], ◌∷◌, ◌++◌, length, map, refl, sym, ◌∙◌, ap, subst}
use Rattle.std.specs.FinMap as fin
use Rattle.lk_arena.specs.Shapes.{fields_in, parts_of, IsArena}
use Rattle.lk_arena.specs.declared.arena.Arena.{Arena}
use Rattle.lk_arena.specs.declared.node.Field.{Field}
use Rattle.lk_arena.specs.declared.node.Shape.{Shape}
use Rattle.lk_arena.specs.declared.node.Shape.TheVariants.{Free, Open, Empty, Made}
use Rattle.lk_arena.specs.declared.node.Shape.TheVariants as shape
use Rattle.lk_classes.specs.Classes.{class_at}
use Rattle.lk_types.proofs.Members.{each_from_map}
use Rattle.lk_types.specs.Each.{Each}
use Rattle.lk_unify.specs.Levels.{chain, chain_end, class_shape, end_at, no_places, place_of, placed_row, row_level, tail_in, with_places, Places}

-- ---- fields one after another

pub places_both : (nodes : Arena) (places : List ℕ) (xs ys : List Field) (row : Places) → with_places nodes places (xs ++ ys) row ≡ with_places nodes places ys (with_places nodes places xs row)
places_both nodes places [] ys row = refl
places_both nodes places (x ∷ xs) ys row = places_both nodes places xs ys (fin.insert row x.label (place_of nodes places x.node))

-- ---- rows one behind another

-- a node that is no row of fields has none of them, and none behind it
no_fields : (s : Shape) (n : ℕ) → ((fs : List Field) (t : ℕ) → s ≡ shape.Row fs t → ⊥) → (fields_in s ≡ []) × (tail_in s n ≡ n)
no_fields Free n never = (refl, refl)
no_fields Open n never = (refl, refl)
no_fields Empty n never = (refl, refl)
no_fields (Made h ps) n never = (refl, refl)
no_fields (shape.Row fs t) n never = absurd (never fs t refl)

pub chain_over : (nodes : Arena) (fuel n : ℕ) → ((fs : List Field) (t : ℕ) → class_shape nodes n ≡ shape.Row fs t → ⊥) → (chain nodes fuel n ≡ []) × (chain_end nodes fuel n ≡ n)
chain_over nodes zero n never = (refl, refl)
chain_over nodes (suc fuel) n never =
    let here = no_fields (class_shape nodes n) n never in
    let behind = chain_over nodes fuel n never in (
      ap (λ fs. fs ++ chain nodes fuel (tail_in (class_shape nodes n) n)) here.0 ∙ ap (chain nodes fuel) here.1 ∙ behind.0,
      ap (chain_end nodes fuel) here.1 ∙ behind.1,
    )

pub chain_row : (nodes : Arena) (fuel n : ℕ) (fs : List Field) (t : ℕ) → class_shape nodes n ≡ shape.Row fs t → chain nodes (suc fuel) n ≡ fs ++ chain nodes fuel t
chain_row nodes fuel n fs t is = ap (λ s. fields_in s ++ chain nodes fuel (tail_in s n)) is

pub end_row : (nodes : Arena) (fuel n : ℕ) (fs : List Field) (t : ℕ) → class_shape nodes n ≡ shape.Row fs t → chain_end nodes (suc fuel) n ≡ chain_end nodes fuel t
end_row nodes fuel n fs t is = ap (λ s. chain_end nodes fuel (tail_in s n)) is

-- no row more
pub chain_none : (nodes : Arena) (fuel n : ℕ) → fuel ≡ 0 → (chain nodes fuel n ≡ []) × (chain_end nodes fuel n ≡ n)
chain_none nodes fuel n none = (ap (λ k. chain nodes k n) none, ap (λ k. chain_end nodes k n) none)

-- the parts of fields before a row
pub row_nodes : (nodes : Arena) (n : ℕ) (fs : List Field) (t : ℕ) → IsArena nodes.shapes nodes.classes → n < length nodes.shapes → class_shape nodes n ≡ shape.Row fs t →
    (t < length nodes.shapes) × Each (λ f. f.node < length nodes.shapes) fs
row_nodes nodes n fs t arena below is =
    let parts : Each (λ p. p < length nodes.shapes) (t ∷ map (λ f. f.node) fs) =
    subst (λ s. Each (λ p. p < length nodes.shapes) (parts_of s)) is (arena.nodes (class_at nodes.classes n) (arena.named.below n below)) in
    (parts.0, each_from_map (λ p. p < length nodes.shapes) (λ (f : Field). f.node) fs parts.1)

-- Of the row of a node these places are known, and the rest is the row of another node, so many rows down.
pub record IsDown (nodes : Arena) (places : List ℕ) (fuel node : ℕ) (row : Places) (end left : ℕ) : Type 0 where
  pub fields : with_places nodes places (chain nodes left end) row ≡ with_places nodes places (chain nodes fuel node) no_places
  pub ends : chain_end nodes left end ≡ chain_end nodes fuel node
  pub within : end < length nodes.shapes

module _ (nodes : Arena) (places : List ℕ) (fuel node : ℕ) (row : Places) (end : ℕ) where
  module _ (left : ℕ) (down : IsDown nodes places fuel node row end left) where
    pub down_more : (less : ℕ) (own : List Field) (tail : ℕ) → left ≡ suc less → class_shape nodes end ≡ shape.Row own tail → tail < length nodes.shapes →
        IsDown nodes places fuel node (with_places nodes places own row) tail less
    down_more less own tail one is below = record {
      fields =
          sym (places_both nodes places own (chain nodes less tail) row)
          ∙ ap (λ fs. with_places nodes places fs row) (sym (chain_row nodes less end own tail is) ∙ ap (λ k. chain nodes k end) (sym one))
          ∙ down.fields;
      ends = sym (end_row nodes less end own tail is) ∙ ap (λ k. chain_end nodes k end) (sym one) ∙ down.ends;
      within = below;
    }

    -- the row ends here, since no row of fields stands here or so many rows were enough
    pub down_over : (numbers : List ℕ) → (chain nodes left end ≡ []) × (chain_end nodes left end ≡ end) → placed_row row (end_at nodes numbers end) ≡ row_level nodes numbers places fuel node
    down_over numbers none =
        ap (λ fs. placed_row (with_places nodes places fs row) (end_at nodes numbers end)) (sym none.0)
        ∙ ap (λ all. placed_row all (end_at nodes numbers end)) down.fields
        ∙ ap (λ e. placed_row (with_places nodes places (chain nodes fuel node) no_places) (end_at nodes numbers e)) (sym none.1 ∙ down.ends)
