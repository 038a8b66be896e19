-- With the fields of a row that brings only new labels there are fewer nodes whose first label is new.
use Rattle.std.proofs.Common.{◌≡◌, ℕ, zero, suc, ◌<◌, ◌≤◌, Bool, List, [], ◌∷◌, ◌++◌, length, refl, sym, ◌∙◌, ap, subst, arith, Option, Some, None}
use Rattle.std.specs.Prelude.{not, is_some, if◌then◌else◌}
use Rattle.lk_types.specs.Each.{Each}
use Rattle.lk_arena.proofs.Chains.{or_found, found_at-append}
use Rattle.lk_arena.proofs.RowAlgebra.{found_same}
use Rattle.lk_arena.specs.Measures.{is_unmet, unmet}
use Rattle.lk_arena.specs.Shapes.{found_at, shape_at, HasFields}
use Rattle.lk_arena.specs.declared.node.Field.{Field}
use Rattle.lk_arena.specs.declared.node.Shape.{Shape}
use Rattle.lk_arena.specs.declared.node.Shape.TheVariants.{Free, Open, Empty, Made}
use Rattle.lk_arena.specs.declared.node.Shape.TheVariants as shape

abbrev one : Bool → ℕ
one b = if b then 1 else 0

fewer : (a b : Option ℕ) → one (not (is_some (or_found a b))) ≤ one (not (is_some a))
unfolding or_found
fewer None None = omega arith
fewer None (Some n) = omega arith
fewer (Some m) b = omega arith

module _ (fields more : List Field) where
  unmet_at : (s : Shape) → one (is_unmet (fields ++ more) s) ≤ one (is_unmet fields s)
  unmet_at Free = omega arith
  unmet_at Open = omega arith
  unmet_at Empty = omega arith
  unmet_at (Made h ps) = omega arith
  unmet_at (shape.Row [] t) = omega arith
  unmet_at (shape.Row (f ∷ fs) t) =
      subst (λ o. one (not (is_some o)) ≤ one (not (is_some (found_at fields f.label)))) (sym (found_at-append fields more f.label))
      (fewer (found_at fields f.label) (found_at more f.label))

  unmet-le : (shapes : List Shape) → unmet (fields ++ more) shapes ≤ unmet fields shapes
  unmet-le [] = omega arith
  unmet-le (s ∷ shapes) = let first = unmet_at s in let rest = unmet-le shapes in omega arith

  -- at the row itself
  met : (all : List Field) (t : ℕ) → more ≡ all → HasFields (shape.Row all t) → Each (λ f. found_at fields f.label ≡ None) all
      → (one (is_unmet (fields ++ more) (shape.Row all t)) ≡ 0) × (one (is_unmet fields (shape.Row all t)) ≡ 1)
  unfolding or_found
  met [] t is filled lacks = absurd filled
  met (f ∷ fs) t is filled lacks = (
    ap (λ o. one (not (is_some o)))
        (found_at-append fields more f.label ∙ (λ i. or_found (lacks.0 i) (found_at (is i) f.label)) ∙ found_same f fs f.label refl),
    ap (λ o. one (not (is_some o))) lacks.0,
  )

  pub unmet-lt : (shapes : List Shape) (i t : ℕ) → i < length shapes → shape_at shapes i ≡ shape.Row more t → HasFields (shape.Row more t)
      → Each (λ f. found_at fields f.label ≡ None) more → unmet (fields ++ more) shapes < unmet fields shapes
  unmet-lt [] i t below is filled lacks = absurd (omega arith)
  unmet-lt (s ∷ shapes) zero t below is filled lacks =
      let rest = unmet-le shapes in
      let here = subst (λ s. (one (is_unmet (fields ++ more) s) ≡ 0) × (one (is_unmet fields s) ≡ 1)) (sym is) (met more t refl filled lacks) in
      let gone = here.0 in
      let was = here.1 in
      omega arith
  unmet-lt (s ∷ shapes) (suc i) t below is filled lacks =
      let first = unmet_at s in
      let rest = unmet-lt shapes i t (omega arith) is filled lacks in
      omega arith
