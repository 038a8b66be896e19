-- The type of a node that isn't there, which has no function in it and is none of those that queries may have.
use Rattle.std.proofs.Common.{◌≡◌, ℕ, false, List, [], None, slice_get, ap, ◌∙◌}
use Rattle.lk_ground_types.proofs.ShapesUnfold.{function_fields}
use Rattle.lk_ground_types.specs.Shapes.{has_function, is_base, is_flat, is_list, is_query_type}
use Rattle.lk_outline.specs.Typed.{or_unit, type_at}
use Rattle.lk_types.specs.declared.ground.Ground.{Ground}
use Rattle.lk_types.specs.declared.ground.Ground.TheVariants as known

unit_function : has_function (known.Fields []) ≡ false
unit_function = function_fields []

unit_base : is_base (known.Fields []) ≡ false
unit_base = simp (known.outs-Fields)

unit_list : is_list (known.Fields []) ≡ false
unit_list = simp (known.outs-Fields)

unit_flat : is_flat (known.Fields []) ≡ false
unit_flat = simp (known.outs-Fields)

unit_query : is_query_type (known.Fields []) ≡ false
unit_query = simp (known.outs-Fields)

module _ (types : List Ground) (n : ℕ) (none : slice_get types n ≡ None) where
  pub no_function : has_function (type_at types n) ≡ false
  no_function = ap (λ found. has_function (or_unit found)) none ∙ unit_function

  pub no_base : is_base (type_at types n) ≡ false
  no_base = ap (λ found. is_base (or_unit found)) none ∙ unit_base

  pub no_list : is_list (type_at types n) ≡ false
  no_list = ap (λ found. is_list (or_unit found)) none ∙ unit_list

  pub no_flat : is_flat (type_at types n) ≡ false
  no_flat = ap (λ found. is_flat (or_unit found)) none ∙ unit_flat

  pub no_query : is_query_type (type_at types n) ≡ false
  no_query = ap (λ found. is_query_type (or_unit found)) none ∙ unit_query
