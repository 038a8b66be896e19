-- Types of what may stand in a query, and lists as values.
use Rattle.std.proofs.Common.{◌≡◌, unwrap_or, sym, ap, ◌∙◌, Bool, true, false, ◌||◌, List, [], Some}
use Rattle.lk_ground_types.specs.Shapes.{base_level, is_flat_row, is_query_type, row_level, rows_level}
use Rattle.lk_types.specs.declared.ground.Ground.TheOpen.{Ground-F}
use Rattle.lk_types.specs.declared.ground.Ground.TheVariants as known
use Rattle.lk_types.specs.declared.ground.Ground.{Ground}
use Rattle.lk_types.specs.declared.ground.GroundField.{GroundField}
use Rattle.lk_ast.specs.declared.value.Value.{Value}
use Rattle.lk_ast.specs.declared.value.Value.TheVariants as value
use Rattle.lk_bag.specs.Bag.{items}
use Rattle.lk_operators.specs.Values.{list_in}

abbrev pub query_level : Ground-F Ground GroundField → Bool
query_level l = (base_level l || row_level l) || rows_level l

-- rows of a list of a query's type are flat
pub flat_list : (a : Ground) → is_query_type (known.List a) ≡ true → is_flat_row a ≡ true
flat_list a is = sym (ap query_level (known.outs-List a)) ∙ is

-- no tag may stand in a query
pub variant_not_flat : (gs : List GroundField) → is_query_type (known.Tags gs) ≡ true → ⊥
variant_not_flat gs is = let wrong : false ≡ true = sym (ap query_level (known.outs-Tags gs)) ∙ is in cc

-- the values of a list
pub items_of : (v : Value) (values : List Value) → list_in v ≡ Some values → items v ≡ values
items_of v values is = ap (λ o. unwrap_or o []) is
