-- Which ground types have a function in them, and which a query may have: flat ones (Wong, Normal forms and conservative
-- extension properties for query languages over collection types, 1996; Cooper, The script-writer's dream, 2009).
use Rattle.std.specs.Prelude.{Bool, true, false, ◌&&◌, ◌||◌, List, [], ◌∷◌}
use Rattle.std.specs.List.{list_all, list_any}
use Rattle.lk_types.specs.declared.ground.Ground.{Ground, out-Ground, fold-Ground}
use Rattle.lk_types.specs.declared.ground.Ground.TheOpen.{Ground-F, GroundField-F}
use Rattle.lk_types.specs.declared.ground.GroundField.{GroundField}

-- ---- functions

abbrev pub function_level : Ground-F Bool Bool → Bool
function_level (Ground-F.List t) = t
function_level (Ground-F.Fields fields) = list_any (λ there. there) fields
function_level (Ground-F.Tags tags) = list_any (λ there. there) tags
function_level (Ground-F.Fun params es answer) = true
function_level other = false

abbrev pub function_field : GroundField-F Bool Bool → Bool
function_field f = f.ty

-- whether it is a function type, or one stands in it
unfoldable pub has_function : Ground → Bool
has_function = fold-Ground Bool Bool function_level function_field

-- ---- types of queries

abbrev pub base_level : Ground-F Ground GroundField → Bool
base_level Ground-F.Int = true
base_level Ground-F.Bool = true
base_level Ground-F.Text = true
base_level other = false

abbrev pub is_base : Ground → Bool
is_base t = base_level (out-Ground t)

abbrev pub is_there : {A : Type 0} → List A → Bool
is_there [] = false
is_there (x ∷ xs) = true

-- at least one field, and each of a base type
abbrev pub are_flat : List GroundField → Bool
are_flat fields = is_there fields && list_all (λ f. is_base f.ty) fields

abbrev pub row_level : Ground-F Ground GroundField → Bool
row_level (Ground-F.Fields fields) = are_flat fields
row_level other = false

-- a flat record
abbrev pub is_flat_row : Ground → Bool
is_flat_row t = row_level (out-Ground t)

abbrev pub rows_level : Ground-F Ground GroundField → Bool
rows_level (Ground-F.List t) = is_flat_row t
rows_level other = false

-- a list of flat records
abbrev pub are_rows : Ground → Bool
are_rows t = rows_level (out-Ground t)

abbrev pub list_level : Ground-F Ground GroundField → Bool
list_level (Ground-F.List t) = true
list_level other = false

abbrev pub is_list : Ground → Bool
is_list t = list_level (out-Ground t)

-- what a query may capture: bases and flat records
abbrev pub is_flat : Ground → Bool
is_flat t = is_base t || is_flat_row t

-- what stands in a query may have these types: bases, flat records and lists of flat records
abbrev pub is_query_type : Ground → Bool
is_query_type t = is_flat t || are_rows t
