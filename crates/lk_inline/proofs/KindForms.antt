-- The kinds of the types of a query: of bases, flat records and lists of these.
use Rattle.std.proofs.Common.{◌≡◌, true, [], ◌∷◌, refl, sym, ap, subst}
use Rattle.lk_bodies.specs.Shapes.{columns_level, columns_of, element_columns, element_level, labels}
use Rattle.lk_ground_types.specs.Shapes.{are_rows, base_level, is_base, is_flat_row, is_query_type, row_level, rows_level}
use Rattle.lk_inline.proofs.QueryTypes.{QueryType, query_type}
use Rattle.lk_inline.proofs.QueryTypes as query
use Rattle.lk_inline.specs.KindsOfTypes.{IsInOrder, kind_level, kind_of_type}
use Rattle.lk_query.specs.Kinds.{AreColumns, HasColumns, IsList, OfBase, OfList, OfRecord}
use Rattle.lk_sql.specs.Good.{are_in_order}
use Rattle.lk_types.specs.declared.ground.Ground.{Ground, out-Ground}
use Rattle.lk_types.specs.declared.ground.Ground.TheOpen.{Ground-F}
use Rattle.lk_types.specs.declared.ground.Ground.TheVariants as known
use Rattle.lk_types.specs.declared.ground.GroundField.{GroundField}

-- ---- by form

base_form : (l : Ground-F Ground GroundField) → base_level l ≡ true → kind_level l ≡ OfBase
base_form Ground-F.Int is = refl
base_form Ground-F.Bool is = refl
base_form Ground-F.Text is = refl
base_form (Ground-F.List a) is = absurd cc
base_form (Ground-F.Fields gs) is = absurd cc
base_form (Ground-F.Tags gs) is = absurd cc
base_form (Ground-F.Fun ts es a) is = absurd cc

row_form : (l : Ground-F Ground GroundField) → row_level l ≡ true → kind_level l ≡ OfRecord (labels (columns_level l))
row_form Ground-F.Int is = absurd cc
row_form Ground-F.Bool is = absurd cc
row_form Ground-F.Text is = absurd cc
row_form (Ground-F.List a) is = absurd cc
row_form (Ground-F.Fields gs) is = refl
row_form (Ground-F.Tags gs) is = absurd cc
row_form (Ground-F.Fun ts es a) is = absurd cc

rows_form : (l : Ground-F Ground GroundField) → rows_level l ≡ true → kind_level l ≡ OfList (labels (element_level l))
rows_form Ground-F.Int is = absurd cc
rows_form Ground-F.Bool is = absurd cc
rows_form Ground-F.Text is = absurd cc
rows_form (Ground-F.List a) is = refl
rows_form (Ground-F.Fields gs) is = absurd cc
rows_form (Ground-F.Tags gs) is = absurd cc
rows_form (Ground-F.Fun ts es a) is = absurd cc

-- a flat record has a column
row_columns : (l : Ground-F Ground GroundField) → row_level l ≡ true → are_in_order (labels (columns_level l)) ≡ true → AreColumns (labels (columns_level l))
row_columns Ground-F.Int is order = absurd cc
row_columns Ground-F.Bool is order = absurd cc
row_columns Ground-F.Text is order = absurd cc
row_columns (Ground-F.List a) is order = absurd cc
row_columns (Ground-F.Fields []) is order = absurd cc
row_columns (Ground-F.Fields (g ∷ gs)) is order = order
row_columns (Ground-F.Tags gs) is order = absurd cc
row_columns (Ground-F.Fun ts es a) is order = absurd cc

rows_columns : (l : Ground-F Ground GroundField) → rows_level l ≡ true → are_in_order (labels (element_level l)) ≡ true → AreColumns (labels (element_level l))
rows_columns Ground-F.Int is order = absurd cc
rows_columns Ground-F.Bool is order = absurd cc
rows_columns Ground-F.Text is order = absurd cc
rows_columns (Ground-F.List a) is order = row_columns (out-Ground a) is order
rows_columns (Ground-F.Fields gs) is order = absurd cc
rows_columns (Ground-F.Tags gs) is order = absurd cc
rows_columns (Ground-F.Fun ts es a) is order = absurd cc

-- ---- by type

pub base_kind : (t : Ground) → is_base t ≡ true → kind_of_type t ≡ OfBase
base_kind t is = base_form (out-Ground t) is

pub row_kind : (t : Ground) → is_flat_row t ≡ true → kind_of_type t ≡ OfRecord (labels (columns_of t))
row_kind t is = row_form (out-Ground t) is

pub rows_kind : (t : Ground) → are_rows t ≡ true → kind_of_type t ≡ OfList (labels (element_columns t))
rows_kind t is = rows_form (out-Ground t) is

pub list_kind : (a : Ground) → kind_of_type (known.List a) ≡ OfList (labels (columns_of a))
list_kind a = ap kind_level (known.outs-List a)

pub is_list_kind : (t : Ground) → are_rows t ≡ true → IsList (kind_of_type t)
is_list_kind t is = subst IsList (sym (rows_kind t is)) tt

-- ---- columns

pub base_columns : (t : Ground) → is_base t ≡ true → HasColumns (kind_of_type t)
base_columns t is = subst HasColumns (sym (base_kind t is)) tt

pub record_columns : (t : Ground) → is_flat_row t ≡ true → HasColumns (kind_of_type t)
record_columns t is = subst HasColumns (sym (row_kind t is)) tt

-- a list in a query has columns where they stand in order
pub list_columns : (t : Ground) → are_rows t ≡ true → IsInOrder t → HasColumns (kind_of_type t)
list_columns t is order = subst HasColumns (sym (rows_kind t is)) (rows_columns (out-Ground t) is order)

pub type_columns : (t : Ground) → is_query_type t ≡ true → IsInOrder t → HasColumns (kind_of_type t)
type_columns t flat order = by (query_type t flat)
  where
    by : QueryType t → HasColumns (kind_of_type t)
    by (query.base base_is) = base_columns t base_is
    by (query.rows rows_are base_not list_is) = list_columns t rows_are order
    by (query.row row_is base_not list_not) = record_columns t row_is
