-- The types of what stands in a query: bases, flat records and lists of these.
use Rattle.std.proofs.Common.{◌≡◌, Bool, true, false, ◌||◌, List, [], ◌∷◌, refl, sym, ◌∙◌, ap, subst, ◌⊎◌, inl, inr}
use Rattle.lk_ground_types.specs.Shapes.{are_flat, are_rows, base_level, is_base, is_flat_row, is_list, is_query_type, list_level, row_level, rows_level}
use Rattle.lk_types.specs.Rows.{Row, fields_of}
use Rattle.lk_types.specs.declared.ground.Ground.{Ground, out-Ground}
use Rattle.lk_types.specs.declared.ground.Ground.TheOpen.{Ground-F}
use Rattle.lk_types.specs.declared.ground.Ground.TheVariants as known
use Rattle.lk_types.specs.declared.ground.GroundField.{GroundField}
use Rattle.lk_typing.specs.Types.{record_of, variant_of}

abbrev query_level : Ground-F Ground GroundField → Bool
query_level l = (base_level l || row_level l) || rows_level l

pub list_rows : (u : Ground) → is_query_type (known.List u) ≡ true → are_rows (known.List u) ≡ true
list_rows u is =
    let flat : is_flat_row u ≡ true = subst (λ l. query_level l ≡ true) (known.outs-List u) is in
    subst (λ l. rows_level l ≡ true) (sym (known.outs-List u)) flat

-- its rows are flat records
pub rows_flat : (u : Ground) → are_rows (known.List u) ≡ true → is_flat_row u ≡ true
rows_flat u is = subst (λ l. rows_level l ≡ true) (known.outs-List u) is

pub record_row : (row : Row) → is_query_type (record_of row) ≡ true → is_flat_row (record_of row) ≡ true
record_row row is = subst (λ l. row_level l ≡ true) (sym (known.outs-Fields (fields_of row))) (by_test (are_flat (fields_of row)) (subst (λ l. query_level l ≡ true) (known.outs-Fields (fields_of row)) is))
  where
    by_test : (b : Bool) → ((false || b) || false) ≡ true → b ≡ true
    by_test true is = refl
    by_test false is = is

-- which of the three it is
pub data QueryType (t : Ground) : Type 0 where
  base : is_base t ≡ true → QueryType t
  rows : are_rows t ≡ true → is_base t ≡ false → is_list t ≡ true → QueryType t
  row : is_flat_row t ≡ true → is_base t ≡ false → is_list t ≡ false → QueryType t

pub query_type : (t : Ground) → is_query_type t ≡ true → QueryType t
query_type t is = by (out-Ground t) refl is
  where
    by : (l : Ground-F Ground GroundField) → out-Ground t ≡ l → query_level l ≡ true → QueryType t
    by Ground-F.Int same is = base (ap base_level same)
    by Ground-F.Bool same is = base (ap base_level same)
    by Ground-F.Text same is = base (ap base_level same)
    by (Ground-F.List u) same is = rows (ap rows_level same ∙ is) (ap base_level same) (ap list_level same)
    by (Ground-F.Fields gs) same is = row (ap row_level same ∙ by_test (are_flat gs) is) (ap base_level same) (ap list_level same)
      where
        by_test : (b : Bool) → ((false || b) || false) ≡ true → b ≡ true
        by_test true is = refl
        by_test false is = is
    by (Ground-F.Tags gs) same is = absurd cc
    by (Ground-F.Fun ts es a) same is = absurd cc

pub variant_not_flat : (tags : Row) → is_query_type (variant_of tags) ≡ true → ⊥
variant_not_flat tags is = let wrong : false ≡ true = subst (λ l. query_level l ≡ true) (known.outs-Tags (fields_of tags)) is in cc
