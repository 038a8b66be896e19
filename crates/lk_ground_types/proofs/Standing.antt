-- What a level of a type becomes, where numbers stand for what those before it become.
use Rattle.std.proofs.Common.{◌≡◌, ℕ, zero, suc, ◌<◌, List, [], ◌∷◌, length, map, refl, sym, ap, subst, ◌∙◌, Option, Some, None, arith}
use Rattle.std.specs.BTreeMap.{get}
use Rattle.std.specs.FinMap as fin
use Rattle.std.specs.Option.{option_map, unwrap_or}
use Rattle.std.specs.Ordering.{nat_cmp}
use Rattle.lk_types.proofs.Parts.{all_some, mapped, row_rolled, same_some, with_one}
use Rattle.lk_types.proofs.Unfold.{under_bool, under_int, under_text}
use Rattle.lk_types.specs.Each.{Each}
use Rattle.lk_types.specs.Grounding.{all_of, before_row, effect_tail, row_tail, row_under, under}
use Rattle.lk_types.specs.Levels.{field_made, row_made, made}
use Rattle.lk_types.specs.Levels as levels
use Rattle.lk_types.specs.Rows.{Label, Row, fields_of, no_fields}
use Rattle.lk_types.specs.declared.ground.Ground.{Ground}
use Rattle.lk_types.specs.declared.ground.Ground.TheVariants as known
use Rattle.lk_types.specs.declared.levels.Level.{Level}
use Rattle.lk_types.specs.declared.levels.Level.TheVariants as level
use Rattle.lk_types.specs.declared.levels.LevelField.{LevelField}
use Rattle.lk_types.specs.declared.levels.LevelRow.{LevelRow}
use Rattle.lk_types.specs.declared.ty.RowTail.{RowTail}
use Rattle.lk_types.specs.declared.ty.RowTail.TheVariants.{Closed, Var}
use Rattle.lk_types.specs.declared.ty.Ty.{Ty}
use Rattle.lk_types.specs.declared.ty.Ty.TheVariants as ty
use Rattle.lk_ground_types.proofs.FormsBecome.{base_becomes, effects_made as effects_become, function_becomes, list_becomes, record_becomes, variable_becomes, variant_becomes}
use Rattle.lk_ground_types.proofs.RowNumbers.{empty_row, fields_row, parts_within, put_row, within_empty, within_put}
use Rattle.lk_ground_types.proofs.Tables.{effects_are, plain_none, plain_some, rows_are}
use Rattle.lk_ground_types.specs.Becoming.{Stand, bound_effects, bound_number, bound_row, fields_put, level_of, number_at}
use Rattle.lk_ground_types.specs.Becoming as becoming
use Rattle.lk_ground_types.specs.Bound.{AreWithin, IsRowWithin, grounding_in, is_listed}
use Rattle.lk_ground_types.specs.Grounds.{IsBelow, Parts, at, ground_made, part_made, parts_in, row_in}
use Rattle.lk_ground_types.specs.Made.{IsIfThere}
use Rattle.lk_ground_types.specs.declared.bindings.Bindings.{Bindings}

-- ---- the tails

module _ (b : Bindings) (ts : List Ground) where
  pub effects_stand : (tail : RowTail) → effect_tail (grounding_in ts b) tail ≡ is_listed (bound_effects b tail)
  effects_stand Closed = refl
  effects_stand (Var n) = effects_are ts b n

  found_row : (o : Option Parts) → unwrap_or (option_map (row_in ts) o) no_fields ≡ row_in ts (unwrap_or o fin.empty)
  found_row None = sym (empty_row ts)
  found_row (Some row) = refl

  pub row_stands : (tail : RowTail) → row_in ts (bound_row b tail) ≡ row_tail (grounding_in ts b) tail
  row_stands Closed = empty_row ts
  row_stands (Var n) = sym (rows_are ts b n ∙ found_row (get nat_cmp b.rows n))

-- ---- one level

module _ (b : Bindings) (ts : List Ground) (tys : List Ty) (ns : List ℕ) (stand : Stand (grounding_in ts b) ts tys ns) where
  all_stand : (ps : List ℕ) → Each (λ n. n < length ns) ps → IsIfThere (all_of (map (under (grounding_in ts b)) (map (levels.at tys) ps))) (map (at ts) (map (number_at ns) ps))
  all_stand [] below found is = same_some is
  all_stand (p ∷ ps) below found is =
      let x = all_some (under (grounding_in ts b) (levels.at tys p)) (map (under (grounding_in ts b)) (map (levels.at tys) ps)) found is in
      (λ i. stand p below.0 x.0 x.2 i ∷ all_stand ps below.1 x.1 x.3 i) ∙ sym x.4

  abbrev known_fields : List LevelField → List (Label × Option Ground)
  known_fields fs = map (λ f. (f.label, under (grounding_in ts b) f.ty)) (map (field_made tys) fs)

  fields_stand : (fs : List LevelField) → Each (λ n. n < length ns) (map (λ f. f.part) fs) → (old : Parts) (row : Row) → before_row (known_fields fs) (row_in ts old) ≡ Some row → row_in ts (fields_put ns fs old) ≡ row
  fields_stand [] below old row is = same_some is
  fields_stand (f ∷ fs) below old row is =
      let w = with_one f.label (under (grounding_in ts b) (levels.at tys f.part)) (before_row (known_fields fs) (row_in ts old)) row is in
      put_row ts (fields_put ns fs old) f.label (number_at ns f.part)
      ∙ (λ i. fin.insert (fields_stand fs below.1 old w.1 w.3 i) f.label (stand f.part below.0 w.0 w.2 i))
      ∙ sym w.5

  row_becomes : (row : LevelRow) → Each (λ n. n < length ns) (map (λ f. f.part) row.fields)
      → IsIfThere (option_map fields_of (row_under (grounding_in ts b) (row_made tys row))) (map (part_made ts) (parts_in (becoming.row_made b ns row)))
  row_becomes row below found is =
      let x = mapped fields_of (row_under (grounding_in ts b) (row_made tys row)) found is in
      sym (fields_row ts (becoming.row_made b ns row))
      ∙ ap fields_of (fields_stand row.fields below (bound_row b row.tail) x.0
      (ap (before_row (known_fields row.fields)) (row_stands b ts row.tail) ∙ sym (row_rolled (grounding_in ts b) (map (field_made tys) row.fields) row.tail) ∙ x.1))
      ∙ sym x.2

  pub level_stands : (l : Level) → levels.IsBelow (length ns) l → bound_number b l ≡ None → IsIfThere (under (grounding_in ts b) (made tys l)) (ground_made ts (level_of b ns l))
  level_stands level.Int below none = base_becomes (grounding_in ts b) ty.Int ty.Int known.Int (under_int (grounding_in ts b)) refl
  level_stands level.Bool below none = base_becomes (grounding_in ts b) ty.Bool ty.Bool known.Bool (under_bool (grounding_in ts b)) refl
  level_stands level.Text below none = base_becomes (grounding_in ts b) ty.Text ty.Text known.Text (under_text (grounding_in ts b)) refl
  level_stands (level.List n) below none = list_becomes (grounding_in ts b) (ty.List (levels.at tys n)) (levels.at tys n) (at ts (number_at ns n)) refl (stand n below.0)
  level_stands (level.Fields row) below none = record_becomes (grounding_in ts b) (ty.Fields (row_made tys row)) (row_made tys row) _ refl (row_becomes row below)
  level_stands (level.Tags row) below none = variant_becomes (grounding_in ts b) (ty.Tags (row_made tys row)) (row_made tys row) _ refl (row_becomes row below)
  level_stands (level.Fun params es n) below none =
      function_becomes (grounding_in ts b) (ty.Fun (map (levels.at tys) params) es (levels.at tys n)) (map (levels.at tys) params) es (levels.at tys n) _ (becoming.effects_made b es) (at ts (number_at ns n)) refl
      (all_stand params below.1) (effects_become (grounding_in ts b) es es.labels (bound_effects b es.tail) _ refl (effects_stand b ts es.tail) refl) (stand n below.0)
  level_stands (level.Var n) below none = variable_becomes (grounding_in ts b) (ty.Var n) n (known.Fields []) refl (sym (plain_none ts b n none))

  pub variable_stands : (l : Level) (m : ℕ) → bound_number b l ≡ Some m → IsIfThere (under (grounding_in ts b) (made tys l)) (at ts m)
  variable_stands level.Int m is = cc
  variable_stands level.Bool m is = cc
  variable_stands level.Text m is = cc
  variable_stands (level.List n) m is = cc
  variable_stands (level.Fields row) m is = cc
  variable_stands (level.Tags row) m is = cc
  variable_stands (level.Fun params es n) m is = cc
  variable_stands (level.Var n) m is = variable_becomes (grounding_in ts b) (ty.Var n) n (at ts m) refl (sym (plain_some ts b n m is))

-- ---- numbers within the table

pub number_within : (k : ℕ) (ns : List ℕ) (n : ℕ) → Each (λ n. n < k) ns → n < length ns → number_at ns n < k
number_within k [] n all less = absurd (omega (arith, less))
number_within k (m ∷ ns) zero all less = all.0
number_within k (m ∷ ns) (suc n) all less = number_within k ns n all.1 (omega (arith, less))

pub numbers_within : (k : ℕ) (ns ps : List ℕ) → Each (λ n. n < k) ns → Each (λ p. p < length ns) ps → Each (λ n. n < k) (map (number_at ns) ps)
numbers_within k ns [] all less = tt
numbers_within k ns (p ∷ ps) all less = (number_within k ns p all less.0, numbers_within k ns ps all less.1)

module _ (k : ℕ) (b : Bindings) (ns : List ℕ) (within : AreWithin k b) (all : Each (λ n. n < k) ns) where
  tail_within : (tail : RowTail) → IsRowWithin k (bound_row b tail)
  tail_within Closed = within_empty k
  tail_within (Var n) = by_value (get nat_cmp b.rows n) refl
    where
      by_value : (o : Option Parts) → get nat_cmp b.rows n ≡ o → IsRowWithin k (unwrap_or (get nat_cmp b.rows n) fin.empty)
      by_value None is = subst (λ o. IsRowWithin k (unwrap_or o fin.empty)) (sym is) (within_empty k)
      by_value (Some row) is = subst (λ o. IsRowWithin k (unwrap_or o fin.empty)) (sym is) (within.rows n row is)

  fields_within : (fs : List LevelField) (row : Parts) → Each (λ n. n < length ns) (map (λ f. f.part) fs) → IsRowWithin k row → IsRowWithin k (fields_put ns fs row)
  fields_within [] row below fits = fits
  fields_within (f ∷ fs) row below fits = within_put k (fields_put ns fs row) f.label (number_at ns f.part) (number_within k ns f.part all below.0) (fields_within fs row below.1 fits)

  row_within : (row : LevelRow) → Each (λ n. n < length ns) (map (λ f. f.part) row.fields) → IsRowWithin k (becoming.row_made b ns row)
  row_within row below = fields_within row.fields (bound_row b row.tail) below (tail_within row.tail)

  pub level_below : (l : Level) → levels.IsBelow (length ns) l → IsBelow k (level_of b ns l)
  level_below level.Int below = tt
  level_below level.Bool below = tt
  level_below level.Text below = tt
  level_below (level.List n) below = (number_within k ns n all below.0, tt)
  level_below (level.Fields row) below = parts_within k (becoming.row_made b ns row) (row_within row below)
  level_below (level.Tags row) below = parts_within k (becoming.row_made b ns row) (row_within row below)
  level_below (level.Fun params es n) below = (number_within k ns n all below.0, numbers_within k ns params all below.1)
  level_below (level.Var n) below = tt

  pub variable_below : (l : Level) (m : ℕ) → bound_number b l ≡ Some m → m < k
  variable_below level.Int m is = cc
  variable_below level.Bool m is = cc
  variable_below level.Text m is = cc
  variable_below (level.List n) m is = cc
  variable_below (level.Fields row) m is = cc
  variable_below (level.Tags row) m is = cc
  variable_below (level.Fun params es n) m is = cc
  variable_below (level.Var n) m is = within.plain n m is
