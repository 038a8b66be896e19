-- Levels with other numbers for their variables make the types with these numbers.
use Rattle.std.proofs.Common.{◌≡◌, ℕ, zero, suc, ◌<◌, List, [], ◌∷◌, ◌++◌, length, map, refl, sym, ap, subst, ◌∙◌, Some, None, Option, option_map}
use Rattle.std.proofs.lemmas.List.{length-map, map-append}
use Rattle.std.proofs.lemmas.Option.{slice_get-map}
use Rattle.std.specs.Prelude.{fold, slice_get}
use Rattle.lk_types.specs.Each.{Each, OneOf}
use Rattle.lk_types.specs.Levels.{at, built, field_made, made, parts_of, row_made, with_level, AreBelow, IsBelow, Stands, part, root}
use Rattle.lk_types.specs.OneTypes.{level_renamed, level_row_renamed, IsThin}
use Rattle.lk_types.specs.Renamed.{effects_renamed, renamed, renamed_field, renamed_row, tail_renamed}
use Rattle.lk_types.specs.declared.levels.Level.{Level}
use Rattle.lk_types.specs.declared.levels.Level.TheVariants as level
use Rattle.lk_types.specs.declared.levels.LevelField.{LevelField}
use Rattle.lk_types.specs.declared.levels.LevelRow.{LevelRow}
use Rattle.lk_types.specs.declared.ty.Effects.{Effects}
use Rattle.lk_types.specs.declared.ty.Ty.{Ty}
use Rattle.lk_types.specs.declared.ty.Ty.TheFolds.{the_lemmas}
use Rattle.lk_types.specs.declared.ty.Ty.TheOpen.{TyRow-F}
use Rattle.lk_types.specs.declared.ty.Ty.TheVariants as ty
use Rattle.lk_types.specs.declared.ty.TyField.{TyField}
use Rattle.lk_types.specs.declared.ty.TyRow.{TyRow, out-TyRow, out-roll-TyRow, roll-TyRow}
use Rattle.lk_types.specs.declared.ty.Variable.{Variable}
use Rattle.lk_types.specs.declared.ty.Variable.TheVariants as variable

module _ (place : Variable → ℕ) where
  -- ---- types

  renamed_int : renamed place ty.Int ≡ ty.Int
  unfolding renamed
  renamed_int = search the_lemmas

  renamed_bool : renamed place ty.Bool ≡ ty.Bool
  unfolding renamed
  renamed_bool = search the_lemmas

  renamed_text : renamed place ty.Text ≡ ty.Text
  unfolding renamed
  renamed_text = search the_lemmas

  renamed_list : (t : Ty) → renamed place (ty.List t) ≡ ty.List (renamed place t)
  unfolding renamed
  renamed_list t = search the_lemmas

  renamed_fields : (row : TyRow) → renamed place (ty.Fields row) ≡ ty.Fields (renamed_row place row)
  unfolding renamed renamed_row
  renamed_fields row = search the_lemmas

  renamed_tags : (row : TyRow) → renamed place (ty.Tags row) ≡ ty.Tags (renamed_row place row)
  unfolding renamed renamed_row
  renamed_tags row = search the_lemmas

  renamed_function : (params : List Ty) (es : Effects) (answer : Ty) → renamed place (ty.Fun params es answer) ≡ ty.Fun (map (renamed place) params) (effects_renamed place es) (renamed place answer)
  unfolding renamed
  renamed_function params es answer = search the_lemmas

  renamed_variable : (v : ℕ) → renamed place (ty.Var v) ≡ ty.Var (place (variable.Plain v))
  unfolding renamed
  renamed_variable v = search the_lemmas

  renamed_of_row : (row : TyRow) → renamed_row place row ≡ roll-TyRow (record { fields = map (renamed_field place) (out-TyRow row).fields; tail = tail_renamed place variable.Row (out-TyRow row).tail })
  unfolding renamed_row renamed_field
  renamed_of_row row = search the_lemmas

  renamed_of_field : (f : TyField) → renamed_field place f ≡ record { label = f.label; ty = renamed place f.ty }
  unfolding renamed_field renamed
  renamed_of_field f = search the_lemmas

  -- ---- levels

  abbrev all_renamed : List Ty → List Ty
  all_renamed ts = map (renamed place) ts

  pub at_renamed : (ts : List Ty) (n : ℕ) → at (all_renamed ts) n ≡ renamed place (at ts n)
  at_renamed [] n = sym renamed_int
  at_renamed (t ∷ ts) zero = refl
  at_renamed (t ∷ ts) (suc n) = at_renamed ts n

  places_renamed : (ts : List Ty) (ns : List ℕ) → map (at (all_renamed ts)) ns ≡ map (renamed place) (map (at ts) ns)
  places_renamed ts [] = refl
  places_renamed ts (n ∷ ns) = (λ i. at_renamed ts n i ∷ places_renamed ts ns i)

  fields_renamed : (ts : List Ty) (fs : List LevelField) → map (field_made (all_renamed ts)) fs ≡ map (renamed_field place) (map (field_made ts) fs)
  fields_renamed ts [] = refl
  fields_renamed ts (f ∷ fs) = (λ i. (ap (λ t. record { label = f.label; ty = t }) (at_renamed ts f.part) ∙ sym (renamed_of_field (field_made ts f))) i ∷ fields_renamed ts fs i)

  made_row_renamed : (ts : List Ty) (row : LevelRow) → row_made (all_renamed ts) (level_row_renamed place row) ≡ renamed_row place (row_made ts row)
  made_row_renamed ts row =
      ap (λ fs. roll-TyRow (record { fields = fs; tail = tail_renamed place variable.Row row.tail })) (fields_renamed ts row.fields)
      ∙ sym (renamed_of_row (row_made ts row)
      ∙ ap (λ (x : TyRow-F Ty TyField TyRow). roll-TyRow (record { fields = map (renamed_field place) x.fields; tail = tail_renamed place variable.Row x.tail })) (out-roll-TyRow (record { fields = map (field_made ts) row.fields; tail = row.tail })))

  made_renamed : (ts : List Ty) (l : Level) → made (all_renamed ts) (level_renamed place l) ≡ renamed place (made ts l)
  made_renamed ts level.Int = sym renamed_int
  made_renamed ts level.Bool = sym renamed_bool
  made_renamed ts level.Text = sym renamed_text
  made_renamed ts (level.List n) = ap ty.List (at_renamed ts n) ∙ sym (renamed_list (at ts n))
  made_renamed ts (level.Fields row) = ap ty.Fields (made_row_renamed ts row) ∙ sym (renamed_fields (row_made ts row))
  made_renamed ts (level.Tags row) = ap ty.Tags (made_row_renamed ts row) ∙ sym (renamed_tags (row_made ts row))
  made_renamed ts (level.Fun params es n) =
      (λ i. ty.Fun (places_renamed ts params i) (effects_renamed place es) (at_renamed ts n i)) ∙ sym (renamed_function (map (at ts) params) es (at ts n))
  made_renamed ts (level.Var v) = sym (renamed_variable v)

  abbrev levels_renamed : List Level → List Level
  levels_renamed levels = map (level_renamed place) levels

  built_behind : (ts : List Ty) (levels : List Level) → fold with_level (all_renamed ts) (levels_renamed levels) ≡ all_renamed (fold with_level ts levels)
  built_behind ts [] = refl
  built_behind ts (l ∷ levels) =
      ap (λ us. fold with_level us (levels_renamed levels)) (ap (λ t. all_renamed ts ++ t ∷ []) (made_renamed ts l) ∙ sym (map-append (renamed place) ts (made ts l ∷ [])))
      ∙ built_behind (with_level ts l) levels

  built_renamed : (levels : List Level) → built (levels_renamed levels) ≡ all_renamed (built levels)
  built_renamed levels = built_behind [] levels

  -- what a place has is what it had with the new numbers
  pub type_renamed : (levels : List Level) (n : ℕ) → at (built (levels_renamed levels)) n ≡ renamed place (at (built levels) n)
  type_renamed levels n = ap (λ ts. at ts n) (built_renamed levels) ∙ at_renamed (built levels) n

  -- ---- the parts are the same

  same_parts : (l : Level) → parts_of (level_renamed place l) ≡ parts_of l
  same_parts level.Int = refl
  same_parts level.Bool = refl
  same_parts level.Text = refl
  same_parts (level.List n) = refl
  same_parts (level.Fields row) = refl
  same_parts (level.Tags row) = refl
  same_parts (level.Fun params es n) = refl
  same_parts (level.Var v) = refl

  was_there : (o : Option Level) (l : Level) → option_map (level_renamed place) o ≡ Some l → (m : Level) × (o ≡ Some m) × (level_renamed place m ≡ l)
  was_there None l is = cc
  was_there (Some m) l is = (m, refl, cc)

  module _ (levels : List Level) where
    still_below : AreBelow levels → AreBelow (levels_renamed levels)
    still_below below k l is =
        let m = was_there (slice_get levels k) l (sym (slice_get-map (level_renamed place) levels k) ∙ is) in
        subst (IsBelow k) m.2 (subst (Each (λ n. n < k)) (sym (same_parts m.0)) (below k m.0 m.1))

    still_long : length (levels_renamed levels) ≡ length levels
    still_long = length-map levels (level_renamed place)

    still_stands : (roots : List ℕ) (n : ℕ) → Stands levels roots n → Stands (levels_renamed levels) roots n
    still_stands roots n (root one) = root one
    still_stands roots n (part {k = k} {l = l} stands is one) =
        part (still_stands roots k stands) (slice_get-map (level_renamed place) levels k ∙ ap (option_map (level_renamed place)) is)
        (subst (λ ps. OneOf (λ p. p ≡ n) ps) (sym (same_parts l)) one)

    pub still_thin : (r : ℕ) → IsThin levels r → IsThin (levels_renamed levels) r
    still_thin r thin = record {
      table = record {
        below = still_below thin.table.below;
        roots_below = subst (λ n. Each (λ m. m < n) (r ∷ [])) (sym still_long) thin.table.roots_below;
      };
      stands = λ n less. still_stands (r ∷ []) n (thin.stands n (subst (λ m. n < m) still_long less));
    }
