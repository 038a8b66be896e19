-- What a level of a type becomes, by numbers in a table of ground types, once it is known what those before it become.
use Rattle.std.specs.Prelude.{◌≡◌, ℕ, ◌<◌, ◌++◌, ◌||◌, List, [], ◌∷◌, Option, None, Some, length, map, slice_get, slice_index_or}
use Rattle.std.specs.BTreeMap.{get}
use Rattle.std.specs.FinMap as fin
use Rattle.std.specs.Option.{unwrap_or}
use Rattle.std.specs.Ordering.{nat_cmp}
use Rattle.std.specs.declared.cmp.Ordering.TheVariants.{Less}
use Rattle.lk_types.specs.Each.{Each}
use Rattle.lk_types.specs.Grounding.{Grounding, under}
use Rattle.lk_types.specs.Levels.{built}
use Rattle.lk_types.specs.Levels as levels
use Rattle.lk_types.specs.Rows.{effects_of, label_order}
use Rattle.lk_types.specs.declared.ground.Ground.{Ground}
use Rattle.lk_types.specs.declared.levels.Level.{Level}
use Rattle.lk_types.specs.declared.levels.Level.TheVariants as level
use Rattle.lk_types.specs.declared.levels.LevelField.{LevelField}
use Rattle.lk_types.specs.declared.levels.LevelRow.{LevelRow}
use Rattle.lk_types.specs.declared.ty.Effect.{Effect}
use Rattle.lk_types.specs.declared.ty.Effects.{Effects}
use Rattle.lk_types.specs.declared.ty.RowTail.{RowTail}
use Rattle.lk_types.specs.declared.ty.RowTail.TheVariants.{Closed, Var}
use Rattle.lk_types.specs.declared.ty.Ty.{Ty}
use Rattle.lk_ground_types.specs.Bound.{grounding_in, is_listed}
use Rattle.lk_ground_types.specs.Grounds.{Parts, at, parts_in}
use Rattle.lk_ground_types.specs.Made.{IsIfThere}
use Rattle.lk_ground_types.specs.declared.bindings.Bindings.{Bindings}
use Rattle.lk_ground_types.specs.declared.ground_level.GroundLevel.{GroundLevel}
use Rattle.lk_ground_types.specs.declared.ground_level.GroundPart.{GroundPart}
use Rattle.lk_ground_types.specs.declared.ground_level.GroundLevel.TheVariants as ground

abbrev pub number_at : List ℕ → ℕ → ℕ
number_at ns n = slice_index_or ns n 0

-- what stands for the variable of a type, by number
abbrev pub bound_number : Bindings → Level → Option ℕ
bound_number b (level.Var n) = get nat_cmp b.plain n
bound_number b other = None

abbrev pub bound_row : Bindings → RowTail → Parts
bound_row b Closed = fin.empty
bound_row b (Var n) = unwrap_or (get nat_cmp b.rows n) fin.empty

abbrev pub bound_effects : Bindings → RowTail → List Effect
bound_effects b Closed = []
bound_effects b (Var n) = unwrap_or (get nat_cmp b.effects n) []

-- the row with these fields put before it, the last one first
abbrev pub fields_put : List ℕ → List LevelField → Parts → Parts
fields_put ns [] row = row
fields_put ns (f ∷ fs) row = fin.insert (fields_put ns fs row) f.label (number_at ns f.part)

-- the label is below that of the field behind it, if there is one
abbrev pub IsLabelBelow : LevelField → Option LevelField → Type 0
IsLabelBelow f None = Unit {0}
IsLabelBelow f (Some g) = label_order f.label g.label ≡ Less

-- the labels rise, as they do wherever types were read back
abbrev pub AreRising : List LevelField → Type 0
AreRising [] = Unit {0}
AreRising (f ∷ fs) = IsLabelBelow f (slice_get fs 0) × AreRising fs

abbrev pub part_at : List ℕ → LevelField → GroundPart
part_at ns f = record { label = f.label; part = number_at ns f.part }

abbrev pub row_made : Bindings → List ℕ → LevelRow → Parts
row_made b ns row = fields_put ns row.fields (bound_row b row.tail)

abbrev pub effects_made : Bindings → Effects → List Effect
effects_made b es = effects_of (λ e. is_listed es.labels e || is_listed (bound_effects b es.tail) e)

-- the level of ground types, `()` for a variable
abbrev pub level_of : Bindings → List ℕ → Level → GroundLevel
level_of b ns level.Int = ground.Int
level_of b ns level.Bool = ground.Bool
level_of b ns level.Text = ground.Text
level_of b ns (level.List n) = ground.List (number_at ns n)
level_of b ns (level.Fields row) = ground.Fields (parts_in (row_made b ns row))
level_of b ns (level.Tags row) = ground.Tags (parts_in (row_made b ns row))
level_of b ns (level.Fun params es n) = ground.Fun (map (number_at ns) params) (effects_made b es) (number_at ns n)
level_of b ns (level.Var n) = ground.Fields []

-- these numbers stand for what these types become
abbrev pub Stand : Grounding → List Ground → List Ty → List ℕ → Type 0
Stand σ ts types ns = (i : ℕ) → i < length ns → IsIfThere (under σ (levels.at types i)) (at ts (number_at ns i))

-- what levels become, in a table that began as the first one
pub record AreGround (b : Bindings) (first ts : List Ground) (all : List Level) (ns : List ℕ) : Type 0 where
  pub grown : (rest : List Ground) × (ts ≡ first ++ rest)
  pub count : length ns ≡ length all
  pub within : Each (λ n. n < length ts) ns
  pub stand : Stand (grounding_in first b) ts (built all) ns
