-- One type by levels, and its levels with other numbers for its variables.
use Rattle.std.specs.Prelude.{ℕ, ◌<◌, List, [], ◌∷◌, length}
use Rattle.lk_types.specs.Levels.{IsTable, Stands}
use Rattle.lk_types.specs.Renamed.{effects_renamed, tail_renamed}
use Rattle.lk_types.specs.declared.levels.Level.{Level}
use Rattle.lk_types.specs.declared.levels.Level.TheVariants as level
use Rattle.lk_types.specs.declared.levels.LevelRow.{LevelRow}
use Rattle.lk_types.specs.declared.ty.Variable.{Variable}
use Rattle.lk_types.specs.declared.ty.Variable.TheVariants as variable

-- a table of one type, in which each level stands
pub record IsThin (levels : List Level) (root : ℕ) : Type 0 where
  pub table : IsTable levels (root ∷ [])
  pub stands : (n : ℕ) → n < length levels → Stands levels (root ∷ []) n

-- the number that each variable gets
module _ (place : Variable → ℕ) where
  abbrev pub level_row_renamed : LevelRow → LevelRow
  level_row_renamed row = record { fields = row.fields; tail = tail_renamed place variable.Row row.tail }

  abbrev pub level_renamed : Level → Level
  level_renamed (level.Fields row) = level.Fields (level_row_renamed row)
  level_renamed (level.Tags row) = level.Tags (level_row_renamed row)
  level_renamed (level.Fun params es n) = level.Fun params (effects_renamed place es) n
  level_renamed (level.Var v) = level.Var (place (variable.Plain v))
  level_renamed other = other
