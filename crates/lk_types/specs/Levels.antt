-- Types as levels whose parts are named by their places, so that what stands in several types, or several times in one, is there once.
use Rattle.std.specs.Prelude.{◌≡◌, ℕ, ◌+◌, ◌<◌, Bool, false, true, List, [], ◌∷◌, ◌++◌, Some, fold, length, map, slice_get, slice_index_or}
use Rattle.lk_types.specs.Each.{Each, OneOf}
use Rattle.lk_types.specs.declared.levels.Level.{Level}
use Rattle.lk_types.specs.declared.levels.Level.TheVariants as level
use Rattle.lk_types.specs.declared.levels.LevelField.{LevelField}
use Rattle.lk_types.specs.declared.levels.LevelRow.{LevelRow}
use Rattle.lk_types.specs.declared.ty.Ty.{Ty}
use Rattle.lk_types.specs.declared.ty.Ty.TheVariants as ty
use Rattle.lk_types.specs.declared.ty.TyField.{TyField}
use Rattle.lk_types.specs.declared.ty.TyRow.{TyRow, roll-TyRow}

-- the type at a place
abbrev pub at : List Ty → ℕ → Ty
at ts n = slice_index_or ts n ty.Int

abbrev pub field_made : List Ty → LevelField → TyField
field_made ts f = record { label = f.label; ty = at ts f.part }

abbrev pub row_made : List Ty → LevelRow → TyRow
row_made ts row = roll-TyRow (record { fields = map (field_made ts) row.fields; tail = row.tail })

-- the type that a level makes, where these are the types at the places
abbrev pub made : List Ty → Level → Ty
made ts level.Int = ty.Int
made ts level.Bool = ty.Bool
made ts level.Text = ty.Text
made ts (level.List n) = ty.List (at ts n)
made ts (level.Fields row) = ty.Fields (row_made ts row)
made ts (level.Tags row) = ty.Tags (row_made ts row)
made ts (level.Fun params es n) = ty.Fun (map (at ts) params) es (at ts n)
made ts (level.Var n) = ty.Var n

abbrev pub with_level : List Ty → Level → List Ty
with_level ts l = ts ++ made ts l ∷ []

-- the types that levels make, each with those before it
abbrev pub built : List Level → List Ty
built levels = fold with_level [] levels

abbrev pub types_at : List Level → List ℕ → List Ty
types_at levels roots = map (at (built levels)) roots

-- ---- parts stand before what they are parts of

abbrev pub row_parts : LevelRow → List ℕ
row_parts row = map (λ f. f.part) row.fields

abbrev pub parts_of : Level → List ℕ
parts_of (level.List n) = n ∷ []
parts_of (level.Fields row) = row_parts row
parts_of (level.Tags row) = row_parts row
parts_of (level.Fun params es n) = n ∷ params
parts_of other = []

abbrev pub IsBelow : ℕ → Level → Type 0
IsBelow k l = Each (λ n. n < k) (parts_of l)

abbrev pub AreBelow : List Level → Type 0
AreBelow levels = (k : ℕ) (l : Level) → slice_get levels k ≡ Some l → IsBelow k l

-- a table of types: parts stand before, and there is a type at each root
pub record IsTable (levels : List Level) (roots : List ℕ) : Type 0 where
  pub below : AreBelow levels
  pub roots_below : Each (λ n. n < length levels) roots

-- the level at a place stands in one of the types: it is one of them, or a part of a level that does
pub data Stands (levels : List Level) (roots : List ℕ) : ℕ → Type 0 where
  root : {n : ℕ} → OneOf (λ r. r ≡ n) roots → Stands levels roots n
  part : {n k : ℕ} {l : Level} → Stands levels roots k → slice_get levels k ≡ Some l → OneOf (λ p. p ≡ n) (parts_of l) → Stands levels roots n

-- which levels stand in the types
pub record AreMarked (levels : List Level) (roots : List ℕ) (marks : List Bool) : Type 0 where
  pub long : length marks ≡ length levels
  pub sound : (n : ℕ) → slice_index_or marks n false ≡ true → Stands levels roots n
  pub whole : (n : ℕ) → Stands levels roots n → slice_index_or marks n false ≡ true

-- ---- the same levels with other places for their parts

abbrev pub field_renumbered : (ℕ → ℕ) → LevelField → LevelField
field_renumbered number f = record { label = f.label; part = number f.part }

abbrev pub row_renumbered : (ℕ → ℕ) → LevelRow → LevelRow
row_renumbered number row = record { fields = map (field_renumbered number) row.fields; tail = row.tail }

abbrev pub level_renumbered : (ℕ → ℕ) → Level → Level
level_renumbered number (level.List n) = level.List (number n)
level_renumbered number (level.Fields row) = level.Fields (row_renumbered number row)
level_renumbered number (level.Tags row) = level.Tags (row_renumbered number row)
level_renumbered number (level.Fun params es n) = level.Fun (map number params) es (number n)
level_renumbered number other = other

-- each place is moved up
abbrev pub level_moved : ℕ → Level → Level
level_moved by l = level_renumbered (λ p. by + p) l
