-- A type by its levels as nodes: one for each level.
use Rattle.std.specs.List.{cons_option}
use Rattle.std.specs.Prelude.{◌≡◌, ℕ, ◌<◌, ◌≤◌, List, [], ◌∷◌, length, map, slice_index_or, Option, Some, None}
use Rattle.lk_types.specs.Each.{Each}
use Rattle.lk_types.specs.Variables.{tail_variable}
use Rattle.lk_types.specs.declared.levels.Level.{Level}
use Rattle.lk_types.specs.declared.levels.Level.TheVariants as level
use Rattle.lk_types.specs.declared.levels.LevelField.{LevelField}
use Rattle.lk_types.specs.declared.ty.Ty.{Ty}
use Rattle.lk_types.specs.declared.ty.Variable.{Variable}
use Rattle.lk_types.specs.declared.ty.Variable.TheVariants as variable
use Rattle.lk_arena.specs.Kinds.{Kind, OfTypes}
use Rattle.lk_arena.specs.Openings.{Opening}
use Rattle.lk_arena.specs.Shapes.{FitsNodes, WeakNodes}
use Rattle.lk_arena.specs.Values.{Value}
use Rattle.lk_arena.specs.declared.node.Field.{Field}
use Rattle.lk_unify.specs.Loading.{node_for, types_meaning, Agrees, Brings, BringsKinds, CoversBack, IsKinded, IsLoader, NeverMeans}
use Rattle.lk_unify.specs.declared.loader.Loader.{Loader}

-- A node more, on nodes of which is read what something becomes: where they are read as that, the node is what is meant. Their kinds
-- are such.
pub record LoadsOn {A : Type 0} (old new : Loader) (before : Opening → Option A) (read : (ℕ → Value) → A) (Such : (ℕ → Kind) → Type 0) (kind : Kind) (meaning : Opening → Option Value) (node : ℕ) : Type 0 where
  pub whole : IsLoader new
  pub longer : length old.arena.shapes ≤ length new.arena.shapes
  pub below : node < length new.arena.shapes
  pub kept : (x : Variable) (n : ℕ) → node_for old x ≡ Some n → node_for new x ≡ Some n
  pub kinds : (k : ℕ → Kind) → IsKinded old k → Such k → BringsKinds old new k (λ j. j node ≡ kind)
  pub back : (v : ℕ → Value) → WeakNodes new.arena.shapes new.arena.classes v → WeakNodes old.arena.shapes old.arena.classes v
  pub covers : CoversBack old new
  pub is : (v : ℕ → Value) (ρ : Opening) → WeakNodes new.arena.shapes new.arena.classes v → Agrees new ρ v → before ρ ≡ Some (read v) → meaning ρ ≡ Some (v node)
  pub forth : (v : ℕ → Value) (ρ : Opening) (x : Value) → FitsNodes old.arena.shapes old.arena.classes v → Agrees old ρ v → before ρ ≡ Some (read v) → meaning ρ ≡ Some x → Brings old new ρ v (λ w. w node) x

-- the node of a level
abbrev pub node_at : List ℕ → ℕ → ℕ
node_at nodes p = slice_index_or nodes p 0

abbrev pub level_field : List ℕ → LevelField → Field
level_field nodes f = record { label = f.label; node = node_at nodes f.part }

-- a node more, or none where it never becomes anything, on nodes of these types
abbrev pub LoadedOn : Loader → Loader → List Ty → List ℕ → Kind → (Opening → Option Value) → Option ℕ → Type 0
LoadedOn old new ts nodes kind meaning None = NeverMeans meaning
LoadedOn old new ts nodes kind meaning (Some n) = LoadsOn old new (types_meaning ts) (λ v. map v nodes) (λ j. Each (λ n. j n ≡ OfTypes) nodes) kind meaning n

-- the variables of a level itself
abbrev pub level_variables : Level → List Variable
level_variables (level.Fields row) = cons_option (tail_variable variable.Row row.tail) []
level_variables (level.Tags row) = cons_option (tail_variable variable.Row row.tail) []
level_variables (level.Fun params es n) = cons_option (tail_variable variable.Effects es.tail) []
level_variables (level.Var n) = variable.Plain n ∷ []
level_variables other = []
