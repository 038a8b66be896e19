-- Values that fit all classes.
use Rattle.std.specs.Prelude.{◌≡◌, ℕ, ◌<◌, List, length}
use Rattle.lk_classes.specs.Classes.{class_at}
use Rattle.lk_types.specs.Rows.{Row, EffectSet}
use Rattle.lk_types.specs.declared.ground.Ground.{Ground}
use Rattle.lk_types.specs.declared.ty.RowTail.TheVariants.{Closed, Var}
use Rattle.lk_types.specs.declared.ty.Ty.TheVariants as ty
use Rattle.lk_arena.specs.Kinds.{Kind, OfTypes, OfFields, OfEffects, OfUnit, OfNothing, AreKinded}
use Rattle.lk_arena.specs.Openings.{only_tail, unit_type, as_type, as_row, as_effects}
use Rattle.lk_arena.specs.Order.{IsRanked}
use Rattle.lk_arena.specs.Shapes.{shape_at, IsArena, IsClean, WeakNodes}
use Rattle.lk_arena.specs.Values.{Value, Plain, OfRow, effect_row}
use Rattle.lk_arena.specs.declared.node.Shape.{Shape}
use Rattle.lk_arena.specs.declared.node.Shape.TheVariants.{Free, Open}

-- ---- without variables

-- the value is one of this kind, and has no variables
abbrev pub IsGroundOf : Kind → Value → Type 0
IsGroundOf OfTypes x = (t : Ground) × (x ≡ Plain (as_type t))
IsGroundOf OfFields x = (m : Row) × (x ≡ OfRow (as_row m))
IsGroundOf OfEffects x = (s : EffectSet) × (x ≡ OfRow (effect_row (as_effects s)))
IsGroundOf OfUnit x = x ≡ Plain unit_type
IsGroundOf OfNothing x = x ≡ OfRow (only_tail Closed)

-- values that fit, which have no variables
abbrev pub HasGroundModel : List Shape → List ℕ → (ℕ → Kind) → Type 0
HasGroundModel shapes classes kind = (v : ℕ → Value) × WeakNodes shapes classes v × ((i : ℕ) → i < length shapes → IsGroundOf (kind i) (v i))

-- where the kinds fit, the classes have ranks and no row has a label twice there are such values
abbrev pub GroundModelExists : Type 0
GroundModelExists =
    (shapes : List Shape) (classes : List ℕ) (kind : ℕ → Kind) (rank : ℕ → ℕ) →
    IsArena shapes classes → AreKinded shapes classes kind → IsRanked shapes classes rank → IsClean shapes classes → HasGroundModel shapes classes kind

-- ---- with a variable for each class of which nothing is known

-- values that fit, where each class of which nothing is known is a variable, by this name
pub record IsOwn (shapes : List Shape) (classes : List ℕ) (name : ℕ → ℕ) (u : ℕ → Value) : Type 0 where
  pub fits : WeakNodes shapes classes u
  pub types : (i : ℕ) → i < length shapes → class_at classes i ≡ i → shape_at shapes i ≡ Free → u i ≡ Plain (ty.Var (name i))
  pub rows : (i : ℕ) → i < length shapes → class_at classes i ≡ i → shape_at shapes i ≡ Open → u i ≡ OfRow (only_tail (Var (name i)))

-- where the kinds fit and some values fit, these do
abbrev pub OwnModelExists : Type 0
OwnModelExists =
    (shapes : List Shape) (classes : List ℕ) (kind : ℕ → Kind) (rank : ℕ → ℕ) (name : ℕ → ℕ) (v : ℕ → Value) →
    IsArena shapes classes → AreKinded shapes classes kind → IsRanked shapes classes rank → WeakNodes shapes classes v → (u : ℕ → Value) × IsOwn shapes classes name u

-- where values fit, a class that is larger than its parts stands above them
abbrev pub RanksExist : Type 0
RanksExist =
    (shapes : List Shape) (classes : List ℕ) (v : ℕ → Value) → IsArena shapes classes → WeakNodes shapes classes v → (rank : ℕ → ℕ) × IsRanked shapes classes rank
