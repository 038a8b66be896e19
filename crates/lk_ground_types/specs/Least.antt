-- What stands for the variables of a type, where as little as possible stands for those that nothing is said of: `()` for a
-- type, no fields and no effects.
use Rattle.std.specs.Prelude.{◌≡◌, ℕ, List, []}
use Rattle.lk_types.specs.Each.{OneOf}
use Rattle.lk_types.specs.Grounding.{Grounding}
use Rattle.lk_types.specs.Rows.{no_fields, no_effects}
use Rattle.lk_types.specs.declared.ground.Ground.{Ground}
use Rattle.lk_types.specs.declared.ground.Ground.TheVariants as known
use Rattle.lk_types.specs.declared.ty.Variable.{Variable}
use Rattle.lk_types.specs.declared.ty.Variable.TheVariants as variable

-- the type of `()`
abbrev pub unit : Ground
unit = known.Fields []

abbrev pub least : Grounding
least = record { plain = λ n. unit; rows = λ n. no_fields; effects = λ n. no_effects }

-- this variable among these
abbrev pub IsAmong : List Variable → Variable → Type 0
IsAmong xs x = OneOf (λ y. y ≡ x) xs

-- the least stands for each variable that isn't among these
pub record IsLeastBut (xs : List Variable) (τ : Grounding) : Type 0 where
  pub plain : (n : ℕ) → (IsAmong xs (variable.Plain n) → ⊥) → τ.plain n ≡ unit
  pub rows : (n : ℕ) → (IsAmong xs (variable.Row n) → ⊥) → τ.rows n ≡ no_fields
  pub effects : (n : ℕ) → (IsAmong xs (variable.Effects n) → ⊥) → τ.effects n ≡ no_effects

-- the same stands for these variables
pub record AreSameAt (xs : List Variable) (τ σ : Grounding) : Type 0 where
  pub plain : (n : ℕ) → IsAmong xs (variable.Plain n) → τ.plain n ≡ σ.plain n
  pub rows : (n : ℕ) → IsAmong xs (variable.Row n) → τ.rows n ≡ σ.rows n
  pub effects : (n : ℕ) → IsAmong xs (variable.Effects n) → τ.effects n ≡ σ.effects n
