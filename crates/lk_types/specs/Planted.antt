-- Levels to which those of a type are added.
use Rattle.std.specs.Prelude.{◌≡◌, ℕ, ◌<◌, List, [], ◌∷◌, ◌++◌, length}
use Rattle.lk_types.specs.Each.{Each}
use Rattle.lk_types.specs.Levels.{at, built, AreBelow}
use Rattle.lk_types.specs.declared.levels.Level.{Level}
use Rattle.lk_types.specs.declared.ty.Ty.{Ty}

-- there are more levels, and these are places among them
pub record Grown (old new : List Level) (places : List ℕ) : Type 0 where
  pub more : (rest : List Level) × (new ≡ old ++ rest)
  pub within : Each (λ p. p < length new) places
  pub below : AreBelow old → AreBelow new

-- the type is made there
pub record IsPlanted (old new : List Level) (place : ℕ) (t : Ty) : Type 0 where
  pub grown : Grown old new (place ∷ [])
  pub is : at (built new) place ≡ t
