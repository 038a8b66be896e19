-- What a type says of its variables, once it is known what it becomes.
use Rattle.std.specs.Prelude.{◌≡◌, List, length}
use Rattle.lk_types.specs.Each.{Each}
use Rattle.lk_types.specs.Grounding.{Grounding}
use Rattle.lk_types.specs.declared.ty.Variable.{Variable}
use Rattle.lk_types.specs.declared.ty.Variable.TheVariants as variable
use Rattle.lk_types.specs.declared.ground.Ground.{Ground}
use Rattle.lk_ground_types.specs.Bound.{AreWithin, grounding_in}
use Rattle.lk_ground_types.specs.Least.{IsAmong}
use Rattle.lk_ground_types.specs.declared.bindings.Bindings.{Bindings}

-- the same stands for a variable
abbrev pub IsSameAt : Grounding → Grounding → Variable → Type 0
IsSameAt τ σ (variable.Plain n) = τ.plain n ≡ σ.plain n
IsSameAt τ σ (variable.Row n) = τ.rows n ≡ σ.rows n
IsSameAt τ σ (variable.Effects n) = τ.effects n ≡ σ.effects n

-- A step in which what stands for these variables, and for no others, becomes what stands for them wherever something holds.
pub record Binds (xs : List Variable) (Holds : Grounding → Type 0) (old new : Grounding) : Type 0 where
  pub kept : (x : Variable) → (IsAmong xs x → ⊥) → IsSameAt new old x
  pub bound : (σ : Grounding) → Holds σ → Each (IsSameAt new σ) xs

-- the same of bindings by numbers of these types; where something holds, the numbers stay within the table
pub record BindsIn (ts : List Ground) (Within : Type 0) (xs : List Variable) (Holds : Grounding → Type 0) (old new : Bindings) : Type 0 where
  pub binds : Binds xs Holds (grounding_in ts old) (grounding_in ts new)
  pub within : Within → AreWithin (length ts) old → AreWithin (length ts) new
