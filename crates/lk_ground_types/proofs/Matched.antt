-- Matching by numbers: what is bound, and that the numbers stay within the table.
use Rattle.std.proofs.Common.{ℕ, List, length}
use Rattle.lk_types.specs.declared.ground.Ground.{Ground}
use Rattle.lk_types.specs.declared.ty.TyField.{TyField}
use Rattle.lk_ground_types.proofs.Arms.{Taken}
use Rattle.lk_ground_types.specs.Bound.{AreWithin, IsRowWithin, grounding_in}
use Rattle.lk_ground_types.specs.Grounds.{Parts, row_in}
use Rattle.lk_ground_types.specs.declared.bindings.Bindings.{Bindings}

-- so many fields have been taken
pub record TakenIn (ts : List Ground) (fs : List TyField) (first : Parts) (i : ℕ) (rest : Parts) (a b : Bindings) : Type 0 where
  pub taken : Taken fs (row_in ts first) i (row_in ts rest) (grounding_in ts a) (grounding_in ts b)
  pub fits : IsRowWithin (length ts) first → IsRowWithin (length ts) rest
  pub within : IsRowWithin (length ts) first → AreWithin (length ts) a → AreWithin (length ts) b
