-- What function types say.
use Rattle.std.specs.Prelude.{List, []}
use Rattle.lk_types.specs.declared.ground.Ground.{Ground, out-Ground}
use Rattle.lk_types.specs.declared.ground.Ground.TheOpen.{Ground-F}
use Rattle.lk_types.specs.declared.ground.GroundField.{GroundField}
use Rattle.lk_types.specs.declared.ty.Effect.{Effect}

abbrev pub effects_level : Ground-F Ground GroundField → List Effect
effects_level (Ground-F.Fun params effects answer) = effects
effects_level other = []

-- the effects of a function type
abbrev pub effects_in : Ground → List Effect
effects_in t = effects_level (out-Ground t)
