-- The type of `main`: it takes a text.
use Rattle.std.specs.Prelude.{List, [], ◌∷◌}
use Rattle.lk_types.specs.declared.ground.Ground.{Ground}
use Rattle.lk_types.specs.declared.ground.Ground.TheVariants as known
use Rattle.lk_types.specs.declared.ty.Effect.{Effect}

-- a function of a text with these effects and that answer
abbrev pub of_text : List Effect → Ground → Ground
of_text effects answer = known.Fun (known.Text ∷ []) effects answer
