-- What an operation gives where its operands have their types: a value of the type, or a trap that the effects allow.
use Rattle.std.specs.Prelude.{◌≡◌, true}
use Rattle.lk_ast.specs.declared.declaration.Program.{Program}
use Rattle.lk_operators.specs.declared.outcome.Outcome.{Outcome}
use Rattle.lk_operators.specs.declared.outcome.Outcome.TheVariants as outcome
use Rattle.lk_types.specs.Rows.{EffectSet}
use Rattle.lk_types.specs.declared.ground.Ground.{Ground}
use Rattle.lk_types.specs.declared.ty.Effect.TheVariants as effect
use Rattle.lk_sound.specs.Instances.{Instances}
use Rattle.lk_sound.specs.Values.{Fits}

abbrev pub IsResult : Program → Instances → EffectSet → Ground → Outcome → Type 0
IsResult p i effects t (outcome.Value v) = Fits p i v t
IsResult p i effects t (outcome.Trap trap) = effects effect.Trap ≡ true
IsResult p i effects t outcome.NoRule = ⊥
