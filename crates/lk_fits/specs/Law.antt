-- The laws of values and their types; their proofs stand in proofs/.
use Rattle.std.specs.Prelude.{◌≡◌, ◌↔◌, ℕ, List, Option, Some, length}
use Rattle.lk_ast.specs.declared.value.Value.{Value, out-Value}
use Rattle.lk_types.specs.declared.ground.Ground.{Ground, out-Ground}
use Rattle.lk_fits.specs.Levels.{IsOf}
use Rattle.lk_fits.specs.Values.{Fits, FitEach}

-- what a table tells of numbers: a type, and those of the values that are kept
abbrev pub Told : Type 0
Told = ℕ → Option (Ground × List Ground)

abbrev pub IsTold : Told → ℕ → Ground → List Ground → Type 0
IsTold told n t kept = ◌≡◌ {A = Option (Ground × List Ground)} (told n) (Some (t, kept))

abbrev pub LevelsLaw : Type 0
LevelsLaw = (told : Told) (v : Value) (t : Ground) → Fits (IsTold told) v t ↔ IsOf (IsTold told) (out-Value v) (out-Ground t)

abbrev pub LongLaw : Type 0
LongLaw = (told : Told) (values : List Value) (ts : List Ground) → FitEach (IsTold told) values ts → length values ≡ length ts
