-- What an operation gives where its operands have their types: a value of the type, or a trap.
use Rattle.std.specs.Prelude.{ℕ, List}
use Rattle.lk_operators.specs.declared.outcome.Outcome.{Outcome}
use Rattle.lk_operators.specs.declared.outcome.Outcome.TheVariants as outcome
use Rattle.lk_types.specs.declared.ground.Ground.{Ground}
use Rattle.lk_fits.specs.Values.{Fits}

abbrev pub IsResult : (ℕ → Ground → List Ground → Type 0) → Ground → Outcome → Type 0
IsResult IsFun t (outcome.Value v) = Fits IsFun v t
IsResult IsFun t (outcome.Trap trap) = Unit {0}
IsResult IsFun t outcome.NoRule = ⊥
