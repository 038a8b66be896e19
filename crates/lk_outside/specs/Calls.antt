-- The calls made of a form in memory, and which of them fail.
use Rattle.std.specs.Prelude.{ℕ, List, Contains}
use Rattle.lk_outside.specs.Causes.{next_count}

-- which calls are to fail, by their numbers from 0, and how many were made
pub record Calls : Type 0 where
  pub failing : List ℕ
  pub made : ℕ

-- the next call is to fail
abbrev pub NextFails : Calls → Type 0
NextFails calls = Contains calls.failing calls.made

-- the calls after one more
abbrev pub calls_after : Calls → Calls
calls_after calls = record calls { made = next_count calls.made }
