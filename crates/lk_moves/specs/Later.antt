-- Where an evaluation comes to from a run: behind what was logged, at numbers that never fall.
use Rattle.std.specs.Prelude.{◌≡◌, ℕ, ◌≤◌, List, [], ◌∷◌, ◌++◌}
use Rattle.lk_evaluation.specs.Laws.{run_of}
use Rattle.lk_evaluation.specs.Run.{Entry, Run, Out}

-- entries whose numbers never fall, from the first number to the last
abbrev pub Rise : ℕ → List Entry → ℕ → Type 0
Rise first [] last = first ≤ last
Rise first (entry ∷ log) last = (first ≤ entry.number) × Rise entry.number log last

-- the run's log begins with this one, and what is behind it rises from this number to the run's steps
pub record Reaches (first : ℕ) (log : List Entry) (r : Run) : Type 0 where
  pub more : List Entry
  pub logged : r.log ≡ log ++ more
  pub rise : Rise first more r.steps

-- What comes of a run is later than it: it has added to the log, with numbers from this one on.
abbrev pub Later : ℕ → Run → {A : Type 0} → Out A → Type 0
Later first r out = Reaches first r.log (run_of out)
