-- Stretches of evaluations. Several steps of an evaluation are said at once: what they take and what they log, whatever is left
-- for what comes behind them and whatever came before.
use Rattle.std.specs.Prelude.{◌≡◌, ℕ, ◌+◌, List, [], ◌++◌, None}
use Rattle.lk_ast.specs.declared.table.Row.{Row}
use Rattle.lk_ast.specs.declared.value.Value.{Value}
use Rattle.lk_evaluation.specs.Laws.{moved}
use Rattle.lk_evaluation.specs.Run.{Entry, Run, Out}

-- what comes of a run
abbrev pub Evaluation : Type 0
Evaluation = Run → Out Value

-- the fuel and the steps that a stretch takes, what it logs, with numbers from its own start, and the answers that it reads
pub record Course : Type 0 where
  pub fuel : ℕ
  pub steps : ℕ
  pub log : List Entry
  pub answers : List (List Row)

-- a run that has what the stretch needs besides
abbrev pub before : Course → Run → Run
before c r = record r { fuel = c.fuel + r.fuel; answers = c.answers ++ r.answers }

-- the run behind the stretch
abbrev pub after : Course → Run → Run
after c r = record r { steps = r.steps + c.steps; log = r.log ++ moved r.steps c.log }

-- One evaluation is another one behind this stretch: with all fuel, answers and returns that are left, and after all that came before.
abbrev pub Takes : Evaluation → Course → Evaluation → Type 0
Takes from c to = (r : Run) → from (before c r) ≡ to (after c r)

-- the same of whole evaluations alone
abbrev pub TakesWhole : Evaluation → Course → Evaluation → Type 0
TakesWhole from c to = (r : Run) → r.returns ≡ None → from (before c r) ≡ to (after c r)

abbrev pub nothing : Course
nothing = record { fuel = 0; steps = 0; log = []; answers = [] }

abbrev pub one_step : Course
one_step = record { fuel = 0; steps = 1; log = []; answers = [] }

-- a point is entered
abbrev pub entering : Course
entering = record { fuel = 1; steps = 1; log = []; answers = [] }

-- one stretch and then another
abbrev pub followed : Course → Course → Course
followed c d = record { fuel = c.fuel + d.fuel; steps = c.steps + d.steps; log = c.log ++ moved c.steps d.log; answers = c.answers ++ d.answers }
