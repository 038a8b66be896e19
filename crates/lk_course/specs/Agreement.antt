-- The agreement of events with an evaluation.
use Rattle.std.specs.Prelude.{◌≡◌, ℕ, List, []}
use Rattle.lk_ast.specs.declared.event.Event.{Event}
use Rattle.lk_ast.specs.declared.event.Trap.{Trap}
use Rattle.lk_ast.specs.declared.value.Value.{Value}
use Rattle.lk_evaluation.specs.Laws.{HasBegun}
use Rattle.lk_evaluation.specs.Run.{Goes, Run, Stops, Trapped, answers_in, events_of, start}
use Rattle.lk_moves.specs.Courses.{Evaluation}

-- what is said of the end of a session: its value, its trap, or nothing
pub data Ending : Type 0 where
  Done : (value : Value) → Ending
  Failed : (trap : Trap) → Ending
  Unfinished : Ending

-- The evaluation over the answers of the readings among these events comes, with some fuel, to this outcome; these are its events, and
-- all of the answers are used.
pub record HasEnded (evaluation : Evaluation) (events : List Event) (outcome : Evaluation) : Type 0 where
  pub fuel : ℕ
  pub last : Run
  pub end : evaluation (start fuel (answers_in events)) ≡ outcome last
  pub answers : last.answers ≡ []
  pub log : events_of last.log ≡ events

-- with some fuel, the evaluation has these events first
abbrev pub HasCome : Evaluation → List Event → Type 0
HasCome evaluation events = (fuel : ℕ) × HasBegun evaluation fuel events

-- The events of a session agree with its evaluation: they are all of its events where it is said to have ended, and end as is said; else
-- they are its first ones.
abbrev pub Agrees : Evaluation → List Event → Ending → Type 0
Agrees evaluation events (Done v) = HasEnded evaluation events (Goes v)
Agrees evaluation events (Failed trap) = HasEnded evaluation events (Stops (Trapped trap))
Agrees evaluation events Unfinished = HasCome evaluation events
