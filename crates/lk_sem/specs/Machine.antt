-- What the evaluator's frames still do, and what its steps keep.
use Rattle.std.specs.Prelude.{◌≡◌, ℕ, ◌+◌, ◌*◌, ◌<◌, ◌≤◌, List, [], ◌∷◌, ◌++◌, None, length, reverse, map}
use Rattle.lk_ast.specs.declared.declaration.Program.{Program}
use Rattle.lk_ast.specs.declared.event.Event.{Event}
use Rattle.lk_ast.specs.declared.event.Event.TheVariants as event
use Rattle.lk_ast.specs.declared.table.Row.{Row}
use Rattle.lk_ast.specs.declared.value.Value.{Value}
use Rattle.lk_locals.specs.Names.{bind}
use Rattle.lk_evaluation.specs.Evaluation.{Reading, Writing, eval, used}
use Rattle.lk_evaluation.specs.Run.{Run, Out, Goes, Stops, Spent, and_then, answers_in, events_of}
use Rattle.lk_evaluation.specs.Source.{Point, under, source}
use Rattle.lk_sound.specs.Histories.{GoesQuietly}
use Rattle.lk_sem.specs.Ends.{stop_of}
use Rattle.lk_sem.specs.Frames as spec
use Rattle.lk_sem.specs.declared.machine.Frame.{Frame}
use Rattle.lk_sem.specs.declared.machine.Frame.TheVariants.{Part, Turn, Back}
use Rattle.lk_sem.specs.declared.machine.Machine.{Machine}
use Rattle.lk_sem.specs.declared.machine.Next.{Next}
use Rattle.lk_sem.specs.declared.machine.Next.TheVariants.{Enter, Give, Read, Write, Stop}
use Rattle.lk_sem.specs.declared.machine.Turns.{Turns}

-- the bodies for the elements that are left
abbrev pub bodies : Turns → List Point
bodies t = map (λ v. under (bind t.name.now v t.scope) t.body.now) (reverse t.left)

-- the frame that a frame of the evaluator stands for
abbrev pub frame_of : Frame → spec.Frame Point
frame_of (Part w) = spec.Part (under w.scope w.expr.now) w.done w.place
frame_of (Turn t) = spec.Turn t.at (under t.scope t.body.now) (bodies t) t.place t.made
frame_of (Back place) = spec.Back place

-- what a frame does with the value that it waits for
abbrev pub frame_rest : Program → Frame → Value → Run → Out Value
frame_rest p frame = spec.continued (source p) (frame_of frame)

-- an outcome, and then what the frames of the stack do, the last first
abbrev pub wound : Program → List Frame → Out Value → Out Value
wound p frames out = spec.wound (source p) (map frame_of frames) out

abbrev pub outcome : Program → Next → Run → Out Value
outcome p (Enter e scope place) r = eval (source p) (under scope e.now) place r
outcome p (Give v) r = Goes v r
outcome p (Read back site args) r = and_then (used (Reading site args) r) (spec.returned back)
outcome p (Write back site args) r = and_then (used (Writing site args) r) (spec.returned back)
outcome p (Stop halt) r = Stops (stop_of halt) r

-- ---- logs

-- one more event, the answer of a reading
abbrev pub after_read : ℕ → List Value → List Row → Machine → Machine
after_read site args answer m = record m { log = m.log ++ event.Read (record { site = site; args = args; answer = answer }) ∷ [] }

-- one more event, a writing
abbrev pub after_write : ℕ → List Value → Machine → Machine
after_write site args m = record m { log = m.log ++ event.Write (record { site = site; args = args }) ∷ [] }

-- ---- steps

-- the machine's events are those of this run of a whole evaluation, and so is its fuel, but for so many units that the run has less
pub record Shows (m : Machine) (less : ℕ) (r : Run) : Type 0 where
  pub fuel : r.fuel + less ≡ m.fuel
  pub log : events_of r.log ≡ m.log
  pub whole : r.returns ≡ None

-- it ends for want of fuel, with first events of these
pub record EndsEarly (log : List Event) (out : Out Value) : Type 0 where
  pub last : Run
  pub spent : out ≡ Stops Spent last
  pub more : List Event
  pub is : log ≡ events_of last.log ++ more

-- What `todo` and then the frames of the old machine do is what comes next and then the frames of the new one do. The answers that
-- are left stay, and nothing is logged of tables. So it is with less fuel, too, as long as there is some for what was done; with still
-- less it ends early.
pub record Leads (p : Program) (old : Machine) (todo : Run → Out Value) (new : Machine) (next : Next) : Type 0 where
  pub runs : (less : ℕ) (r : Run) → less ≤ new.fuel → Shows old less r
      → (s : Run) × Shows new less s × (s.answers ≡ r.answers) × (wound p old.stack (todo r) ≡ wound p new.stack (outcome p next s))
  pub early : (less : ℕ) (r : Run) → new.fuel < less → Shows old less r → EndsEarly new.log (wound p old.stack (todo r))
  pub quiet : GoesQuietly old.log new.log
  pub fuel : new.fuel ≤ old.fuel

-- The same from the beginning, where no frame of the old machine waits, over the answers of the readings in the new log and any
-- others behind them, which are left.
pub record LeadsWhole (p : Program) (old : Machine) (todo : Run → Out Value) (new : Machine) (next : Next) : Type 0 where
  pub runs : (less : ℕ) (r : Run) (later : List (List Row)) → less ≤ new.fuel → Shows old less r → r.answers ≡ answers_in new.log ++ later
      → (s : Run) × Shows new less s × (s.answers ≡ later) × (todo r ≡ wound p new.stack (outcome p next s))
  pub early : (less : ℕ) (r : Run) (later : List (List Row)) → new.fuel < less → Shows old less r → r.answers ≡ answers_in new.log ++ later → EndsEarly new.log (todo r)
  pub fuel : new.fuel ≤ old.fuel

-- how long the machine may still go on
abbrev pub weight : Machine → Next → ℕ
weight m (Enter e scope place) = 4 * m.fuel + 2 * length m.stack + 1
weight m (Give v) = 4 * m.fuel + 2 * length m.stack + 2
weight m (Read back site args) = 4 * m.fuel + 2 * length m.stack + 3
weight m (Write back site args) = 4 * m.fuel + 2 * length m.stack + 3
weight m (Stop halt) = 0

-- after a move there is at most this much to go on
abbrev pub Falls : Machine → Machine → Next → Type 0
Falls old new next = weight new next ≤ 4 * old.fuel + 2 * length old.stack + 3
