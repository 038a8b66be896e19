-- What the loop of an evaluation rests on, what it keeps, and what it comes to.
use Rattle.std.specs.Prelude.{◌≡◌, ℕ, ◌-◌, ◌≤◌, false, List, Option}
use Rattle.lk_ast.specs.Plain.{holds_function}
use Rattle.lk_ast.specs.Tables.{Tables}
use Rattle.lk_ast.specs.declared.declaration.Program.{Program}
use Rattle.lk_ast.specs.declared.table.Row.{Row}
use Rattle.lk_ast.specs.declared.value.Value.{Value}
use Rattle.lk_evaluation.specs.Laws.{HasBegun}
use Rattle.lk_evaluation.specs.Run.{Run, Out, start}
use Rattle.lk_sem.specs.Machine.{LeadsWhole}
use Rattle.lk_sem.specs.SourceRuns.{IsPlainRun, IsRunBy}
use Rattle.lk_sem.specs.declared.machine.Machine.{Machine}
use Rattle.lk_sem.specs.declared.machine.Next.{Next}
use Rattle.lk_sem.specs.declared.run.SourceEnd.{SourceEnd}
use Rattle.lk_sem.specs.declared.run.SourceRun.{SourceRun}
use Rattle.lk_sound.specs.Histories.{AreFit, HasAnswer, HasHistory, HasPast, KeepsOthers}
use Rattle.lk_sound.specs.Instances.{Instances}
use Rattle.lk_sound.specs.Law.{AreAnswered}
use Rattle.lk_sound.specs.Outcomes.{IsOutcome}
use Rattle.lk_types.specs.Each.{Each}
use Rattle.lk_types.specs.Rows.{EffectSet}

-- whatever the readings are answered, as long as it is over tables that fit, the evaluation comes to a value without functions, or
-- stops for a reason that some effects allow, and logs nothing else than they allow, where functions are used at some instances
pub record IsSound (p : Program) (evaluation : Run → Out Value) (fuel : ℕ) : Type 0 where
  pub instances : Instances
  pub effects : EffectSet
  pub outcome : (answers : List (List Row)) → AreAnswered p (evaluation (start fuel answers)) → IsOutcome p instances effects (λ v. holds_function v ≡ false) (start fuel answers) (evaluation (start fuel answers))

-- The machine shows the evaluation from the first machine, its readings were answered over tables that fit, and its events led from
-- the old tables to the present ones, which fit, and of which those that the program doesn't declare are as they were.
pub record Stands (p : Program) (first : Machine) (evaluation : Run → Out Value) (old now : Option Tables) (m : Machine) (next : Next) : Type 0 where
  pub leads : LeadsWhole p first evaluation m next
  pub answered : Each (HasAnswer p) m.log
  pub past : HasPast p old now m.log
  pub fit : AreFit p now
  pub others : KeepsOthers p old now

-- the run of a machine with such an end, from that much fuel
abbrev pub run_to : ℕ → Machine → SourceEnd → SourceRun
run_to fuel m end = record { end = end; log = m.log; used = fuel - m.fuel }

-- what the loop comes to
pub record Ends (p : Program) (evaluation : Run → Out Value) (fuel : ℕ) (old now : Option Tables) (m : Machine) (end : SourceEnd) : Type 0 where
  pub left : m.fuel ≤ fuel
  pub run : IsRunBy p evaluation fuel now (run_to fuel m end) end
  pub begun : HasBegun evaluation fuel m.log
  pub answered : Each (HasAnswer p) m.log
  pub history : HasHistory p old now m.log
  pub others : KeepsOthers p old now
  pub plain : IsPlainRun (run_to fuel m end)
