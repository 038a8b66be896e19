-- What a step makes of what a machine has to do, by cases on its answer.
use Rattle.std.specs.Prelude.{◌≡◌, ◌⊎◌, ℕ, ◌+◌, ◌≤◌, List, [], ◌∷◌, Option, Some, None}
use Rattle.lk_ast.specs.declared.event.Event.TheVariants as event
use Rattle.lk_ast.specs.declared.place.Loc.TheVariants.{Client, Server}
use Rattle.lk_ast.specs.declared.value.Value.{Value}
use Rattle.lk_code.specs.Meaning.{does, rest}
use Rattle.lk_code.specs.declared.tables.CodeTables.{CodeTables}
use Rattle.lk_code.specs.declared.tables.Frame.{Frame}
use Rattle.lk_evaluation.specs.Run.{Entry, Goes, Run, Spent, Stops, Trapped, Within, and_then}
use Rattle.lk_moves.specs.Courses.{Course, Takes, nothing}
use Rattle.lk_moves.specs.Later.{Later}
use Rattle.lk_machine.specs.Going.{crossing, doing, given}
use Rattle.lk_machine.specs.declared.state.Next.{Next}
use Rattle.lk_machine.specs.declared.state.Next.TheVariants as next
use Rattle.lk_machine.specs.declared.state.Now.TheVariants as now
use Rattle.lk_machine.specs.declared.state.State.{State}

-- a text that is printed in a stretch of one step
abbrev pub prints : Option (List ℕ) → List Entry
prints None = []
prints (Some bytes) = record { number = 1; event = event.Print bytes; crossing = Within } ∷ []

-- one step, which takes a unit of fuel where it enters a node, and may print a text
pub record IsStep (printed : Option (List ℕ)) (c : Course) : Type 0 where
  pub fuel : c.fuel ≤ 1
  pub steps : c.steps ≡ 1
  pub log : c.log ≡ prints printed
  pub answers : c.answers ≡ []

-- the value is there, and only the return of the label that was called waits for it
abbrev pub IsReturning : State → Type 0
IsReturning m = (v : Value) × (f : Frame) × (m.now ≡ now.Give v) × (m.stack ≡ f ∷ [])

-- the machine was started with the label of what reads or changes tables, and has made no step
abbrev pub IsFirst : State → Type 0
IsFirst m = (label : ℕ) × (args : List Value) × (m.now ≡ now.First label args)

module _ (c : CodeTables) where
  -- The value is there without a step, and going back with it is the caller's; or, at the client, it comes with the step.
  abbrev pub IsEnded : State → State → Value → Type 0
  IsEnded old new v = (IsReturning old × ((r : Run) → doing c old r ≡ Goes v r)) ⊎ ((old.place ≡ Client) × (d : Course) × IsStep new.printed d × Takes (doing c old) d (Goes v))

  -- A step, or none where it is the first one of a label that was started.
  abbrev pub Asks : State → State → ℕ → List Value → Type 0
  Asks old new label args = (d : Course) × ((IsFirst old × (d ≡ nothing)) ⊎ IsStep None d)
      × Takes (doing c old) d (λ r. and_then (does c label args Server r) (given c new))

  -- What a step is by its answer. The frames behind a call of the other place are as others see them, the next one first.
  abbrev pub Stepped : State → State → Next → Type 0
  Stepped old new next.More = (d : Course) × IsStep new.printed d × Takes (doing c old) d (doing c new)
  Stepped old new (next.Ended v) = IsEnded old new v
  Stepped old new (next.Trapped trap) = (d : Course) × IsStep None d × Takes (doing c old) d (Stops (Trapped trap))
  Stepped old new (next.CallOut label args) = (r : Run) → doing c old r ≡ and_then (crossing c old.place label args r) (rest c new.stack old.place)
  Stepped old new (next.Db label args) = (old.place ≡ Server) × Asks old new label args

  -- What is to do gets later by a step at least, or has no fuel.
  abbrev pub GoesOn : State → Type 0
  GoesOn m = (r : Run) → Later (r.steps + 1) r (doing c m r) ⊎ (doing c m r ≡ Stops Spent r)
