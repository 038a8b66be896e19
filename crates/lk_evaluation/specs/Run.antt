-- What an evaluation has done so far, and what it comes to.
use Rattle.std.specs.Prelude.{ℕ, zero, suc, ◌+◌, List, [], ◌∷◌, ◌++◌, map, Option, None}
use Rattle.lk_ast.specs.declared.event.Event.{Event}
use Rattle.lk_ast.specs.declared.event.Event.TheVariants.{Read}
use Rattle.lk_ast.specs.declared.event.Trap.{Trap}
use Rattle.lk_ast.specs.declared.place.Span.{Span}
use Rattle.lk_ast.specs.declared.table.Row.{Row}
use Rattle.lk_ast.specs.declared.value.FunValue.{FunValue}
use Rattle.lk_ast.specs.declared.value.Value.{Value}

-- who is called at the other place: a function, the printer, or what reads or writes tables at that place in the text
pub data Callee : Type 0 where
  Function : (function : FunValue) → Callee
  Printer : Callee
  Site : (site : ℕ) → Callee

-- what goes to the other place with an event: nothing, a call, or the value that a call returns
pub data Crossing : Type 0 where
  Within : Crossing
  Called : (callee : Callee) (args : List Value) → Crossing
  Returned : (value : Value) → Crossing

-- an event, with the steps that were taken when it happened
pub record Entry : Type 0 where
  pub number : ℕ
  pub event : Event
  pub crossing : Crossing

-- The fuel left, which is how many nodes may still be entered; the steps taken; the log; the answers that the readings
-- of tables to come will get. In the server's part of an evaluation, the returns are the values that the calls of client
-- functions to come will get; a whole evaluation has none, and evaluates those calls.
pub record Run : Type 0 where
  pub fuel : ℕ
  pub steps : ℕ
  pub log : List Entry
  pub answers : List (List Row)
  pub returns : Option (List Value)

-- a whole evaluation that begins with that much fuel, over these answers
abbrev pub start : ℕ → List (List Row) → Run
start fuel answers = record { fuel = fuel; steps = 0; log = []; answers = answers; returns = None }

-- why an evaluation ends without a value: a trap; no fuel; no answer for a reading; no rule for what it met; or, in the server's
-- part, a call of a client function without a return
pub data Stop : Type 0 where
  Trapped : (trap : Trap) → Stop
  Spent : Stop
  Waiting : (site : ℕ) (args : List Value) → Stop
  Stuck : (at : Span) → Stop
  Asked : (callee : Callee) (args : List Value) → Stop

-- what an evaluation comes to: it goes on with what was made, or it stops
pub data Out (A : Type 0) : Type 0 where
  Goes : A → Run → Out A
  Stops : Stop → Run → Out A

-- one evaluation after another: what stops the first stops both
abbrev pub and_then : {A B : Type 0} → Out A → (A → Run → Out B) → Out B
and_then (Goes a r) next = next a r
and_then (Stops stop r) next = Stops stop r

abbrev pub step : Run → Run
step r = record r { steps = r.steps + 1 }

abbrev pub logs : Event → Crossing → Run → Run
logs event crossing r = record r { log = r.log ++ record { number = r.steps; event = event; crossing = crossing } ∷ [] }

-- entering a node takes a unit of fuel and a step
abbrev pub enter_with : {A : Type 0} → ℕ → Run → (Run → Out A) → Out A
enter_with zero r body = Stops Spent r
enter_with (suc left) r body = body (record r { fuel = left; steps = r.steps + 1 })

abbrev pub enter : {A : Type 0} → Run → (Run → Out A) → Out A
enter r body = enter_with r.fuel r body

-- the events alone
abbrev pub events_of : List Entry → List Event
events_of log = map {A = Entry} (λ entry. entry.event) log

-- the answers of the readings among them
abbrev pub answers_in : List Event → List (List Row)
answers_in [] = []
answers_in (Read e ∷ events) = e.answer ∷ answers_in events
answers_in (other ∷ events) = answers_in events
