-- What a session shows can be written: in the value that it comes to and in its events no function stands.
use Rattle.std.specs.Prelude.{◌≡◌, ℕ, false, List, Some}
use Rattle.lk_ast.specs.Functions.{main_of}
use Rattle.lk_ast.specs.Plain.{holds_function}
use Rattle.lk_ast.specs.declared.declaration.FunDef.{FunDef}
use Rattle.lk_ast.specs.declared.declaration.Program.{Program}
use Rattle.lk_ast.specs.declared.event.Event.{Event}
use Rattle.lk_ast.specs.declared.event.Event.TheVariants.{Print, Enter, Leave, Read, Write}
use Rattle.lk_ast.specs.declared.table.Row.{Row}
use Rattle.lk_ast.specs.declared.value.Value.{Value}
use Rattle.lk_evaluation.specs.Run.{Out, Goes, Stops, events_of, start}
use Rattle.lk_evaluation.specs.Source.{session}
use Rattle.lk_sound.specs.Law.{AreAnswered, AreBoundAndApart}
use Rattle.lk_sound.specs.Tables.{ArePlain}
use Rattle.lk_types.specs.Each.{Each}

abbrev pub IsPlain : Value → Type 0
IsPlain v = holds_function v ≡ false

abbrev pub IsPlainEvent : Event → Type 0
IsPlainEvent (Print bytes) = Unit {0}
IsPlainEvent Enter = Unit {0}
IsPlainEvent Leave = Unit {0}
IsPlainEvent (Read read) = ArePlain read.args
IsPlainEvent (Write write) = ArePlain write.args

abbrev pub IsPlainOut : Out Value → Type 0
IsPlainOut (Goes v last) = IsPlain v × Each IsPlainEvent (events_of last.log)
IsPlainOut (Stops stop last) = Each IsPlainEvent (events_of last.log)

-- The same of each session of the program, in which functions, lambdas, queries and the like begin at places of their own, as in
-- that of a text, where each reading is answered by rows that its query gives over tables that fit.
abbrev pub ShowsPlain : Program → Type 0
ShowsPlain p = AreBoundAndApart p → (main : FunDef) → main_of p ≡ Some main → (arg : List ℕ) (fuel : ℕ) (answers : List (List Row))
    → AreAnswered p (session p main arg (start fuel answers)) → IsPlainOut (session p main arg (start fuel answers))
