-- A ground program keeps every evaluation of its program.
use Rattle.std.specs.Prelude.{◌≡◌, ℕ, List, Some}
use Rattle.lk_ast.specs.Functions.{main_of}
use Rattle.lk_ast.specs.declared.declaration.Program.{Program}
use Rattle.lk_ast.specs.declared.table.Row.{Row}
use Rattle.lk_ast.specs.declared.value.Value.{Value}
use Rattle.lk_evaluation.specs.Laws.{MatchingOuts, run_of}
use Rattle.lk_evaluation.specs.Run.{events_of, start}
use Rattle.lk_evaluation.specs.Source as source
use Rattle.lk_ground.specs.Alike.{Alike}
use Rattle.lk_ground.specs.Language.{function_of, instance, session}
use Rattle.lk_ground.specs.UsesApart.{AreUsesApart}
use Rattle.lk_ground.specs.declared.program.GroundFun.{GroundFun}
use Rattle.lk_ground.specs.declared.program.GroundProgram.{GroundProgram}
use Rattle.lk_index.specs.Places.{ArePlaced}
use Rattle.lk_sound.specs.Law.{AreAnswered, AreBoundAndApart}

-- the first instance of the ground program is one of the program's `main`, in which its sessions begin
abbrev pub IsMainInstance : Program → GroundProgram → GroundFun → Type 0
IsMainInstance p g main = (instance g 0 ≡ Some main) × (main_of p ≡ Some (function_of main))

-- Where functions and lambdas of a program begin at places of their own, and so do the uses of functions in each body, as in
-- the program of a text: over any answers a session that begins in this instance ends as that of the program, with the same fuel
-- and steps, and with events that are the same but for what function values in them hold.
abbrev pub KeepsSessions : Program → GroundProgram → GroundFun → Type 0
KeepsSessions p g main = ArePlaced p → AreUsesApart p
    → (arg : List ℕ) (fuel : ℕ) (answers : List (List Row)) → MatchingOuts (Alike g) Value Value (Alike g) (session g (function_of main) arg (start fuel answers)) (source.session p (function_of main) arg (start fuel answers))

-- so it is with the sessions of the ground program
abbrev pub Keeps : Program → GroundProgram → Type 0
Keeps p g = (main : GroundFun) × IsMainInstance p g main × KeepsSessions p g main

-- Under the same conditions, and where queries and changes begin at places of their own, too, and each reading is answered by rows
-- that its query gives over tables that fit, a session of the ground program has the very events of that of the program.
abbrev pub SameEvents : Program → GroundProgram → Type 0
SameEvents p g = (main : GroundFun) × IsMainInstance p g main × (AreBoundAndApart p → AreUsesApart p
    → (arg : List ℕ) (fuel : ℕ) (answers : List (List Row)) → AreAnswered p (source.session p (function_of main) arg (start fuel answers))
    → events_of (run_of (session g (function_of main) arg (start fuel answers))).log ≡ events_of (run_of (source.session p (function_of main) arg (start fuel answers))).log)
