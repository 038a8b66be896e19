-- What sessions and calls of code come to: what those of its program do.
use Rattle.std.specs.Prelude.{◌≡◌, ℕ, true, List, [], ◌∷◌, ◌++◌, Some, length}
use Rattle.lk_ast.specs.declared.declaration.Program.{Program}
use Rattle.lk_ast.specs.declared.place.Loc.{Loc}
use Rattle.lk_ast.specs.declared.place.Loc.TheVariants.{Client}
use Rattle.lk_ast.specs.declared.place.Span.{Span}
use Rattle.lk_ast.specs.declared.table.Row.{Row}
use Rattle.lk_ast.specs.declared.value.FunValue.{FunValue}
use Rattle.lk_ast.specs.declared.value.Value.{Value}
use Rattle.lk_code.specs.Meaning.{does}
use Rattle.lk_code.specs.Tables.{fun_info, is_function}
use Rattle.lk_code.specs.declared.infos.FunInfo.{FunInfo}
use Rattle.lk_code.specs.declared.tables.CodeTables.{CodeTables}
use Rattle.lk_evaluation.specs.Evaluation.{Goto, eval}
use Rattle.lk_evaluation.specs.Laws.{MatchingOuts}
use Rattle.lk_evaluation.specs.Run.{Out, Run, start}
use Rattle.lk_evaluation.specs.Source as source
use Rattle.lk_ground.specs.Alike.{Alike}
use Rattle.lk_ground.specs.Language as language
use Rattle.lk_ground.specs.Language.{call_labelled, function_of, ground, labelled}
use Rattle.lk_ground.specs.UsesApart.{AreUsesApart}
use Rattle.lk_ground.specs.declared.program.GroundFun.{GroundFun}
use Rattle.lk_ground.specs.declared.program.GroundProgram.{GroundProgram}
use Rattle.lk_index.specs.Places.{ArePlaced}
use Rattle.lk_mono.specs.Keeps.{IsMainInstance}
use Rattle.lk_operators.specs.Values.{text}
use Rattle.lk_places.specs.Law.{AreMarksApart}

-- functions and lambdas, the uses of functions in each body, and lambdas and what acts on tables begin at places of their own, as in the
-- program of a text
pub record ArePlacesApart (p : Program) : Type 0 where
  pub placed : ArePlaced p
  pub uses : AreUsesApart p
  pub marks : AreMarksApart p

-- ---- sessions

-- what label 1 does at the client with this argument, over this fuel and these answers
abbrev pub code_session : CodeTables → List ℕ → ℕ → List (List Row) → Out Value
code_session c arg fuel answers = does c 1 (text arg ∷ []) Client (start fuel answers)

-- ---- calls

-- The function value has the label of a function or a lambda, of which the code tells this, and keeps as many values as it tells.
pub record IsCallee (c : CodeTables) (i : FunInfo) (callee : FunValue) : Type 0 where
  pub told : fun_info c callee.site ≡ Some i
  pub function : is_function i.kind ≡ true
  pub keeps : length callee.env ≡ length i.env

-- In the ground program a call of it with these arguments runs at this mark, and goes to this point.
pub record GoesTo (g : GroundProgram) (callee : FunValue) (args : List Value) (mark : Loc) (point : language.Point) : Type 0 where
  pub at : Span
  pub called : FunValue
  pub passed : List Value
  pub goes : call_labelled g at callee args (labelled g callee.site) ≡ Goto mark called passed point

-- The label runs at this mark, and does with the values kept and then those passed what the ground program does at this point.
pub record DoesThere (g : GroundProgram) (c : CodeTables) (i : FunInfo) (callee : FunValue) (args : List Value) (mark : Loc) (point : language.Point) : Type 0 where
  pub mark_is : i.place ≡ mark
  pub same : (place : Loc) (r : Run) → does c callee.site (callee.env ++ args) place r ≡ eval (ground g) point place r

-- Each label of a function or a lambda does what a call of it does in the ground program, wherever that goes to a point.
abbrev pub DoesAsCalled : GroundProgram → CodeTables → Type 0
DoesAsCalled g c = (i : FunInfo) (callee : FunValue) → IsCallee c i callee → (args : List Value) (mark : Loc) (point : language.Point) → GoesTo g callee args mark point → DoesThere g c i callee args mark point

-- ---- programs

-- Sessions of the code are those of the ground program, the same in all that they come to. So they are those of the program, but for what
-- stands in function values. And so are calls: each label does what a call of it does in the ground program.
pub record HasSessions (p : Program) (g : GroundProgram) (c : CodeTables) : Type 0 where
  pub main : GroundFun
  pub is_main : IsMainInstance p g main
  pub same : ArePlacesApart p → (arg : List ℕ) (fuel : ℕ) (answers : List (List Row)) → code_session c arg fuel answers ≡ language.session g (function_of main) arg (start fuel answers)
  pub keeps : ArePlacesApart p → (arg : List ℕ) (fuel : ℕ) (answers : List (List Row)) → MatchingOuts (Alike g) Value Value (Alike g) (code_session c arg fuel answers) (source.session p (function_of main) arg (start fuel answers))
  pub calls : ArePlacesApart p → DoesAsCalled g c
