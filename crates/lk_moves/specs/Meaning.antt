-- What the code of a program means to those who see neither its nodes nor what its frames hold.
use Rattle.std.specs.Prelude.{ℕ, List}
use Rattle.lk_ast.specs.declared.place.Loc.{Loc}
use Rattle.lk_ast.specs.declared.value.Value.{Value}
use Rattle.lk_evaluation.specs.Run.{Callee}
use Rattle.lk_moves.specs.Courses.{Evaluation}

pub record Meaning (Frame : Type 0) : Type 0 where
  -- what has this label does this with these arguments, at a place
  pub does : ℕ → List Value → Loc → Evaluation
  -- who is called by this label with these arguments, as the log of an evaluation says it
  pub callee : ℕ → List Value → Callee
  -- and with what: the captured values of a function stand before its arguments, and aren't passed
  pub passed : ℕ → List Value → List Value
  -- what these frames, the next one first, do at a place with the value that the first one waits for
  pub rest : List Frame → Loc → Value → Evaluation
