-- What refuses a typed program refuses it.
use Rattle.std.proofs.Common.{◌≡◌, Result, Ok, Err, subst, sym}
use Rattle.std.specs.Prelude.{IfErr, IsErrAnd}
use Rattle.lk_ast.specs.declared.declaration.Program.{Program}
use Rattle.lk_compile.specs.Accepted.{IsRefusedProgram, IsRefusedTyped, IsTyped}
use Rattle.lk_compile.specs.declared.error.CompileError.{CompileError}
use Rattle.lk_compile.specs.declared.error.CompileError.TheVariants.{Parse, Names, Infer, Ground, Query, NoMemory}
use Rattle.lk_infer.specs.declared.typed.Typed.{Typed}

pub typed_refused : (program : Program) (typed : Typed) → IsTyped program typed → (error : CompileError) → IsRefusedTyped program typed error → IsRefusedProgram program error
typed_refused program typed is (Parse why) refused = absurd refused
typed_refused program typed is (Names why) refused = absurd refused
typed_refused program typed is (Infer why) refused = absurd refused
typed_refused program typed is (Ground why) refused = (typed, is, refused)
typed_refused program typed is (Query size at) refused = (typed, is, refused)
typed_refused program typed is NoMemory refused = tt
