-- Why a program isn't accepted, in the words of refusals.
use Rattle.std.proofs.Common.{◌≡◌, ◌⊎◌, inl, inr, Result, Ok, Err, subst, sym}
use Rattle.std.specs.Prelude.{IfErr, IsErrAnd}
use Rattle.lk_ast.specs.declared.declaration.Program.{Program}
use Rattle.lk_compile.specs.Accepted.{IsRefusedProgram}
use Rattle.lk_compile.specs.declared.error.CompileError.{CompileError}
use Rattle.lk_compile.specs.declared.error.CompileError.TheVariants as compile
use Rattle.lk_infer.specs.declared.error.InferError.TheVariants as types
use Rattle.lk_mono.specs.declared.error.MonoError.TheVariants as mono
use Rattle.lk_names.specs.declared.error.NameError.TheVariants as fault
use Rattle.lk_cli.specs.Answers.{IsNotAccepted, refusal_of_compile}
use Rattle.lk_cli.specs.declared.answer.Refusal.{Refusal}

-- the reason of a stage
pub not_accepted : (program : Program) (error : CompileError) → IsRefusedProgram program error → IsNotAccepted program (refusal_of_compile error)
not_accepted program (compile.Parse why) is = absurd is
not_accepted program (compile.Names (fault.Unbound at)) is = inl is
not_accepted program (compile.Names (fault.Twice at)) is = inl is
not_accepted program (compile.Names fault.NoMain) is = inl is
not_accepted program (compile.Names fault.NoMemory) is = absurd is
not_accepted program (compile.Infer (types.IllTyped at)) is = inl is
not_accepted program (compile.Infer (types.TypeTooLarge at)) is = inl is
not_accepted program (compile.Infer types.NoMemory) is = absurd is
not_accepted program (compile.Ground (mono.TypeTooLarge at)) (typed, is_typed, why) = inr (typed, is_typed, inl why)
not_accepted program (compile.Ground mono.TooManyInstances) (typed, is_typed, why) = inr (typed, is_typed, inl why)
not_accepted program (compile.Ground (mono.Shape kind at)) (typed, is_typed, why) = inr (typed, is_typed, inl why)
not_accepted program (compile.Ground mono.NoMemory) (typed, is_typed, why) = absurd why
not_accepted program (compile.Query kind at) (typed, is_typed, large) = inr (typed, is_typed, inr large)
not_accepted program compile.NoMemory is = inl tt
