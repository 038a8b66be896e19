use Rattle.std.proofs.Common.{subst, sym}
use Rattle.std.proofs.lemmas.Result.{err_from_is_err_and}
use Rattle.lk_compile.proofs.Refusing.{typed_refused}
use Rattle.lk_compile.specs.Accepted.{IsRefusedProgram, IsTyped}
use Rattle.lk_names.specs.Programs.{IsBound}
use Rattle.lk_compile.proofs.accepted.accept.Goals as goal

pub returns-in_err-queries-clause-refused : goal.returns-in_err-queries-clause-refused
returns-in_err-queries-clause-refused c =
    let typed = c.in_ok-typed.typed in
    let same = c.in_ok-scoped.ensures.same in
    let error = err_from_is_err_and c.from_residual-in_err-queries.result c.from_residual-in_err-queries.ensures.1 in
    let is_typed : IsTyped c.in_ok-scoped.scoped typed = (subst IsBound (sym same) c.in_ok-scoped.ensures.bound, c.in_ok-typed.ensures.principal, c.in_ok-typed.ensures.types, c.in_ok-typed.ensures.in_order) in
    rw (error.1, error.2) (subst (λ p. IsRefusedProgram p c.in_err-queries.field-0.0) same (typed_refused c.in_ok-scoped.scoped typed is_typed c.in_err-queries.field-0.0 c.in_err-queries.ensures.refused))
