use Rattle.std.proofs.Common.{◌∙◌, refl, subst, sym}
use Rattle.std.proofs.lemmas.Result.{err_from_is_err_and}
use Rattle.lk_compile.proofs.Making.{is_code}
use Rattle.lk_compile.proofs.SameSessions.{has_sessions}
use Rattle.lk_compile.proofs.Refusing.{typed_refused}
use Rattle.lk_compile.specs.Accepted.{IsRefusedProgram, IsTyped}
use Rattle.lk_compile.specs.Compiled.{AreParts}
use Rattle.lk_names.specs.Programs.{IsBound}
use Rattle.lk_compile.proofs.compiling.compile_program.Goals as goal

pub returns-in_err-parts-clause-refused : goal.returns-in_err-parts-clause-refused
returns-in_err-parts-clause-refused c =
    let typed = c.in_ok-typed.typed in
    let same = c.in_ok-scoped.ensures.same in
    let error = err_from_is_err_and c.from_residual-in_err-parts.result c.from_residual-in_err-parts.ensures.1 in
    let is_typed : IsTyped c.in_ok-scoped.scoped typed = (subst IsBound (sym same) c.in_ok-scoped.ensures.bound, c.in_ok-typed.ensures.principal, c.in_ok-typed.ensures.types, c.in_ok-typed.ensures.in_order) in
    rw (error.1, error.2) (subst (λ p. IsRefusedProgram p c.in_err-parts.field-0.0) same (typed_refused c.in_ok-scoped.scoped typed is_typed c.in_err-parts.field-0.0 c.in_err-parts.ensures.refused))

pub returns-clause-code : goal.returns-clause-code
returns-clause-code c =
    let p = c.args.program in
    let typed = c.in_ok-typed.typed in
    let same = c.in_ok-scoped.ensures.same in
    let of : AreParts p typed c.in_ok-parts.parts = subst (λ p. AreParts p typed c.in_ok-parts.parts) same c.in_ok-parts.ensures.parts in
    is_code c.session_laws.ensures.stands c.session_laws.ensures.calls c.session_laws.ensures.continues c.session_laws.ensures.same c.session_laws.ensures.enters p typed c.in_ok-parts.parts c.into_program.result c.whole.result
    (subst (λ p. IsTyped p typed) same (subst IsBound (sym same) c.in_ok-scoped.ensures.bound, c.in_ok-typed.ensures.principal, c.in_ok-typed.ensures.types, c.in_ok-typed.ensures.in_order))
    of (has_sessions p typed of.ground of.is_ground c.session_laws.ensures.calls c.session_laws.ensures.continues c.session_laws.ensures.same c.session_laws.ensures.enters c.in_ok-parts.parts.code.tables c.whole.ensures.sound of.are.tables)
    c.whole.ensures.sound (c.into_program.ensures.same ∙ same) c.whole.ensures.whole
