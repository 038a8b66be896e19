use Rattle.std.proofs.Common.{◌∙◌, ap}
use Rattle.std.proofs.lemmas.Result.{IfOk-weaker}
use Rattle.lk_ir.specs.Tables.{names_of}
use Rattle.lk_machine.proofs.Resumed.{leads_so, long_enough, resumes_so}
use Rattle.lk_machine.proofs.state.State.resume_part.Goals as goal

pub cut-requires : goal.cut-requires
cut-requires c =
    let may = c.requires.typed in
    long_enough c.args.tables.now c.requires.run c.args.self.now.place c.args.home c.args.cont.now c.args.env c.args.value may.0 may.2

pub go_on-requires-clause-typed : goal.go_on-requires-clause-typed
go_on-requires-clause-typed c =
    let may = c.requires.typed in (
      may.0,
      may.1,
      resumes_so c.args.tables.now c.requires.run c.args.self.now.place c.args.home c.args.cont.now c.args.env c.args.value may.0 may.2 (c.in_ok-done.done, c.in_ok-done.kept) _ _ _ _ c.in_ok-done.ensures c.in_ok-push.ensures.ok c.new.ensures
          (c.as_slice-2.ensures ∙ c.in_ok-names.ensures ∙ ap names_of c.as_slice.ensures) c.in_ok-scope.ensures,
      may.3,
      may.4,
    )

pub returns-clause-leads : goal.returns-clause-leads
returns-clause-leads c =
    let may = c.requires.typed in
    IfOk-weaker c.go_on.result _ _ (λ next leads. leads_so c.args.tables.now c.requires.run c.args.self.now.place c.args.home c.args.cont.now c.args.env c.args.value may.0 may.2 (c.in_ok-done.done, c.in_ok-done.kept) _ _ _ _ c.in_ok-done.ensures c.in_ok-push.ensures.ok c.new.ensures
    (c.as_slice-2.ensures ∙ c.in_ok-names.ensures ∙ ap names_of c.as_slice.ensures) c.in_ok-scope.ensures
    c.args.self.now c.go_on.new.self next leads) c.go_on.ensures.leads

pub returns-clause-kept : goal.returns-clause-kept
returns-clause-kept c =
    IfOk-weaker c.go_on.result _ _ (λ next moves t u at frames. moves t u (resumes_so c.args.tables.now c.requires.run c.args.self.now.place c.args.home c.args.cont.now c.args.env c.args.value t at (c.in_ok-done.done, c.in_ok-done.kept) _ _ _ _ c.in_ok-done.ensures c.in_ok-push.ensures.ok c.new.ensures
    (c.as_slice-2.ensures ∙ c.in_ok-names.ensures ∙ ap names_of c.as_slice.ensures) c.in_ok-scope.ensures) frames) c.go_on.ensures.kept
