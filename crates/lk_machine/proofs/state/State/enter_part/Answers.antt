use Rattle.std.proofs.Common.{◌≡◌, ap, ◌∙◌, Some, length, slice_get}
use Rattle.std.proofs.lemmas.Result.{IfOk-weaker}
use Rattle.std.specs.Option.{option_and_then}
use Rattle.lk_code.specs.Meaning.{language}
use Rattle.lk_ir.specs.LetNormal.{under}
use Rattle.lk_ir.specs.Tables.{form_at}
use Rattle.lk_ir.specs.declared.nodes.Form.{Form}
use Rattle.lk_machine.proofs.Entering.{enters_part, gives_value, goes_further}
use Rattle.lk_moves.specs.Frames.{resumed}
use Rattle.lk_machine.proofs.state.State.enter_part.Goals as goal

pub go_on-requires-clause-typed : goal.go_on-requires-clause-typed
go_on-requires-clause-typed c =
    let looked : Some c.in-Some.form.now ≡ option_and_then (form_at c.get-forms.result.now) (option_and_then (λ (form : Form). slice_get form.parts (length c.args.held.done)) (form_at c.get-forms.result.now c.args.held.node)) =
    c.in-Some.ensures ∙ ap (λ n. option_and_then (form_at c.get-forms.result.now) (option_and_then (λ (form : Form). slice_get form.parts n) (form_at c.get-forms.result.now c.args.held.node))) c.len.ensures in
    let m = c.requires.typed in (
      m.0,
      m.1,
      goes_further c.args.tables.now c.requires.run c.args.self.now.place c.args.held m.2.1 m.0 m.2.0
          c.get-forms.result.now c.get-forms.ensures c.in-Some.form.now looked _ c.in_ok-value.ensures c.in-Give.value c.in-Give.is c.push.new.self c.in_ok-push-in-Give.ensures.ok,
      m.3,
      m.4,
    )

pub unreachable-requires-in_default-2 : goal.unreachable-requires-in_default-2
unreachable-requires-in_default-2 c =
    let looked : Some c.in-Some.form.now ≡ option_and_then (form_at c.get-forms.result.now) (option_and_then (λ (form : Form). slice_get form.parts (length c.args.held.done)) (form_at c.get-forms.result.now c.args.held.node)) =
    c.in-Some.ensures ∙ ap (λ n. option_and_then (form_at c.get-forms.result.now) (option_and_then (λ (form : Form). slice_get form.parts n) (form_at c.get-forms.result.now c.args.held.node))) c.len.ensures in
    let m = c.requires.typed in
    let given = gives_value c.args.tables.now c.requires.run c.args.self.now.place c.args.held m.2.1 m.0 m.2.0
    c.get-forms.result.now c.get-forms.ensures c.in-Some.form.now looked _ c.in_ok-value.ensures in
    c.in_default-2.not-Give _ given

pub returns-clause-leads : goal.returns-clause-leads
returns-clause-leads c =
    let looked : Some c.in-Some.form.now ≡ option_and_then (form_at c.get-forms.result.now) (option_and_then (λ (form : Form). slice_get form.parts (length c.args.held.done)) (form_at c.get-forms.result.now c.args.held.node)) =
    c.in-Some.ensures ∙ ap (λ n. option_and_then (form_at c.get-forms.result.now) (option_and_then (λ (form : Form). slice_get form.parts n) (form_at c.get-forms.result.now c.args.held.node))) c.len.ensures in
    let m = c.requires.typed in
    IfOk-weaker c.go_on.result _ _
    (λ answer leads. (
      resumed (language c.args.tables.now) (under c.args.held.scope c.args.held.node) c.push.new.self c.args.self.now.place,
      enters_part c.args.tables.now c.requires.run c.args.self.now.place c.args.held m.2.1 m.0 m.2.0
          c.get-forms.result.now c.get-forms.ensures c.in-Some.form.now looked _ c.in_ok-value.ensures c.in-Give.value c.in-Give.is c.push.new.self c.in_ok-push-in-Give.ensures.ok,
      leads,
    )) c.go_on.ensures.leads

pub returns-clause-kept : goal.returns-clause-kept
returns-clause-kept c =
    let looked : Some c.in-Some.form.now ≡ option_and_then (form_at c.get-forms.result.now) (option_and_then (λ (form : Form). slice_get form.parts (length c.args.held.done)) (form_at c.get-forms.result.now c.args.held.node)) =
    c.in-Some.ensures ∙ ap (λ n. option_and_then (form_at c.get-forms.result.now) (option_and_then (λ (form : Form). slice_get form.parts n) (form_at c.get-forms.result.now c.args.held.node))) c.len.ensures in
    IfOk-weaker c.go_on.result _ _
    (λ answer moves t u of frames. moves t u (goes_further c.args.tables.now c.requires.run c.args.self.now.place c.args.held of.1 t of.0
    c.get-forms.result.now c.get-forms.ensures c.in-Some.form.now looked _ c.in_ok-value.ensures c.in-Give.value c.in-Give.is c.push.new.self c.in_ok-push-in-Give.ensures.ok) frames) c.go_on.ensures.kept
