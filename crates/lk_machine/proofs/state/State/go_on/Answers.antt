use Rattle.std.proofs.Common.{◌≡◌, sym, ap, ◌∙◌, Some, None, length, slice_get}
use Rattle.std.proofs.lemmas.Result.{IfOk-weaker}
use Rattle.lk_code.specs.Meaning.{language}
use Rattle.lk_code.specs.Tables.{cont_at}
use Rattle.lk_ir.specs.Continuing.{narrowed}
use Rattle.lk_ir.specs.LetNormal.{under}
use Rattle.lk_ir.specs.Tables.{form_at}
use Rattle.lk_machine.proofs.Finishing.{acts_at, acts_now, acts_so, does_then, left}
use Rattle.lk_machine.proofs.Taking.{leads_as}
use Rattle.lk_machine.specs.Acts.{IsAct}
use Rattle.lk_machine.specs.Moves.{performed}
use Rattle.lk_moves.specs.Frames.{resumed}
use Rattle.lk_machine.proofs.state.State.go_on.Goals as goal

pub perform-requires-clause-acts : goal.perform-requires-clause-acts
perform-requires-clause-acts c =
    let code = c.args.tables.now in
    let place = c.args.self.now.place in
    let held = c.args.held in
    let form = c.in-Some.form.now in
    let there : form_at code.forms held.node ≡ Some form = sym (c.in-Some.ensures ∙ ap (λ f. form_at f held.node) c.get-forms.ensures) in
    let past : slice_get form.parts (length held.done) ≡ None = sym (c.in-None.ensures ∙ ap (slice_get form.parts) c.len.ensures) in
    let are : c.in_ok-scope-in-None.scope ≡ left code c.requires.run place held form there past =
    c.in_ok-scope-in-None.ensures ∙ ap (λ n. narrowed (cont_at code (record { node = held.node; position = n })) held.scope) c.len-in-None.ensures in
    let is : IsAct code.forms form (left code c.requires.run place held form there past) c.in_ok-act-in-None.act (does_then code c.requires.run place held form there past) =
    acts_so code c.requires.run place held form there past c.get-forms.result.now c.get-forms.ensures c.in_ok-scope-in-None.scope are c.in_ok-act-in-None.act c.in_ok-act-in-None.ensures in
    let m = c.requires.typed in (
      left code c.requires.run place held form there past,
      does_then code c.requires.run place held form there past,
      is,
      (m.0, m.1, acts_at code c.requires.run place held form there past m.0 m.2 c.in_ok-act-in-None.act is, m.3, m.4),
    )

pub returns-in_ok-act-in-None-clause-leads : goal.returns-in_ok-act-in-None-clause-leads
returns-in_ok-act-in-None-clause-leads c =
    let code = c.args.tables.now in
    let place = c.args.self.now.place in
    let held = c.args.held in
    let form = c.in-Some.form.now in
    let there : form_at code.forms held.node ≡ Some form = sym (c.in-Some.ensures ∙ ap (λ f. form_at f held.node) c.get-forms.ensures) in
    let past : slice_get form.parts (length held.done) ≡ None = sym (c.in-None.ensures ∙ ap (slice_get form.parts) c.len.ensures) in
    let are : c.in_ok-scope-in-None.scope ≡ left code c.requires.run place held form there past =
    c.in_ok-scope-in-None.ensures ∙ ap (λ n. narrowed (cont_at code (record { node = held.node; position = n })) held.scope) c.len-in-None.ensures in
    let is : IsAct code.forms form (left code c.requires.run place held form there past) c.in_ok-act-in-None.act (does_then code c.requires.run place held form there past) =
    acts_so code c.requires.run place held form there past c.get-forms.result.now c.get-forms.ensures c.in_ok-scope-in-None.scope are c.in_ok-act-in-None.act c.in_ok-act-in-None.ensures in
    let m = c.requires.typed in
    IfOk-weaker c.perform.result _ _
    (λ answer leads. leads_as code c.args.self.now c.perform.new.self (resumed (language code) (under held.scope held.node) held.done place) (performed code place (does_then code c.requires.run place held form there past))
    (acts_now code c.requires.run place held form there past m.0 m.2) answer (leads _ _ is)) c.perform.ensures.leads

pub returns-in_ok-act-in-None-clause-kept : goal.returns-in_ok-act-in-None-clause-kept
returns-in_ok-act-in-None-clause-kept c =
    let code = c.args.tables.now in
    let place = c.args.self.now.place in
    let held = c.args.held in
    let form = c.in-Some.form.now in
    let there : form_at code.forms held.node ≡ Some form = sym (c.in-Some.ensures ∙ ap (λ f. form_at f held.node) c.get-forms.ensures) in
    let past : slice_get form.parts (length held.done) ≡ None = sym (c.in-None.ensures ∙ ap (slice_get form.parts) c.len.ensures) in
    let are : c.in_ok-scope-in-None.scope ≡ left code c.requires.run place held form there past =
    c.in_ok-scope-in-None.ensures ∙ ap (λ n. narrowed (cont_at code (record { node = held.node; position = n })) held.scope) c.len-in-None.ensures in
    let is : IsAct code.forms form (left code c.requires.run place held form there past) c.in_ok-act-in-None.act (does_then code c.requires.run place held form there past) =
    acts_so code c.requires.run place held form there past c.get-forms.result.now c.get-forms.ensures c.in_ok-scope-in-None.scope are c.in_ok-act-in-None.act c.in_ok-act-in-None.ensures in
    IfOk-weaker c.perform.result _ _
    (λ answer moves t u node frames. moves _ _ is t u (acts_at code c.requires.run place held form there past t node c.in_ok-act-in-None.act is) frames) c.perform.ensures.kept
