use Rattle.std.proofs.Common.{sym, ◌∙◌, ap}
use Rattle.std.proofs.lemmas.Option.{none-some}
use Rattle.lk_operators.specs.Values.{list_in}
use Rattle.lk_machine.proofs.Plainly.{does_give, same_given}
use Rattle.lk_machine.proofs.Popping.{list_is}
use Rattle.lk_machine.proofs.Turning.{enters_so, next_lists, next_plain, next_so}
use Rattle.lk_machine.proofs.state.State.enter_plainly.Goals as goal

pub turn_plainly-requires-clause-typed : goal.turn_plainly-requires-clause-typed
turn_plainly-requires-clause-typed c =
    let may = c.requires.typed in
    let has = next_plain c.args.tables.now c.requires.run c.args.self.now.place c.args.turns c.pop.new.self c.in-Some.value c.in-Some.ensures may.0 may.2 in
    let gives = does_give c.args.tables.now may.0 _ has c.get-forms.result.now c.in-Some-form_at.form.now c.in_ok-scope.scope c.in_ok-value.field-0 c.get-forms.ensures (sym c.in-Some-form_at.ensures) c.in_ok-scope.ensures c.in_ok-value.ensures in (
      may.0,
      may.1,
      next_so c.args.tables.now c.requires.run c.args.self.now.place c.args.turns c.pop.new.self c.in-Some.value c.in-Some.ensures c.in-Some-list_of.values may.0 may.2 has
          (same_given _ has.v c.in-Give.value gives c.in-Give.is ∙ list_is c.in-Give.value c.in-Some-list_of.values (sym c.list_of.ensures ∙ c.in-Some-list_of.is)) _ _ (c.scope.view_is ∙ c.in_ok-scope.ensures) c.in_ok-joined-in-Give.ensures,
      may.3,
      may.4,
    )

pub unreachable-requires-in_default-list_of : goal.unreachable-requires-in_default-list_of
unreachable-requires-in_default-list_of c =
    let may = c.requires.typed in
    let has = next_plain c.args.tables.now c.requires.run c.args.self.now.place c.args.turns c.pop.new.self c.in-Some.value c.in-Some.ensures may.0 may.2 in
    let gives = does_give c.args.tables.now may.0 _ has c.get-forms.result.now c.in-Some-form_at.form.now c.in_ok-scope.scope c.in_ok-value.field-0 c.get-forms.ensures (sym c.in-Some-form_at.ensures) c.in_ok-scope.ensures c.in_ok-value.ensures in
    let lists = next_lists c.args.tables.now c.requires.run c.args.self.now.place c.args.turns c.pop.new.self c.in-Some.value c.in-Some.ensures may.0 may.2 has in
    none-some lists.0 (sym c.in_default-list_of.is ∙ c.list_of.ensures ∙ ap list_in (same_given _ c.in-Give.value has.v c.in-Give.is gives) ∙ lists.1)

pub unreachable-requires-in_default-2 : goal.unreachable-requires-in_default-2
unreachable-requires-in_default-2 c =
    let may = c.requires.typed in
    let has = next_plain c.args.tables.now c.requires.run c.args.self.now.place c.args.turns c.pop.new.self c.in-Some.value c.in-Some.ensures may.0 may.2 in
    let gives = does_give c.args.tables.now may.0 _ has c.get-forms.result.now c.in-Some-form_at.form.now c.in_ok-scope.scope c.in_ok-value.field-0 c.get-forms.ensures (sym c.in-Some-form_at.ensures) c.in_ok-scope.ensures c.in_ok-value.ensures in
    c.in_default-2.not-Give has.v gives

pub returns-clause-leads : goal.returns-clause-leads
returns-clause-leads c =
    let may = c.requires.typed in
    let has = next_plain c.args.tables.now c.requires.run c.args.self.now.place c.args.turns c.pop.new.self c.in-Some.value c.in-Some.ensures may.0 may.2 in
    let gives = does_give c.args.tables.now may.0 _ has c.get-forms.result.now c.in-Some-form_at.form.now c.in_ok-scope.scope c.in_ok-value.field-0 c.get-forms.ensures (sym c.in-Some-form_at.ensures) c.in_ok-scope.ensures c.in_ok-value.ensures in
    enters_so c.args.tables.now c.requires.run c.args.self.now.place c.args.turns c.pop.new.self c.in-Some.value c.in-Some.ensures c.in-Some-list_of.values may.0 may.2 has
    (same_given _ has.v c.in-Give.value gives c.in-Give.is ∙ list_is c.in-Give.value c.in-Some-list_of.values (sym c.list_of.ensures ∙ c.in-Some-list_of.is)) _ _ (c.scope.view_is ∙ c.in_ok-scope.ensures) c.in_ok-joined-in-Give.ensures
    c.args.self.now c.turn_plainly.new.self c.turn_plainly.result c.turn_plainly.ensures.leads

pub returns-clause-kept : goal.returns-clause-kept
returns-clause-kept c t u at frames =
    let has = next_plain c.args.tables.now c.requires.run c.args.self.now.place c.args.turns c.pop.new.self c.in-Some.value c.in-Some.ensures t at in
    let gives = does_give c.args.tables.now t _ has c.get-forms.result.now c.in-Some-form_at.form.now c.in_ok-scope.scope c.in_ok-value.field-0 c.get-forms.ensures (sym c.in-Some-form_at.ensures) c.in_ok-scope.ensures c.in_ok-value.ensures in
    c.turn_plainly.ensures.kept t u (next_so c.args.tables.now c.requires.run c.args.self.now.place c.args.turns c.pop.new.self c.in-Some.value c.in-Some.ensures c.in-Some-list_of.values t at has
    (same_given _ has.v c.in-Give.value gives c.in-Give.is ∙ list_is c.in-Give.value c.in-Some-list_of.values (sym c.list_of.ensures ∙ c.in-Some-list_of.is)) _ _ (c.scope.view_is ∙ c.in_ok-scope.ensures) c.in_ok-joined-in-Give.ensures) frames
