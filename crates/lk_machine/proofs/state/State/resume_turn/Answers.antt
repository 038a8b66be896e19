use Rattle.std.proofs.Common.{sym, ◌∙◌, ap}
use Rattle.std.proofs.lemmas.Result.{IfOk-weaker}
use Rattle.lk_machine.proofs.Popping.{list_is}
use Rattle.lk_machine.proofs.Resumed.{goes_again, has_body, has_lists, has_values, held_is, is_for, one_is, turns_again}
use Rattle.lk_machine.proofs.Taking.{leads_as}
use Rattle.lk_machine.proofs.state.State.resume_turn.Goals as goal
use Rattle.lk_machine.specs.Acts.{only_of}

pub unreachable-requires : goal.unreachable-requires
unreachable-requires c =
    let may = c.requires.typed in
    let found = is_for c.args.tables.now c.requires.run c.args.self.now.place c.args.node c.args.form.now c.args.cont.now c.args.env c.args.value may.0 may.2 in
    c.in_default.not-For found.0 found.1

pub unreachable-requires-in_default-one : goal.unreachable-requires-in_default-one
unreachable-requires-in_default-one c =
    let may = c.requires.typed in
    let found = has_body c.args.tables.now c.requires.run c.args.self.now.place c.args.node c.args.form.now c.args.cont.now c.args.env c.args.value may.0 may.2 in
    c.in_default-one.not-Some found.0 (c.one.ensures ∙ ap only_of c.as_slice.ensures ∙ found.1)

pub unreachable-requires-in_default-list_of : goal.unreachable-requires-in_default-list_of
unreachable-requires-in_default-list_of c =
    let may = c.requires.typed in
    let found = has_values c.args.tables.now c.requires.run c.args.self.now.place c.args.node c.args.form.now c.args.cont.now c.args.env c.args.value may.0 may.2 in
    c.in_default-list_of.not-Some found.0 (c.list_of.ensures ∙ found.1)

pub unreachable-requires-in_default-lists_held : goal.unreachable-requires-in_default-lists_held
unreachable-requires-in_default-lists_held c =
    let may = c.requires.typed in
    let found = has_lists c.args.tables.now c.requires.run c.args.self.now.place c.args.node c.args.form.now c.args.cont.now c.args.env c.args.value may.0 may.2 in
    c.in_default-lists_held.not-Some found.0 (c.lists_held.ensures ∙ found.1)

pub turn-requires-clause-typed : goal.turn-requires-clause-typed
turn-requires-clause-typed c =
    let may = c.requires.typed in (
      may.0,
      may.1,
      turns_again c.args.tables.now c.requires.run c.args.self.now.place c.args.node c.args.form.now c.args.cont.now c.args.env c.args.value may.0 may.2 c.in-For.name c.in-Some.body c.in-Some-list_of.values c.in-Some-lists_held.made c.in-Some-lists_held.left c.in-Some-lists_held.kept c.in_ok-made.made c.in-For.is
          (one_is _ _ (sym (c.one.ensures ∙ ap only_of c.as_slice.ensures) ∙ c.in-Some.is)) (list_is _ _ (sym c.list_of.ensures ∙ c.in-Some-list_of.is)) (held_is _ _ _ _ (sym c.lists_held.ensures ∙ c.in-Some-lists_held.is)) c.in_ok-made.ensures,
      may.3,
      may.4,
    )

pub returns-clause-leads : goal.returns-clause-leads
returns-clause-leads c =
    let may = c.requires.typed in
    IfOk-weaker c.turn.result _ _ (λ next leads. leads_as c.args.tables.now c.args.self.now c.turn.new.self _ _ (goes_again c.args.tables.now c.requires.run c.args.self.now.place c.args.node c.args.form.now c.args.cont.now c.args.env c.args.value may.0 may.2 c.in-For.name c.in-Some.body c.in-Some-list_of.values c.in-Some-lists_held.made c.in-Some-lists_held.left c.in-Some-lists_held.kept c.in_ok-made.made c.in-For.is
    (one_is _ _ (sym (c.one.ensures ∙ ap only_of c.as_slice.ensures) ∙ c.in-Some.is)) (list_is _ _ (sym c.list_of.ensures ∙ c.in-Some-list_of.is)) (held_is _ _ _ _ (sym c.lists_held.ensures ∙ c.in-Some-lists_held.is)) c.in_ok-made.ensures) next leads) c.turn.ensures.leads

pub returns-clause-kept : goal.returns-clause-kept
returns-clause-kept c =
    IfOk-weaker c.turn.result _ _ (λ next moves t u at frames. moves t u (turns_again c.args.tables.now c.requires.run c.args.self.now.place c.args.node c.args.form.now c.args.cont.now c.args.env c.args.value t at c.in-For.name c.in-Some.body c.in-Some-list_of.values c.in-Some-lists_held.made c.in-Some-lists_held.left c.in-Some-lists_held.kept c.in_ok-made.made c.in-For.is
    (one_is _ _ (sym (c.one.ensures ∙ ap only_of c.as_slice.ensures) ∙ c.in-Some.is)) (list_is _ _ (sym c.list_of.ensures ∙ c.in-Some-list_of.is)) (held_is _ _ _ _ (sym c.lists_held.ensures ∙ c.in-Some-lists_held.is)) c.in_ok-made.ensures) frames) c.turn.ensures.kept
