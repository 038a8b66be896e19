use Rattle.std.proofs.Common.{sym, ◌∙◌, ap, refl}
use Rattle.std.proofs.lemmas.Option.{none-some}
use Rattle.std.proofs.lemmas.Result.{IfOk-weaker}
use Rattle.lk_code.specs.Tables.{cont_at}
use Rattle.lk_ir.specs.Environments.{lookup_all}
use Rattle.lk_ir.specs.Tables.{names_of}
use Rattle.lk_machine.proofs.Taking.{leads_as}
use Rattle.lk_machine.proofs.Turning.{all_there, begins_plainly, begins_turning, same_turning}
use Rattle.lk_machine.proofs.state.State.each.Goals as goal

pub turn_plainly-requires-clause-typed : goal.turn_plainly-requires-clause-typed
turn_plainly-requires-clause-typed c =
    let may = c.requires.typed in (
      may.0,
      may.1,
      begins_plainly c.args.tables.now c.requires.run c.args.self.now.place may.0 c.args.node c.args.form.now c.args.name c.args.body c.args.values c.args.scope may.2.0 may.2.1 c.reversed-left.result c.new-made.result c.reversed-left.ensures c.new-made.ensures _ refl
          (ap (λ n. cont_at c.args.tables.now (record { node = c.args.node; position = n })) (sym c.len.ensures) ∙ sym c.in_default.ensures),
      may.3,
      may.4,
    )

pub returns-in_default-clause-kept : goal.returns-in_default-clause-kept
returns-in_default-clause-kept c t u of frames =
    c.turn_plainly.ensures.kept t u (begins_plainly c.args.tables.now c.requires.run c.args.self.now.place t c.args.node c.args.form.now c.args.name c.args.body c.args.values c.args.scope of.0 of.1 c.reversed-left.result c.new-made.result c.reversed-left.ensures c.new-made.ensures _ refl
    (ap (λ n. cont_at c.args.tables.now (record { node = c.args.node; position = n })) (sym c.len.ensures) ∙ sym c.in_default.ensures)) frames

pub unreachable-requires : goal.unreachable-requires
unreachable-requires c =
    let may = c.requires.typed in
    let there = all_there c.args.tables.now c.requires.run c.args.self.now.place may.0 c.args.node c.args.form.now c.args.name c.args.body c.args.values c.args.scope may.2.0 may.2.1 c.reversed-left.result c.new-made.result c.reversed-left.ensures c.new-made.ensures c.in-Some.cont.now
    (ap (λ n. cont_at c.args.tables.now (record { node = c.args.node; position = n })) (sym c.len.ensures) ∙ sym c.in-Some.ensures) in
    none-some there.0 (sym c.in_default-2.is ∙ c.in_ok-kept.ensures ∙ ap (lookup_all c.args.scope) (c.as_slice-2.ensures ∙ c.in_ok-names.ensures ∙ ap names_of c.as_slice.ensures) ∙ there.1)

pub turn-requires-clause-typed : goal.turn-requires-clause-typed
turn-requires-clause-typed c =
    let may = c.requires.typed in (
      may.0,
      may.1,
      begins_turning c.args.tables.now c.requires.run c.args.self.now.place may.0 c.args.node c.args.form.now c.args.name c.args.body c.args.values c.args.scope may.2.0 may.2.1 c.reversed-left.result c.new-made.result c.reversed-left.ensures c.new-made.ensures c.in-Some.cont.now
          (ap (λ n. cont_at c.args.tables.now (record { node = c.args.node; position = n })) (sym c.len.ensures) ∙ sym c.in-Some.ensures) c.in-Some-2.kept
          (ap (lookup_all c.args.scope) (sym (c.as_slice-2.ensures ∙ c.in_ok-names.ensures ∙ ap names_of c.as_slice.ensures)) ∙ sym c.in_ok-kept.ensures ∙ c.in-Some-2.is),
      may.3,
      may.4,
    )

pub returns-clause-leads : goal.returns-clause-leads
returns-clause-leads c =
    let may = c.requires.typed in
    IfOk-weaker c.turn.result _ _
    (λ next leads. leads_as c.args.tables.now c.args.self.now c.turn.new.self _ _ (same_turning c.args.tables.now c.requires.run c.args.self.now.place may.0 c.args.node c.args.form.now c.args.name c.args.body c.args.values c.args.scope may.2.0 may.2.1 c.reversed-left.result c.new-made.result c.reversed-left.ensures c.new-made.ensures c.in-Some.cont.now
    (ap (λ n. cont_at c.args.tables.now (record { node = c.args.node; position = n })) (sym c.len.ensures) ∙ sym c.in-Some.ensures) c.in-Some-2.kept
    (ap (lookup_all c.args.scope) (sym (c.as_slice-2.ensures ∙ c.in_ok-names.ensures ∙ ap names_of c.as_slice.ensures)) ∙ sym c.in_ok-kept.ensures ∙ c.in-Some-2.is)) next leads)
    c.turn.ensures.leads

pub returns-clause-kept : goal.returns-clause-kept
returns-clause-kept c =
    IfOk-weaker c.turn.result _ _
    (λ next moves t u of frames. moves t u (begins_turning c.args.tables.now c.requires.run c.args.self.now.place t c.args.node c.args.form.now c.args.name c.args.body c.args.values c.args.scope of.0 of.1 c.reversed-left.result c.new-made.result c.reversed-left.ensures c.new-made.ensures c.in-Some.cont.now
    (ap (λ n. cont_at c.args.tables.now (record { node = c.args.node; position = n })) (sym c.len.ensures) ∙ sym c.in-Some.ensures) c.in-Some-2.kept
    (ap (lookup_all c.args.scope) (sym (c.as_slice-2.ensures ∙ c.in_ok-names.ensures ∙ ap names_of c.as_slice.ensures)) ∙ sym c.in_ok-kept.ensures ∙ c.in-Some-2.is)) frames)
    c.turn.ensures.kept
