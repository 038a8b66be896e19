use Rattle.std.proofs.Common.{◌∙◌, ap}
use Rattle.lk_ir.specs.Tables.{names_of}
use Rattle.lk_machine.proofs.Turning.{env_made, made_fits, rebound, turned_leads, turned_moves}
use Rattle.lk_machine.proofs.state.State.turn.Goals as goal

pub has-requires-clause-typed : goal.has-requires-clause-typed
has-requires-clause-typed c =
    let may = c.requires.typed in
    (may.0, may.1, made_fits c.args.tables.now c.requires.run c.args.self.now.place c.args.node c.args.form.now c.args.name c.args.body c.args.cont.now may.0 c.args.made c.args.left c.args.kept may.2, may.3, may.4)

pub returns-in_default-clause-kept : goal.returns-in_default-clause-kept
returns-in_default-clause-kept c t u at frames =
    c.has.ensures.kept t u (made_fits c.args.tables.now c.requires.run c.args.self.now.place c.args.node c.args.form.now c.args.name c.args.body c.args.cont.now t c.args.made c.args.left c.args.kept at) frames

pub returns-clause-leads : goal.returns-clause-leads
returns-clause-leads c =
    let may = c.requires.typed in
    turned_leads c.args.tables.now c.requires.run c.args.self.now may.4 c.args.node c.args.form.now c.args.name c.args.body c.args.cont.now c.args.made c.args.left c.args.kept c.pop.new.self c.in-Some.value c.in-Some.ensures
    c.push-3.new.self _ c.in_ok-env.env (rebound _ _ _ _ _ _ _ _ _ c.in_ok-inner.ensures c.in_ok-scope.ensures c.new.ensures (c.as_slice-3.ensures ∙ c.in_ok-names.ensures ∙ ap names_of c.as_slice.ensures) (c.in_ok-again.ensures ∙ c.as_slice-2.ensures)) (env_made _ _ _ _ c.args.kept _ _ c.new-env.ensures c.in_ok-push.ensures.ok c.in_ok-push-2.ensures.ok c.in_ok-env.ensures) c.in_ok-push-3.ensures may.0 may.2

pub returns-clause-kept : goal.returns-clause-kept
returns-clause-kept c =
    let may = c.requires.typed in
    turned_moves c.args.tables.now c.requires.run c.args.self.now may.4 c.args.node c.args.form.now c.args.name c.args.body c.args.cont.now c.args.made c.args.left c.args.kept c.pop.new.self c.in-Some.value c.in-Some.ensures
    c.push-3.new.self _ c.in_ok-env.env (rebound _ _ _ _ _ _ _ _ _ c.in_ok-inner.ensures c.in_ok-scope.ensures c.new.ensures (c.as_slice-3.ensures ∙ c.in_ok-names.ensures ∙ ap names_of c.as_slice.ensures) (c.in_ok-again.ensures ∙ c.as_slice-2.ensures)) (env_made _ _ _ _ c.args.kept _ _ c.new-env.ensures c.in_ok-push.ensures.ok c.in_ok-push-2.ensures.ok c.in_ok-env.ensures) c.in_ok-push-3.ensures
