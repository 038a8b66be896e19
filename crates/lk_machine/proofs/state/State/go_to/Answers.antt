use Rattle.std.proofs.Common.{sym, ap, ◌∙◌}
use Rattle.lk_ir.specs.Environments.{bind_each}
use Rattle.lk_machine.proofs.Across.{crosses_well, crosses_with, enters_well}
use Rattle.lk_machine.proofs.state.State.go_to.Goals as goal

pub returns-in_ok-scope-2-clause-kept : goal.returns-in_ok-scope-2-clause-kept
returns-in_ok-scope-2-clause-kept c =
    let b = c.args.body.now in
    let first = c.in_ok-scope.ensures ∙ ap (λ xs. bind_each c.new.result xs c.args.env) c.as_slice.ensures ∙ ap (λ s. bind_each s b.names c.args.env) c.new.ensures in
    let both = c.in_ok-scope-2.ensures ∙ ap (λ xs. bind_each c.in_ok-scope.scope xs c.args.args) c.as_slice-then-is_at.ensures ∙ ap (λ s. bind_each s b.params c.args.args) first in
    enters_well c.args.tables.now c.requires.run c.args.label b c.requires.body c.args.env c.args.args c.args.self.now (sym c.is_at.ensures ∙ c.if-is_at.true) c.requires.acts.4 c.in_ok-scope-2.scope both

pub returns-in_ok-joined-clause-leads : goal.returns-in_ok-joined-clause-leads
returns-in_ok-joined-clause-leads c =
    let may = c.requires.acts in
    crosses_with c.args.tables.now c.requires.run c.args.label c.args.body.now c.requires.body c.args.env c.args.args c.args.self.now may.0 may.2 may.4 (sym c.is_at.ensures ∙ c.if-is_at.false) c.in_ok-joined.field-0 c.in_ok-joined.ensures

pub returns-in_ok-joined-clause-kept : goal.returns-in_ok-joined-clause-kept
returns-in_ok-joined-clause-kept c =
    crosses_well c.args.tables.now c.requires.run c.args.label c.args.body.now c.requires.body c.args.env c.args.args c.args.self.now c.requires.acts.4 (sym c.is_at.ensures ∙ c.if-is_at.false) c.in_ok-joined.field-0 c.in_ok-joined.ensures
