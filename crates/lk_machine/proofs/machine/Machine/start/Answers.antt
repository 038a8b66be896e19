use Rattle.std.proofs.Common.{rules, ap, subst, sym, ◌∙◌}
use Rattle.std.specs.Prelude.{IfSome, length, ◌≤◌}
use Rattle.lk_ir.specs.Tables.{body_at}
use Rattle.lk_ir.specs.declared.nodes.Body.{Body}
use Rattle.lk_machine.proofs.Starting.{long, made_going, made_on, made_typed}
use Rattle.lk_machine.proofs.machine.Machine.start.Goals as goal

pub beginning-requires : goal.beginning-requires
beginning-requires c =
    let may = c.requires.fit in
    record { long = subst (λ f. IfSome (body_at f c.args.label) (λ (b : Body). length b.params ≤ length c.args.args)) (sym (c.get.ensures ∙ ap (λ t. t.forms) c.tables.ensures.same)) (long _ c.requires.run c.args.place c.args.label c.args.args may.0 may.1) }

pub returns-clause-going : goal.returns-clause-going
returns-clause-going c = let may = c.requires.fit in made_going _ c.requires.run c.args.place c.args.label c.args.args c.push.new.self c.in_ok-now.now (search rules) (search rules) may.0 may.1

pub returns-clause-typed : goal.returns-clause-typed
returns-clause-typed c = made_typed _ c.requires.run c.args.place c.args.label c.args.args c.push.new.self c.in_ok-now.now (search rules) (search rules) c.requires.place

pub returns-clause-on : goal.returns-clause-on
returns-clause-on c = let may = c.requires.fit in made_on _ c.requires.run c.args.place c.args.label c.args.args c.push.new.self c.in_ok-now.now (search rules) (search rules) c.requires.place may.0 may.1
