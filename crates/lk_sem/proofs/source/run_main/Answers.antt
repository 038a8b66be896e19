use Rattle.std.proofs.Common.{rules, ◌-◌, ◌≡◌, [], ◌∷◌, Some, subst}
use Rattle.lk_ast.specs.declared.place.Loc.TheVariants.{Client}
use Rattle.lk_evaluation.specs.Evaluation.{eval}
use Rattle.lk_evaluation.specs.Source.{session, source, under}
use Rattle.lk_locals.specs.Names.{bind_all, no_names}
use Rattle.lk_operators.specs.Values.{text}
use Rattle.lk_sem.proofs.Ending.{if_err, scope_is}
use Rattle.lk_sem.specs.SourceRuns.{IsRunBy}
use Rattle.lk_sem.proofs.Begun.{no_events}
use Rattle.lk_sem.proofs.source.run_main.Goals as goal

pub returns-in_err-copy-clause-refused : goal.returns-in_err-copy-clause-refused
returns-in_err-copy-clause-refused g c = if_err _ c.from_residual.result (no_events c.args.catalog.now (session c.args.catalog.now c.args.main.now c.args.arg.now) c.args.fuel ((goal.Store-dyn g c.args.store.now).tables c.args.store.now.1) ((goal.Store-dyn g c.args.store.now).commits c.args.store.now.1))

pub returns-in_err-push-clause-refused : goal.returns-in_err-push-clause-refused
returns-in_err-push-clause-refused g c = if_err _ c.from_residual-in_err-push.result (no_events c.args.catalog.now (session c.args.catalog.now c.args.main.now c.args.arg.now) c.args.fuel ((goal.Store-dyn g c.args.store.now).tables c.args.store.now.1) ((goal.Store-dyn g c.args.store.now).commits c.args.store.now.1))

pub returns-in_err-none-clause-refused : goal.returns-in_err-none-clause-refused
returns-in_err-none-clause-refused g c = if_err _ c.from_residual-in_err-none.result (no_events c.args.catalog.now (session c.args.catalog.now c.args.main.now c.args.arg.now) c.args.fuel ((goal.Store-dyn g c.args.store.now).tables c.args.store.now.1) ((goal.Store-dyn g c.args.store.now).commits c.args.store.now.1))

pub returns-in_err-scope-clause-refused : goal.returns-in_err-scope-clause-refused
returns-in_err-scope-clause-refused g c = if_err _ c.from_residual-in_err-scope.result (no_events c.args.catalog.now (session c.args.catalog.now c.args.main.now c.args.arg.now) c.args.fuel ((goal.Store-dyn g c.args.store.now).tables c.args.store.now.1) ((goal.Store-dyn g c.args.store.now).commits c.args.store.now.1))

pub returns-clause-run : goal.returns-clause-run
returns-clause-run g c =
    let is : bind_all no_names c.args.main.now.params (text c.args.arg.now ∷ []) ≡ Some c.in-Some.scope = search rules in
    subst (λ names. IsRunBy c.args.catalog.now (λ r. eval (source c.args.catalog.now) (under names c.args.main.now.body) Client r) c.args.fuel ((goal.Store-dyn g (c.args.store.now.0, c.run.new.store)).tables c.run.new.store) (record { end = c.in_ok-end.end; log = c.run.new.machine.log; used = c.args.fuel - c.run.new.machine.fuel }) c.in_ok-end.end)
    (scope_is _ _ _ _ is) c.in_ok-end.ensures.ends.run
