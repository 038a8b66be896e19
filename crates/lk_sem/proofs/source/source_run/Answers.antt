use Rattle.std.proofs.Common.{sym, subst}
use Rattle.std.proofs.lemmas.Result.{IfErr-weaker}
use Rattle.lk_evaluation.specs.Source.{session}
use Rattle.lk_sem.specs.Standing.{IsSound}
use Rattle.lk_sem.proofs.Begun.{no_session, session_history}
use Rattle.lk_sem.proofs.Ending.{if_err}
use Rattle.lk_sem.proofs.MainParams.{main_params}
use Rattle.lk_sem.proofs.Sound.{sound_session}
use Rattle.lk_sem.proofs.source.source_run.Goals as goal

pub returns-in_err-catalog-clause-refused : goal.returns-in_err-catalog-clause-refused
returns-in_err-catalog-clause-refused g c = if_err _ c.from_residual.result (no_session c.args.program.now c.args.arg.now c.args.fuel ((goal.Store-dyn g c.args.store.now).tables c.args.store.now.1) ((goal.Store-dyn g c.args.store.now).commits c.args.store.now.1))

pub run_main-requires-clause-one : goal.run_main-requires-clause-one
run_main-requires-clause-one g c = main_params c.args.program.now c.in-Some.main.now c.in-Some.ensures

pub run_main-requires-clause-sound : goal.run_main-requires-clause-sound
run_main-requires-clause-sound g c =
    let laws = c.soundness_laws.ensures in
    subst (λ p. IsSound p (session p c.in-Some.main.now c.args.arg.now) c.args.fuel) (sym c.in_ok-catalog.ensures)
    (sound_session c.args.program.now laws.plain laws.session c.requires.apart c.requires.shaped c.in-Some.main.now c.in-Some.ensures c.args.arg.now c.args.fuel)

pub returns-clause-refused : goal.returns-clause-refused
returns-clause-refused g c =
    IfErr-weaker c.run_main.result _ _
    (λ error history. session_history c.args.program.now c.in-Some.main.now c.args.arg.now c.args.fuel _ _ _ _ c.in-Some.ensures history)
    (rw c.in_ok-catalog.ensures at c.run_main.ensures.refused)
