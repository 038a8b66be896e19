use Rattle.std.proofs.Common.{sym, subst, ◌∙◌}
use Rattle.std.proofs.lemmas.Result.{IfOk-weaker}
use Rattle.lk_mono.proofs.Judging.{main_judged, others_judged}
use Rattle.lk_mono.specs.Held.{AreHeld}
use Rattle.lk_mono.proofs.program.shape_fault.Goals as goal

pub returns-then-answers_function : goal.returns-then-answers_function
returns-then-answers_function c source found mains helpers =
    main_judged c.args.main_at found.mains found.helpers c.args.instances.now.mains c.at-main.result.now found.main_uses c.at-main.ensures (sym c.answers_function.ensures ∙ c.if-answers_function.true)

pub returns : goal.returns
returns c = IfOk-weaker c.first_refused.result _ _ (λ fault is source found mains helpers. others_judged c.args.main_at found.mains found.helpers c.args.instances.now.mains c.at-main.result.now fault found.main_uses c.at-main.ensures (sym c.answers_function.ensures ∙ c.if-answers_function.false)
    (is source found.mains found.helpers
    (subst (λ held. AreHeld source held found.mains) (sym c.as_slice.ensures) found.mains_held) (subst (λ held. AreHeld source held found.helpers) (sym c.as_slice-2.ensures) found.helpers_held)
    mains helpers found.distinct))
    c.first_refused.ensures
