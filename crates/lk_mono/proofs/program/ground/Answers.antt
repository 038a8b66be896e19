use Rattle.std.proofs.Common.{subst}
use Rattle.std.proofs.lemmas.Result.{IfOk-weaker}
use Rattle.lk_mono.proofs.Closed.{instanced, shaped}
use Rattle.lk_mono.proofs.Keeping.{grounded_keeps}
use Rattle.lk_mono.proofs.PlainSessions.{same_events, shows_plain}
use Rattle.lk_mono.proofs.Ranks.{none_calls_itself, ranked}
use Rattle.lk_mono.specs.Grounded.{IsGrounded}
use Rattle.lk_mono.specs.Instances.{AreTooMany, IsTooLarge}
use Rattle.lk_mono.specs.Refused.{HasFault}
use Rattle.lk_mono.proofs.program.ground.Goals as goal

pub returns-clause-too_many : goal.returns-clause-too_many
returns-clause-too_many c is = subst (λ p. AreTooMany p c.args.typed.now.schemes c.args.typed.now.types) c.program-program.ensures.same (c.ground_source.ensures.too_many is)

pub returns-clause-too_large : goal.returns-clause-too_large
returns-clause-too_large c at is = subst (λ p. IsTooLarge p c.args.typed.now.schemes c.args.typed.now.types at) c.program-program.ensures.same (c.ground_source.ensures.too_large at is)

pub returns-clause-shape : goal.returns-clause-shape
returns-clause-shape c kind at is = subst (λ p. HasFault p c.args.typed.now.schemes c.args.typed.now.types kind at) c.program-program.ensures.same (c.ground_source.ensures.shape kind at is)

pub returns-clause-keeps : goal.returns-clause-keeps
returns-clause-keeps c = IfOk-weaker c.ground_source.result _ _ (λ done is.
    grounded_keeps c.ground_laws.ensures.instances c.args.program.now c.args.typed.now.schemes c.args.typed.now.types (rw c.program-program.ensures.same at c.program-program.ensures.bound) done
    (subst (λ p. IsGrounded p c.args.typed.now.schemes c.args.typed.now.types done) c.program-program.ensures.same is))
    c.ground_source.ensures.grounded

pub returns-clause-instances : goal.returns-clause-instances
returns-clause-instances c = IfOk-weaker c.ground_source.result _ _ (λ done is.
    instanced c.principal_laws.ensures.used c.soundness_laws.ensures.instance c.args.program.now c.args.typed.now.schemes c.args.typed.now.types (rw c.program-program.ensures.same at c.program-program.ensures.bound) c.requires.typed done
    (subst (λ p. IsGrounded p c.args.typed.now.schemes c.args.typed.now.types done) c.program-program.ensures.same is))
    c.ground_source.ensures.grounded

pub returns-clause-plain : goal.returns-clause-plain
returns-clause-plain c = IfOk-weaker c.ground_source.result _ _ (λ done is.
    shows_plain c.soundness_laws.ensures.session c.soundness_laws.ensures.plain c.args.program.now
    (shaped c.principal_laws.ensures.used c.soundness_laws.ensures.instance c.args.program.now c.args.typed.now.schemes c.args.typed.now.types (rw c.program-program.ensures.same at c.program-program.ensures.bound) c.requires.typed done
    (subst (λ p. IsGrounded p c.args.typed.now.schemes c.args.typed.now.types done) c.program-program.ensures.same is)))
    c.ground_source.ensures.grounded

pub returns-clause-events : goal.returns-clause-events
returns-clause-events c = IfOk-weaker c.ground_source.result _ _ (λ done is.
    let bound = rw c.program-program.ensures.same at c.program-program.ensures.bound in
    let grounded = subst (λ p. IsGrounded p c.args.typed.now.schemes c.args.typed.now.types done) c.program-program.ensures.same is in
    same_events c.args.program.now done
    (grounded_keeps c.ground_laws.ensures.instances c.args.program.now c.args.typed.now.schemes c.args.typed.now.types bound done grounded)
    (shows_plain c.soundness_laws.ensures.session c.soundness_laws.ensures.plain c.args.program.now
    (shaped c.principal_laws.ensures.used c.soundness_laws.ensures.instance c.args.program.now c.args.typed.now.schemes c.args.typed.now.types bound c.requires.typed done grounded)))
    c.ground_source.ensures.grounded

pub returns-clause-ranked : goal.returns-clause-ranked
returns-clause-ranked c = IfOk-weaker c.ground_source.result _ _ (λ done is.
    ranked c.principal_laws.ensures.used c.args.program.now c.args.typed.now.schemes c.args.typed.now.types c.requires.typed (rw c.program-program.ensures.same at c.program-program.ensures.bound) done
    (subst (λ p. IsGrounded p c.args.typed.now.schemes c.args.typed.now.types done) c.program-program.ensures.same is))
    c.ground_source.ensures.grounded

pub returns-clause-no_cycle : goal.returns-clause-no_cycle
returns-clause-no_cycle c = IfOk-weaker c.ground_source.result _ _ (λ done is.
    none_calls_itself c.principal_laws.ensures.used c.args.program.now c.args.typed.now.schemes c.args.typed.now.types c.requires.typed (rw c.program-program.ensures.same at c.program-program.ensures.bound) done
    (subst (λ p. IsGrounded p c.args.typed.now.schemes c.args.typed.now.types done) c.program-program.ensures.same is))
    c.ground_source.ensures.grounded
