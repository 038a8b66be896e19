use Rattle.std.proofs.Common.{refl, sym, ap, subst, ◌∙◌, inl, ◌<◌, ◌≤◌}
use Rattle.std.proofs.lemmas.Option.{none-some}
use Rattle.std.proofs.lemmas.Result.{IfOk-weaker}
use Rattle.lk_ir.specs.Tables.{form_at}
use Rattle.lk_machine.proofs.Handing.{hands_part, hands_turn, has_cont, has_form, has_home, next, part_of, turn_of}
use Rattle.lk_machine.proofs.Having.{ends_well, one_frame}
use Rattle.lk_machine.proofs.state.State.hand.Goals as goal

pub returns-then-len-eq1-clause-leads : goal.returns-then-len-eq1-clause-leads
returns-then-len-eq1-clause-leads c =
    let one = one_frame c.args.self.now.stack (sym c.len.ensures ∙ c.if-len-eq1.true) in
    inl (refl, one.0, one.1)

pub returns-then-len-eq1-clause-kept : goal.returns-then-len-eq1-clause-kept
returns-then-len-eq1-clause-kept c =
    let one = one_frame c.args.self.now.stack (sym c.len.ensures ∙ c.if-len-eq1.true) in
    ends_well c.args.tables.now c.requires.run.sound c.args.self.now c.args.value one.0 one.1

pub unreachable-requires-in_default-home_of : goal.unreachable-requires-in_default-home_of
unreachable-requires-in_default-home_of c =
    let may = c.requires.typed in
    let at = has_home c.args.tables.now c.requires.run c.args.self.now c.pop.new.self c.in-Some.frame c.in-Some.ensures (λ one. c.if-len-eq1.false (c.len.ensures ∙ one)) may.0 may.1 may.3 in
    c.in_default-home_of.not-Some at.home (c.home_of.ensures ∙ at.homed)

pub unreachable-requires-in_default-form_at : goal.unreachable-requires-in_default-form_at
unreachable-requires-in_default-form_at c =
    let may = c.requires.typed in
    let at = has_form c.args.tables.now c.requires.run c.args.self.now c.pop.new.self c.in-Some.frame c.in-Some.ensures (λ one. c.if-len-eq1.false (c.len.ensures ∙ one)) may.0 may.1 may.3 c.in-Some-home_of.home (sym c.home_of.ensures ∙ c.in-Some-home_of.is) in
    none-some at.0 (c.in_default-form_at.ensures ∙ ap (λ f. form_at f c.in-Some-home_of.home.node) c.get.ensures ∙ at.1)

pub unreachable-requires-in_default-cont_at : goal.unreachable-requires-in_default-cont_at
unreachable-requires-in_default-cont_at c =
    let may = c.requires.typed in
    let at = has_cont c.args.tables.now c.requires.run c.args.self.now c.pop.new.self c.in-Some.frame c.in-Some.ensures (λ one. c.if-len-eq1.false (c.len.ensures ∙ one)) may.0 may.1 may.3 c.in-Some-home_of.home (sym c.home_of.ensures ∙ c.in-Some-home_of.is) in
    none-some at.0 (c.in_default-cont_at.ensures ∙ at.1)

pub resume_part-requires-clause-typed : goal.resume_part-requires-clause-typed
resume_part-requires-clause-typed c =
    let may = c.requires.typed in
    let at = next c.args.tables.now c.requires.run c.args.self.now c.pop.new.self c.in-Some.frame c.in-Some.ensures (λ one. c.if-len-eq1.false (c.len.ensures ∙ one)) may.0 may.1 may.3 c.in-Some-home_of.home c.in-Some-form_at.form.now c.in-Some-cont_at.cont.now
    (sym c.home_of.ensures ∙ c.in-Some-home_of.is) (ap (λ f. form_at f c.in-Some-home_of.home.node) (sym c.get.ensures) ∙ sym c.in-Some-form_at.ensures) (sym c.in-Some-cont_at.ensures) in (
      at.info.result,
      may.1,
      part_of c.args.tables.now c.requires.run c.args.self.now c.pop.new.self c.in-Some.frame c.in-Some.ensures (λ one. c.if-len-eq1.false (c.len.ensures ∙ one)) may.0 may.1 may.3 c.in-Some-home_of.home c.in-Some-form_at.form.now c.in-Some-cont_at.cont.now
          (sym c.home_of.ensures ∙ c.in-Some-home_of.is) (ap (λ f. form_at f c.in-Some-home_of.home.node) (sym c.get.ensures) ∙ sym c.in-Some-form_at.ensures) (sym c.in-Some-cont_at.ensures) c.args.value may.2 c.env_of-env.result c.env_of-env.ensures (subst (λ n. c.in-Some-home_of.home.position < n) c.len-2.ensures c.if-position-len.true),
      at.frames,
      may.4,
    )

pub resume_turn-requires-clause-typed : goal.resume_turn-requires-clause-typed
resume_turn-requires-clause-typed c =
    let may = c.requires.typed in
    let at = next c.args.tables.now c.requires.run c.args.self.now c.pop.new.self c.in-Some.frame c.in-Some.ensures (λ one. c.if-len-eq1.false (c.len.ensures ∙ one)) may.0 may.1 may.3 c.in-Some-home_of.home c.in-Some-form_at.form.now c.in-Some-cont_at.cont.now
    (sym c.home_of.ensures ∙ c.in-Some-home_of.is) (ap (λ f. form_at f c.in-Some-home_of.home.node) (sym c.get.ensures) ∙ sym c.in-Some-form_at.ensures) (sym c.in-Some-cont_at.ensures) in (
      at.info.result,
      may.1,
      turn_of c.args.tables.now c.requires.run c.args.self.now c.pop.new.self c.in-Some.frame c.in-Some.ensures (λ one. c.if-len-eq1.false (c.len.ensures ∙ one)) may.0 may.1 may.3 c.in-Some-home_of.home c.in-Some-form_at.form.now c.in-Some-cont_at.cont.now
          (sym c.home_of.ensures ∙ c.in-Some-home_of.is) (ap (λ f. form_at f c.in-Some-home_of.home.node) (sym c.get.ensures) ∙ sym c.in-Some-form_at.ensures) (sym c.in-Some-cont_at.ensures) c.args.value may.2 c.env_of-env.result c.env_of-env.ensures (subst (λ n. n ≤ c.in-Some-home_of.home.position) c.len-2.ensures c.if-position-len.false),
      at.frames,
      may.4,
    )

pub returns-then-position-len-clause-leads : goal.returns-then-position-len-clause-leads
returns-then-position-len-clause-leads c =
    let may = c.requires.typed in
    IfOk-weaker c.resume_part.result _ _ (λ answer leads. hands_part c.args.tables.now c.requires.run c.args.self.now c.pop.new.self c.in-Some.frame c.in-Some.ensures (λ one. c.if-len-eq1.false (c.len.ensures ∙ one)) may.0 may.1 may.3 c.in-Some-home_of.home c.in-Some-form_at.form.now c.in-Some-cont_at.cont.now
    (sym c.home_of.ensures ∙ c.in-Some-home_of.is) (ap (λ f. form_at f c.in-Some-home_of.home.node) (sym c.get.ensures) ∙ sym c.in-Some-form_at.ensures) (sym c.in-Some-cont_at.ensures) c.args.value may.2 c.env_of-env.result c.env_of-env.ensures (subst (λ n. c.in-Some-home_of.home.position < n) c.len-2.ensures c.if-position-len.true) c.resume_part.new.self answer leads) c.resume_part.ensures.leads

pub returns-then-position-len-clause-kept : goal.returns-then-position-len-clause-kept
returns-then-position-len-clause-kept c =
    IfOk-weaker c.resume_part.result _ _ (λ answer moves t u fit frames.
    let at = next c.args.tables.now c.requires.run c.args.self.now c.pop.new.self c.in-Some.frame c.in-Some.ensures (λ one. c.if-len-eq1.false (c.len.ensures ∙ one)) t u frames c.in-Some-home_of.home c.in-Some-form_at.form.now c.in-Some-cont_at.cont.now
    (sym c.home_of.ensures ∙ c.in-Some-home_of.is) (ap (λ f. form_at f c.in-Some-home_of.home.node) (sym c.get.ensures) ∙ sym c.in-Some-form_at.ensures) (sym c.in-Some-cont_at.ensures) in
    moves at.info.result u (part_of c.args.tables.now c.requires.run c.args.self.now c.pop.new.self c.in-Some.frame c.in-Some.ensures (λ one. c.if-len-eq1.false (c.len.ensures ∙ one)) t u frames c.in-Some-home_of.home c.in-Some-form_at.form.now c.in-Some-cont_at.cont.now
    (sym c.home_of.ensures ∙ c.in-Some-home_of.is) (ap (λ f. form_at f c.in-Some-home_of.home.node) (sym c.get.ensures) ∙ sym c.in-Some-form_at.ensures) (sym c.in-Some-cont_at.ensures) c.args.value fit c.env_of-env.result c.env_of-env.ensures (subst (λ n. c.in-Some-home_of.home.position < n) c.len-2.ensures c.if-position-len.true)) at.frames) c.resume_part.ensures.kept

pub returns-else-position-len-clause-leads : goal.returns-else-position-len-clause-leads
returns-else-position-len-clause-leads c =
    let may = c.requires.typed in
    IfOk-weaker c.resume_turn.result _ _ (λ answer leads. hands_turn c.args.tables.now c.requires.run c.args.self.now c.pop.new.self c.in-Some.frame c.in-Some.ensures (λ one. c.if-len-eq1.false (c.len.ensures ∙ one)) may.0 may.1 may.3 c.in-Some-home_of.home c.in-Some-form_at.form.now c.in-Some-cont_at.cont.now
    (sym c.home_of.ensures ∙ c.in-Some-home_of.is) (ap (λ f. form_at f c.in-Some-home_of.home.node) (sym c.get.ensures) ∙ sym c.in-Some-form_at.ensures) (sym c.in-Some-cont_at.ensures) c.args.value may.2 c.env_of-env.result c.env_of-env.ensures (subst (λ n. n ≤ c.in-Some-home_of.home.position) c.len-2.ensures c.if-position-len.false) c.resume_turn.new.self answer leads) c.resume_turn.ensures.leads

pub returns-else-position-len-clause-kept : goal.returns-else-position-len-clause-kept
returns-else-position-len-clause-kept c =
    IfOk-weaker c.resume_turn.result _ _ (λ answer moves t u fit frames.
    let at = next c.args.tables.now c.requires.run c.args.self.now c.pop.new.self c.in-Some.frame c.in-Some.ensures (λ one. c.if-len-eq1.false (c.len.ensures ∙ one)) t u frames c.in-Some-home_of.home c.in-Some-form_at.form.now c.in-Some-cont_at.cont.now
    (sym c.home_of.ensures ∙ c.in-Some-home_of.is) (ap (λ f. form_at f c.in-Some-home_of.home.node) (sym c.get.ensures) ∙ sym c.in-Some-form_at.ensures) (sym c.in-Some-cont_at.ensures) in
    moves at.info.result u (turn_of c.args.tables.now c.requires.run c.args.self.now c.pop.new.self c.in-Some.frame c.in-Some.ensures (λ one. c.if-len-eq1.false (c.len.ensures ∙ one)) t u frames c.in-Some-home_of.home c.in-Some-form_at.form.now c.in-Some-cont_at.cont.now
    (sym c.home_of.ensures ∙ c.in-Some-home_of.is) (ap (λ f. form_at f c.in-Some-home_of.home.node) (sym c.get.ensures) ∙ sym c.in-Some-form_at.ensures) (sym c.in-Some-cont_at.ensures) c.args.value fit c.env_of-env.result c.env_of-env.ensures (subst (λ n. n ≤ c.in-Some-home_of.home.position) c.len-2.ensures c.if-position-len.false)) at.frames) c.resume_turn.ensures.kept
