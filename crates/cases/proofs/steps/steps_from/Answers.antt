use Rattle.std.proofs.Common.{refl, subst, sym, ◌∙◌}
use Rattle.lk_types.specs.declared.ground.Ground.{Ground}
use Rattle.lk_machine.specs.Typed.{Leaves, MayStart, MaySteps}
use Rattle.lk_machine.specs.declared.state.Next.TheVariants as next
use Rattle.cases.proofs.steps.steps_from.Goals as goal

pub start-requires-clause-fit : goal.start-requires-clause-fit
start-requires-clause-fit c =
    let may = c.if-not-may_start.ensures refl in
    (may.0, subst (λ args. MayStart c.args.code.now.tables c.args.start.place c.args.start.label args may.0) (c.as_slice.ensures ∙ sym c.replace-args.ensures.value) may.1)

pub loop-init : goal.loop-init
loop-init c =
    let may = c.if-not-may_start.ensures refl in
    (may.0, c.in_ok-machine.ensures.typed may.0 (subst (λ args. MayStart c.args.code.now.tables c.args.start.place c.args.start.label args may.0) (c.as_slice.ensures ∙ sym c.replace-args.ensures.value) may.1))

pub loop-preserved : goal.loop-preserved
loop-preserved c =
    let tables = c.args.code.now.tables in
    let before = c.loop.invariant in
    let kept : Leaves tables c.step.new.self before.0 next.More = subst (Leaves tables c.step.new.self before.0) c.in-More.is (c.in_ok-last.ensures.kept before.0 before.1) in
    let may = kept.0 in
    (before.0, subst (λ m. MaySteps tables m before.0) (sym c.in_ok-push_more-in-More.ensures) (may.0, record { place = may.1.place; next = may.1.next; frames = may.1.frames }, may.2))
