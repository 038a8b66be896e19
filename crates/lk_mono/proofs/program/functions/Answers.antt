use Rattle.std.proofs.Common.{rules, inl, inr, refl, sym, ◌∙◌}
use Rattle.lk_mono.proofs.FunctionLists.{counted, ends, goes, starts}
use Rattle.lk_mono.proofs.program.functions.Goals as goal

pub loop-usage-init : goal.loop-usage-init
loop-usage-init c = (
  (λ source mains helpers in_helper held are uses called.
      starts source mains helpers in_helper held _ _ c.args.listed _ c.args.bodies _ c.args.calls c.new-funs.ensures (search rules) (search rules) (search rules) are uses called),
  search rules,
  search rules,
  search rules,
)

pub loop-usage-preserved : goal.loop-usage-preserved
loop-usage-preserved c = (
  (λ source mains helpers in_helper held are uses called.
      goes source mains helpers in_helper held c.loop-usage.funs _ _ _ _ _ _ c.in-Some.usage c.in-Some.body c.in-Some.calls _ _ c.in-Some.ensures.steps.0.0 c.in-Some.ensures.steps.1.0.0 c.in-Some.ensures.steps.1.1.0 refl refl refl refl c.in_ok-push.ensures.ok
      (c.loop-usage.invariant.0 source mains helpers in_helper held are uses called)),
  counted _ _ _ _ c.in-Some.usage c.in-Some.ensures.steps.0.1 c.in-Some.ensures.steps.0.0 c.loop-usage.invariant.1,
  counted _ _ _ _ c.in-Some.body c.in-Some.ensures.steps.1.0.1 c.in-Some.ensures.steps.1.0.0 c.loop-usage.invariant.2,
  counted _ _ _ _ c.in-Some.calls c.in-Some.ensures.steps.1.1.1 c.in-Some.ensures.steps.1.1.0 c.loop-usage.invariant.3,
)

pub returns : goal.returns
returns c source mains helpers in_helper held are uses called =
    ends source mains helpers in_helper held c.loop-usage.funs _ _ _
    (elim c.in-None.ensures.steps [
      | inl w ↦ inl (sym c.loop-usage.invariant.1 ∙ w.1.0)
      | inr w ↦ inr (elim w.1 [ inl v ↦ inl (sym c.loop-usage.invariant.2 ∙ v.1.0) | inr v ↦ inr (sym c.loop-usage.invariant.3 ∙ v.1.0) ])
    ])
    (c.loop-usage.invariant.0 source mains helpers in_helper held are uses called)
