use Rattle.std.proofs.Common.{inl, inr, refl, rules}
use Rattle.lk_mono.proofs.FindingMembers.{all_members, members_more, no_members}
use Rattle.lk_mono.proofs.member.Members.new.Goals as goal

pub loop-function-init : goal.loop-function-init
loop-function-init c = no_members _ _ _ _ _ _ _ _ c.new-list.ensures (search rules) c.in_ok-functions.ensures (search rules) refl

pub loop-function-preserved : goal.loop-function-preserved
loop-function-preserved c =
    members_more _ _ _ _ _ _ c.len-size.result _ _ _ _ c.in-Some.ensures.steps.0 c.in-Some.ensures.steps.1 c.in_ok-sites.ensures c.len-size.ensures c.in_ok-types.ensures c.behind-from.ensures c.in_ok-push.ensures.ok c.loop-function.invariant

pub returns : goal.returns
returns c = all_members _ _ _ _ _ (elim c.in-None.ensures.steps [ inl w ↦ inl w.1.0 | inr w ↦ inr w.1.0 ]) c.loop-function.invariant
