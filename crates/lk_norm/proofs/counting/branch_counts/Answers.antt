use Rattle.std.proofs.Common.{subst}
use Rattle.std.proofs.lemmas.List.{drop_all}
use Rattle.lk_norm.proofs.Capped.{IsCounted, counted_all, counted_step}
use Rattle.lk_norm.proofs.counting.branch_counts.Goals as goal

pub loop-part-preserved : goal.loop-part-preserved
loop-part-preserved c = counted_step c.args.parts.now c.loop-part.part-index c.loop-part.found _ _ c.part-item.result _ _ c.loop-part-test.true c.part-item.is c.branch_count-count.ensures c.as_slice.ensures c.in_ok-push.ensures.ok c.loop-part.invariant

pub returns : goal.returns
returns c = counted_all c.args.parts.now c.loop-part.found (subst (λ rest. IsCounted c.args.parts.now rest c.loop-part.found) (drop_all c.loop-part.part-index c.args.parts.now c.loop-part-test.false) c.loop-part.invariant)
