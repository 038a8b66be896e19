use Rattle.lk_mono.proofs.Gathering.{Gathers}
use Rattle.lk_mono.specs.Queues.{AreUsesNumbered}
use Rattle.lk_mono.proofs.body.gather.Given as goal

abbrev pub invariant-loop-body : goal.invariant-loop-body
invariant-loop-body l = Gathers l.mains l.fn.queue l.body-index l.queue × AreUsesNumbered l.grounds l.queue.listed
