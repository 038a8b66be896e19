use Rattle.std.proofs.Common.{drop}
use Rattle.lk_mono.proofs.Queueing.{Goes}
use Rattle.lk_mono.specs.Looks.{as_uses}
use Rattle.lk_mono.specs.Queues.{AreUsesNumbered, as_wanted}
use Rattle.lk_mono.proofs.queue.add_uses.Given as goal

abbrev pub invariant-loop-found : goal.invariant-loop-found
invariant-loop-found l = Goes (as_wanted l.wanted) (as_uses l.uses) l.fn.queue (as_uses (drop l.found-index l.uses)) l.queue × AreUsesNumbered l.grounds l.queue.listed
