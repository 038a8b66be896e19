use Rattle.std.proofs.Common.{ℕ, ◌-◌, length}
use Rattle.lk_mono.proofs.NumbersGrown.{Grows}
use Rattle.lk_mono.proofs.Walking.{IsOnWay}
use Rattle.lk_mono.specs.Held.{IsSound}
use Rattle.lk_mono.specs.Instances.{most_instances}
use Rattle.lk_mono.specs.Looks.{AreNumbered}
use Rattle.lk_mono.specs.Queues.{AreUsesNumbered, as_wanted}
use Rattle.lk_mono.specs.declared.body.Body.{Body}
use Rattle.lk_types.specs.Each.{Each}
use Rattle.lk_mono.proofs.body.walk_all.Given as goal

abbrev pub invariant-loop-alloc : goal.invariant-loop-alloc
invariant-loop-alloc l = ((others : ℕ) → IsSound l.source others l.fn.queue → IsOnWay l.source (as_wanted l.wanted) others l.fn.queue l.bodies l.queue)
    × AreUsesNumbered l.grounds l.queue.listed × Each (λ (b : Body). AreNumbered l.grounds b.uses) l.bodies × Grows l.initial.grounds l.grounds

abbrev pub decreases-loop-alloc : goal.decreases-loop-alloc
decreases-loop-alloc l = most_instances - length l.bodies
