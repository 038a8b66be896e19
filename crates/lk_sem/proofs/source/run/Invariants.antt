use Rattle.std.proofs.Common.{◌≡◌, false}
use Rattle.lk_sem.specs.Machine.{outcome, weight}
use Rattle.lk_sem.specs.SourceRuns.{commits_after}
use Rattle.lk_sem.specs.Standing.{Stands}
use Rattle.lk_sem.proofs.source.run.Given as goal

abbrev pub invariant-loop-next : goal.invariant-loop-next
invariant-loop-next g l = record {
  stands : Stands l.catalog l.fn.machine (outcome l.catalog l.fn.first) ((goal.Store-dyn g l.fn.store.now).tables l.fn.store.now.1) ((goal.Store-dyn g l.store.now).tables l.store.now.1) l.machine l.next;
  name : (goal.Store-dyn g l.store.now).name l.store.now.1 ≡ (goal.Store-dyn g l.fn.store.now).name l.fn.store.now.1;
  idle : (goal.Store-dyn g l.store.now).is_open l.store.now.1 ≡ false;
  faults : (goal.Store-dyn g l.store.now).faults l.store.now.1 ≡ (goal.Store-dyn g l.fn.store.now).faults l.fn.store.now.1;
  commits : (goal.Store-dyn g l.store.now).commits l.store.now.1 ≡ commits_after l.machine.log ((goal.Store-dyn g l.fn.store.now).commits l.fn.store.now.1);
}

abbrev pub decreases-loop-next : goal.decreases-loop-next
decreases-loop-next g l = weight l.machine l.next
