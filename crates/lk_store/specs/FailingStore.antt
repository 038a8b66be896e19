-- A store in memory whose calls fail by number.
use Rattle.std.specs.Prelude.{ℕ, Result}
use Rattle.lk_outside.specs.Calls.{Calls, calls_after}
use Rattle.lk_outside.specs.Causes.{count_after}
use Rattle.lk_outside.specs.declared.fault.OutFault.{OutFault}
use Rattle.lk_store.specs.MemoryStore.{MemoryState}

-- the store in memory, its calls that may fail, and the count of faults
pub record FailingState : Type 0 where
  pub memory : MemoryState
  pub calls : Calls
  pub faults : ℕ

-- the state after one more call that may fail, with this state of the store in memory
abbrev pub called : {T : Type 0} → Result T OutFault → FailingState → MemoryState → FailingState
called result before memory = record {
  memory = memory;
  calls = calls_after before.calls;
  faults = count_after result before.faults;
}
