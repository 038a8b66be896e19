-- A sink in memory.
use Rattle.std.specs.Prelude.{ℕ, List, ◌++◌, Result, Ok, Err}
use Rattle.lk_outside.specs.Calls.{Calls, calls_after}
use Rattle.lk_outside.specs.Causes.{count_after}
use Rattle.lk_outside.specs.declared.fault.OutFault.{OutFault}

-- the bytes taken, the calls of `write`, and the count of faults
pub record SinkState : Type 0 where
  pub taken : List ℕ
  pub calls : Calls
  pub faults : ℕ

-- the bytes taken, after a write of this piece
abbrev pub taken_after : {T : Type 0} → Result T OutFault → List ℕ → List ℕ → List ℕ
taken_after (Ok x) piece before = before ++ piece
taken_after (Err e) piece before = before

-- the state after a write of this piece
abbrev pub state_after : {T : Type 0} → Result T OutFault → List ℕ → SinkState → SinkState
state_after result piece before = record {
  taken = taken_after result piece before.taken;
  calls = calls_after before.calls;
  faults = count_after result before.faults;
}
