-- The reads that failed.
use Rattle.std.specs.Prelude.{ℕ, List, Result}
use Rattle.lk_outside.specs.Causes.{count_after}
use Rattle.lk_outside.specs.Files.{last_failed}
use Rattle.lk_outside.specs.declared.fault.OutFault.{OutFault}

-- the name of the last read that failed, at first the empty text, and the count of faults
pub record Failures : Type 0 where
  pub failed : List ℕ
  pub faults : ℕ

-- that name and that count after a read of this name
abbrev pub failures_after : {T : Type 0} → Result T OutFault → List ℕ → Failures → Failures
failures_after result name before =
    record { failed = last_failed result name before.failed; faults = count_after result before.faults }
