-- Counts of faults, and why a call fails.
use Rattle.std.specs.Prelude.{◌≡◌, ◌⊎◌, ℕ, ◌+◌, ◌-◌, ◌^◌, ◌≤◌, min, Result, Ok, Err, IsErrOf, OnOk}
use Rattle.lk_outside.specs.declared.fault.OutFault.{OutFault}
use Rattle.lk_outside.specs.declared.fault.OutFault.TheVariants.{Failed, NoMemory}

-- one more than a count of type u64, whose greatest value stays
abbrev pub next_count : ℕ → ℕ
next_count count = min (count + 1) (2 ^ 64 - 1)

-- the count rose, or stands at the greatest value of u64
abbrev pub Rose : ℕ → ℕ → Type 0
Rose before now = next_count before ≤ now

-- The count didn't fall. It rose where the answer is `Failed`, and is as before where the call passed: so a fault that is passed over
-- on the way to an answer shows in it, up to the greatest `u64`.
pub record HasCause {T : Type 0} (before now : ℕ) (result : Result T OutFault) : Type 0 where
  pub later : before ≤ now
  pub failed : IsErrOf result Failed → Rose before now
  pub passed : OnOk result (now ≡ before)

-- the same, where it may be `Failed` for a reason that isn't counted
pub record HasCauseOr {T : Type 0} (before now : ℕ) (uncounted : Type 0) (result : Result T OutFault) : Type 0 where
  pub later : before ≤ now
  pub failed : IsErrOf result Failed → Rose before now ⊎ uncounted
  pub passed : OnOk result (now ≡ before)

-- the count after a call, where the calls that answer `Failed` are counted, and no others
abbrev pub count_after : {T : Type 0} → Result T OutFault → ℕ → ℕ
count_after (Err Failed) before = next_count before
count_after (Err NoMemory) before = before
count_after (Ok x) before = before
