-- Why a call is refused.
use Rattle.std.specs.Prelude.{◌≡◌, ◌⊎◌, ◌≤◌, ℕ, Result, Ok, Err, IsErrOf, OnOk}
use Rattle.lk_exec.specs.declared.error.ExecError.{ExecError}
use Rattle.lk_exec.specs.declared.error.ExecError.TheVariants as error
use Rattle.lk_outside.specs.Causes.{Rose}
use Rattle.lk_outside.specs.declared.fault.OutFault.{OutFault}
use Rattle.lk_outside.specs.declared.fault.OutFault.TheVariants as fault

-- what a fault of the store is to the caller
abbrev pub raised : OutFault → ExecError
raised fault.Failed = error.StoreFault
raised fault.NoMemory = error.NoMemory

-- the same answer, with its fault so
abbrev pub raised_in : {T : Type 0} → Result T OutFault → Result T ExecError
raised_in (Ok x) = Ok x
raised_in (Err e) = Err (raised e)

-- so it is where the answer is that a table would have so many rows
abbrev pub IfFull : {T : Type 0} → Result T ExecError → (ℕ → Type 0) → Type 0
IfFull (Err (error.TableFull size)) P = P size
IfFull (Err other) P = Unit {0}
IfFull (Ok x) P = Unit {0}

-- The count of the store's faults didn't fall. It rose where the answer is `StoreFault`, but for a reason that isn't counted; where the call
-- passed it is as before.
pub record HasCause {T : Type 0} (before now : ℕ) (uncounted : Type 0) (result : Result T ExecError) : Type 0 where
  pub later : before ≤ now
  pub failed : IsErrOf result error.StoreFault → Rose before now ⊎ uncounted
  pub passed : OnOk result (now ≡ before)
