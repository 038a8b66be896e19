-- Files in memory.
use Rattle.std.specs.Prelude.{◌⊎◌, ℕ, List, map, IsNone, Result}
use Rattle.std.specs.FinMap.{from_entries, get}
use Rattle.lk_outside.specs.Calls.{Calls, NextFails, calls_after}
use Rattle.lk_outside.specs.Failures.{Failures, failures_after}
use Rattle.lk_outside.specs.Files.{Contents}
use Rattle.lk_outside.specs.declared.entry.FileEntry.{FileEntry}
use Rattle.lk_outside.specs.declared.fault.OutFault.{OutFault}

-- what the files of a list contain; of two with one name the first counts
abbrev pub contents_of : List FileEntry → Contents
contents_of files = from_entries (map (λ file. (file.name, file.content)) files)

-- the files, the calls of `read`, and those that failed
pub record FilesState : Type 0 where
  pub files : List FileEntry
  pub calls : Calls
  pub failures : Failures

-- a read of this name is to fail: by its number, or since no file has the name
abbrev pub ReadFails : FilesState → List ℕ → Type 0
ReadFails state name = NextFails state.calls ⊎ IsNone (get (contents_of state.files) name)

-- the state after a read of this name
abbrev pub state_after : {T : Type 0} → Result T OutFault → List ℕ → FilesState → FilesState
state_after result name before =
    record before { calls = calls_after before.calls; failures = failures_after result name before.failures }
