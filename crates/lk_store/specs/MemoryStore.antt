-- A store in memory.
use Rattle.std.specs.Prelude.{◌≡◌, ℕ, List, [], Bool, true, false, Result, Ok, Err}
use Rattle.lk_ast.specs.declared.table.TableRows.{TableRows}
use Rattle.lk_outside.specs.Causes.{next_count}
use Rattle.lk_outside.specs.declared.fault.OutFault.{OutFault}

-- its tables, what they were at `begin`, whether a transaction is under way, and how many were committed
pub record MemoryState : Type 0 where
  pub tables : List TableRows
  pub kept : List TableRows
  pub is_open : Bool
  pub commits : ℕ

-- the state after `begin`
abbrev pub begun : {T : Type 0} → Result T OutFault → MemoryState → MemoryState
begun (Ok x) before = record before { kept = before.tables; is_open = true }
begun (Err e) before = before

-- the state after `abort`
abbrev pub aborted : MemoryState → MemoryState
aborted before = record before { tables = before.kept; kept = []; is_open = false }

-- the state after `commit`; a refused one is as an `abort`
abbrev pub committed : {T : Type 0} → Result T OutFault → MemoryState → MemoryState
committed (Ok x) before = record before { kept = []; is_open = false; commits = next_count before.commits }
committed (Err e) before = aborted before

-- nothing but the tables changed
abbrev pub ChangesTables : MemoryState → MemoryState → Type 0
ChangesTables before after = after ≡ record before { tables = after.tables }
