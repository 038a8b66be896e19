use Rattle.std.proofs.Common.{◌≡◌, true, take}
use Rattle.std.specs.List.{AllZip}
use Rattle.lk_outside.specs.Scans.{IsScanned}
use Rattle.lk_outside.proofs.scans.scan_tables.Given as goal

abbrev pub invariant-loop-def : goal.invariant-loop-def
invariant-loop-def g l = record {
  name : (goal.Store-dyn g l.store.now).name l.store.now.1 ≡ (goal.Store-dyn g l.fn.store.now).name l.fn.store.now.1;
  under_way : (goal.Store-dyn g l.store.now).is_open l.store.now.1 ≡ true;
  tables : (goal.Store-dyn g l.store.now).tables l.store.now.1 ≡ (goal.Store-dyn g l.fn.store.now).tables l.fn.store.now.1;
  kept : (goal.Store-dyn g l.store.now).kept l.store.now.1 ≡ (goal.Store-dyn g l.fn.store.now).kept l.fn.store.now.1;
  commits : (goal.Store-dyn g l.store.now).commits l.store.now.1 ≡ (goal.Store-dyn g l.fn.store.now).commits l.fn.store.now.1;
  faults : (goal.Store-dyn g l.store.now).faults l.store.now.1 ≡ (goal.Store-dyn g l.fn.store.now).faults l.fn.store.now.1;
  scanned : AllZip (IsScanned ((goal.Store-dyn g l.fn.store.now).tables l.fn.store.now.1)) (take l.def-index l.defs) l.scanned;
}
