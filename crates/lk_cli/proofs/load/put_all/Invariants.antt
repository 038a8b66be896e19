use Rattle.std.proofs.Common.{◌≡◌, true, option_map}
use Rattle.std.specs.List.{AllZip}
use Rattle.std.specs.Vec.Iter.{into_iter_items}
use Rattle.lk_cli.specs.Loading.{IsOfTable, all_put}
use Rattle.lk_cli.proofs.load.put_all.Given as goal

abbrev pub invariant-loop-table : goal.invariant-loop-table
invariant-loop-table g l = record {
  name : (goal.Store-dyn g l.store.now).name l.store.now.1 ≡ (goal.Store-dyn g l.fn.store.now).name l.fn.store.now.1;
  under_way : (goal.Store-dyn g l.store.now).is_open l.store.now.1 ≡ true;
  kept : (goal.Store-dyn g l.store.now).kept l.store.now.1 ≡ (goal.Store-dyn g l.fn.store.now).kept l.fn.store.now.1;
  faults : (goal.Store-dyn g l.store.now).faults l.store.now.1 ≡ (goal.Store-dyn g l.fn.store.now).faults l.fn.store.now.1;
  commits : (goal.Store-dyn g l.store.now).commits l.store.now.1 ≡ (goal.Store-dyn g l.fn.store.now).commits l.fn.store.now.1;
  fit : AllZip IsOfTable l.left (into_iter_items l.table-iterator);
  put : option_map (all_put (into_iter_items l.table-iterator)) ((goal.Store-dyn g l.store.now).tables l.store.now.1) ≡ option_map (all_put l.fn.loaded) ((goal.Store-dyn g l.fn.store.now).tables l.fn.store.now.1);
}
