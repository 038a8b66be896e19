use Rattle.std.proofs.Common.{rules, ◌≡◌, ◌+◌, ◌++◌, ◌∷◌, [], take, refl, add-one}
use Rattle.std.proofs.Math.Seq.{take-suc}
use Rattle.lk_outside.proofs.ScannedTables.{cause_among, scanned_more}
use Rattle.lk_outside.proofs.scans.scan_tables.Goals as goal

pub loop-def-preserved : goal.loop-def-preserved
loop-def-preserved g c =
    let more : take (c.loop-def.def-index + 1) c.args.defs.now ≡ take c.loop-def.def-index c.args.defs.now ++ c.def-item.result ∷ [] = rw (add-one, take-suc c.args.defs.now c.loop-def.def-index c.def-item.result c.loop-def-test.true, ← c.def-item.is) refl in
    let told = (goal.Store-dyn g c.args.store.now).tables c.args.store.now.1 in
    record {
      name = search rules;
      under_way = search rules;
      tables = search rules;
      kept = search rules;
      commits = search rules;
      faults = search rules;
      scanned = rw (more, c.in_ok-push.ensures.ok) (scanned_more told (take c.loop-def.def-index c.args.defs.now) c.def-item.result c.loop-def.scanned c.in-Ok.table c.loop-def.invariant.scanned
          (rw c.loop-def.invariant.tables at c.in-Ok.ensures.scanned));
    }

pub returns-in-Err-clause-cause : goal.returns-in-Err-clause-cause
returns-in-Err-clause-cause g c =
    cause_among _ _ _ _ _ c.args.defs.now c.loop-def.def-index c.def-item.result c.in-Err.fault c.loop-def.invariant.faults c.loop-def.invariant.tables c.loop-def-test.true c.def-item.is c.in-Err.ensures.cause
