use Rattle.lk_outside.proofs.ScannedTables.{is_counted}
use Rattle.lk_outside.proofs.scans.scan_fitting.Goals as goal

pub returns-clause-cause : goal.returns-clause-cause
returns-clause-cause g c = is_counted _ _ ((goal.Store-dyn g c.args.store.now).tables c.args.store.now.1) c.args.defs.now c.scan_tables.result c.requires.fit c.scan_tables.ensures.cause
