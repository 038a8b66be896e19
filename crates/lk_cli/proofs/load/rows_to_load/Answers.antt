use Rattle.std.proofs.Common.{subst, sym}
use Rattle.std.specs.List.{AllZip}
use Rattle.lk_cli.proofs.ScannedTables.{empty_fit}
use Rattle.lk_cli.specs.Loading.{IsOfTable}
use Rattle.lk_cli.proofs.load.rows_to_load.Goals as goal

pub returns-in_ok-empty_tables-in-None-clause-fit : goal.returns-in_ok-empty_tables-in-None-clause-fit
returns-in_ok-empty_tables-in-None-clause-fit g c = subst (AllZip IsOfTable c.args.defs.now) (sym c.in_ok-empty_tables-in-None.ensures.empty) (empty_fit c.args.defs.now)
