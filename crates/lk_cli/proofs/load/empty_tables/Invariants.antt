use Rattle.std.proofs.Common.{◌≡◌, map, take}
use Rattle.lk_cli.specs.Loading.{empty_table}
use Rattle.lk_cli.proofs.load.empty_tables.Given as goal

abbrev pub invariant-loop-def : goal.invariant-loop-def
invariant-loop-def l = l.tables ≡ map empty_table (take l.def-index l.defs)
