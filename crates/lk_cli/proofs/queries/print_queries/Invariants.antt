use Rattle.std.proofs.Common.{◌≡◌, take}
use Rattle.std.specs.List.{flat_map}
use Rattle.lk_cli.specs.Report.{query_line}
use Rattle.lk_cli.proofs.queries.print_queries.Given as goal

abbrev pub invariant-loop-query : goal.invariant-loop-query
invariant-loop-query l = l.text ≡ flat_map query_line (take l.query-index l.queries)
