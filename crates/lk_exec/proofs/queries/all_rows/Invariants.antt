use Rattle.std.proofs.Common.{take, IsPermutation}
use Rattle.lk_ast.specs.Tables.{rows_of}
use Rattle.lk_sql.specs.Meaning.{all_rows, no_rows}
use Rattle.lk_exec.proofs.queries.all_rows.Given as goal

abbrev pub invariant-loop-select : goal.invariant-loop-select
invariant-loop-select l = IsPermutation (all_rows (rows_of l.over.tables.now) l.over.params.now (take l.select-index l.selects) no_rows) l.found
