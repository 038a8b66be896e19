use Rattle.std.proofs.Common.{◌≡◌, map, take}
use Rattle.lk_ast.specs.Tables.{rows_of}
use Rattle.lk_exec.specs.Scopes.{scope_of}
use Rattle.lk_sql.specs.Meaning.{cell}
use Rattle.lk_exec.proofs.product.row_of.Given as goal

abbrev pub invariant-loop-out : goal.invariant-loop-out
invariant-loop-out l = l.cells ≡ map (λ out. cell (rows_of l.over.tables.now) l.over.params.now out (scope_of l.scope)) (take l.out-index l.outs)
