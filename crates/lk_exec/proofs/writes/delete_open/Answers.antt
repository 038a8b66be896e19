use Rattle.std.proofs.Common.{subst, sym, true, ◌≡◌}
use Rattle.lk_ast.proofs.FittingRows.{fits_filter}
use Rattle.lk_ast.specs.Tables.{all_fit}
use Rattle.lk_exec.specs.Writings.{stays}
use Rattle.lk_exec.proofs.writes.delete_open.Goals as goal

pub put_rows-requires-clause-columns : goal.put_rows-requires-clause-columns
put_rows-requires-clause-columns g c =
    subst (λ rows. all_fit c.args.def.now rows ≡ true) (sym c.in_ok-rows.ensures)
    (fits_filter c.args.def.now (stays c.args.params.now c.args.cond.now) c.in_ok-there.there c.in_ok-there.ensures.listed.fit)
