use Rattle.std.proofs.Common.{subst, sym, true, ◌≡◌}
use Rattle.lk_ast.proofs.FittingRows.{fits_map}
use Rattle.lk_ast.specs.Tables.{all_fit}
use Rattle.lk_exec.specs.Writings.{updated}
use Rattle.lk_exec.proofs.writes.update_open.Goals as goal

pub put_rows-requires-clause-columns : goal.put_rows-requires-clause-columns
put_rows-requires-clause-columns g c =
    subst (λ rows. all_fit c.args.def.now rows ≡ true) (sym c.in_ok-rows.ensures)
    (fits_map c.args.def.now (updated c.args.params.now c.args.cond.now c.args.sets.now) c.requires.keeps c.in_ok-there.there c.in_ok-there.ensures.listed.fit)
