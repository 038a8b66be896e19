use Rattle.std.proofs.lemmas.Result.{on_ok_weaker}
use Rattle.lk_ast.specs.Tables.{rows_of}
use Rattle.lk_exec.proofs.Chosen.{rows_added}
use Rattle.lk_exec.proofs.product.add_rows.Goals as goal

pub returns : goal.returns
returns c =
    on_ok_weaker c.add_choices.result
    (λ is. rows_added (rows_of c.args.over.now.tables.now) c.args.over.now.params.now c.args.select.now c.as_slice.result.now c.args.found.now c.add_choices.new.found c.as_slice.ensures is)
    c.add_choices.ensures
