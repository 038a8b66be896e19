use Rattle.std.proofs.Common.{refl}
use Rattle.std.proofs.lemmas.Result.{on_ok_weaker}
use Rattle.lk_ast.specs.declared.expression.Node.TheVariants as node
use Rattle.lk_print.specs.Printed.{print_part}
use Rattle.lk_print.proofs.Written.{listed, listed_alone, cases_line, rows_line, update_line, delete_line}
use Rattle.lk_print.proofs.+printed.Goals as goal

pub expression::write_exprs-returns-after-loop-e : goal.expression::write_exprs-returns-after-loop-e
expression::write_exprs-returns-after-loop-e t c = listed_alone c.args.line.now c.loop-e.line c.args.exprs.now c.in-Some.rest.now c.in-Some.first.now c.loop-e.e-index c.in-Some.ensures.cases.0 c.loop-e-test.false c.loop-e.invariant

pub expression::write_parts-returns-after-loop-part : goal.expression::write_parts-returns-after-loop-part
expression::write_parts-returns-after-loop-part t c = listed print_part c.args.line.now c.loop-part.line c.args.parts.now c.in-Some.rest.now c.in-Some.first.now c.loop-part.part-index c.in-Some.ensures.cases.0 c.loop-part-test.false c.loop-part.invariant

pub form::write_cases-returns : goal.form::write_cases-returns
form::write_cases-returns t c = cases_line c.args.line.now c.loop-case.line c.args.cases.now c.loop-case.case-index c.loop-case-test.false c.loop-case.invariant

pub form::write_rows-returns : goal.form::write_rows-returns
form::write_rows-returns t c = on_ok_weaker c.write_round.result (rows_line c.args.line.now _ _ c.write_round.new.line c.args.change.now c.in_ok-write_source.ensures c.in_ok-write_word.ensures) c.write_round.ensures

pub form::write_update-returns : goal.form::write_update-returns
form::write_update-returns t c = on_ok_weaker c.write_sets.result (update_line c.args.line.now _ _ _ c.write_sets.new.line (node.Update c.args.change.now) c.args.change.now refl c.in_ok-write_word.ensures c.in_ok-write_rows.ensures c.in_ok-write_word-2.ensures) c.write_sets.ensures

pub form::write_delete-returns : goal.form::write_delete-returns
form::write_delete-returns t c = on_ok_weaker c.write_rows.result (delete_line c.args.line.now _ c.write_rows.new.line (node.Delete c.args.change.now) c.args.change.now refl c.in_ok-write_word.ensures) c.write_rows.ensures
