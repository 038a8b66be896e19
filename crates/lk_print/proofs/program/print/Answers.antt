use Rattle.lk_print.proofs.Contract.{text_line, text_again}
use Rattle.lk_print.proofs.program.print.Goals as goal

pub returns-clause-text : goal.returns-clause-text
returns-clause-text c = text_line c.loop-decl.text c.args.program.now.decls c.as_slice-decl-items.result.now c.loop-decl.decl-index c.as_slice-decl-items.ensures c.loop-decl-test.false c.loop-decl.invariant

pub returns-clause-again : goal.returns-clause-again
returns-clause-again c source is = text_again source c.loop-decl.text c.args.program.now is (text_line c.loop-decl.text c.args.program.now.decls c.as_slice-decl-items.result.now c.loop-decl.decl-index c.as_slice-decl-items.ensures c.loop-decl-test.false c.loop-decl.invariant)
