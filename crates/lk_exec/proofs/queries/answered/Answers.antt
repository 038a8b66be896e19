use Rattle.std.proofs.Common.{subst}
use Rattle.lk_ast.specs.Tables.{rows_of}
use Rattle.lk_sql.specs.Keys.{IsAnswer}
use Rattle.lk_exec.proofs.Scanned.{answered}
use Rattle.lk_exec.proofs.queries.answered.Goals as goal

pub returns-clause-answer : goal.returns-clause-answer
returns-clause-answer g c =
    let told = (goal.Store-dyn g c.args.store.now).tables c.args.store.now.1 in
    answered told c.args.defs.now c.in_ok-scanned.scanned c.args.params.now c.args.s.now c.in_ok-rows.rows c.in_ok-scanned.ensures.scanned c.requires.declared
    (subst (λ tables. IsAnswer (rows_of tables) c.args.params.now c.args.s.now c.in_ok-rows.rows) c.as_slice.ensures c.in_ok-rows.ensures)
