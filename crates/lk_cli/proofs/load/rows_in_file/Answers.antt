use Rattle.std.proofs.lemmas.Result.{err_from_is_err_and}
use Rattle.lk_cli.specs.Seen.{seen}
use Rattle.lk_cli.proofs.Limits.{rows_fit, whole_refusal, whole_tables}
use Rattle.lk_cli.proofs.Stages.{none_failed}
use Rattle.lk_cli.proofs.load.rows_in_file.Goals as goal

pub returns-in_err-read-clause-refused : goal.returns-in_err-read-clause-refused
returns-in_err-read-clause-refused g c =
    let files = seen g.F.Files.contents g.F.Files.failed g.F.Files.faults c.args.files.now c.read.new.self in
    let why = whole_refusal files c.args.name.now c.in-Ok.text c.args.defs.now c.in_err-read.field-0.0 (rw c.as_str.ensures at c.in-Ok.ensures.front) (rw c.as_slice.ensures at c.in_err-read.ensures.refused) in
    let error = err_from_is_err_and c.from_residual-in_err-read.result c.from_residual-in_err-read.ensures.1 in
    rw (error.1, error.2) why

pub returns-in_err-read-clause-reads : goal.returns-in_err-read-clause-reads
returns-in_err-read-clause-reads g c = none_failed _ _ c.from_residual-in_err-read.result c.in-Ok.ensures.cause.passed

pub returns-clause-loaded : goal.returns-clause-loaded
returns-clause-loaded g c =
    let files = seen g.F.Files.contents g.F.Files.failed g.F.Files.faults c.args.files.now c.read.new.self in
    whole_tables files c.args.name.now c.in-Ok.text c.args.defs.now c.in_ok-read.field-0 (rw c.as_str.ensures at c.in-Ok.ensures.front) (rw c.as_slice.ensures at c.in_ok-read.ensures.accepted) (rw c.as_slice.ensures at c.in_ok-read.ensures.rows)

pub returns-clause-fit : goal.returns-clause-fit
returns-clause-fit g c = rows_fit _ _ c.in_ok-read.ensures.fit
