use Rattle.std.proofs.lemmas.Result.{err_from_is_err_and}
use Rattle.lk_cli.specs.Seen.{seen}
use Rattle.lk_cli.proofs.Limits.{whole_program, whole_reason}
use Rattle.lk_cli.proofs.Stages.{none_failed}
use Rattle.lk_cli.proofs.compile.read_program.Goals as goal

pub returns-in_err-parsed-clause-refused : goal.returns-in_err-parsed-clause-refused
returns-in_err-parsed-clause-refused g c =
    let files = seen g.F.Files.contents g.F.Files.failed g.F.Files.faults c.args.files.now c.read.new.self in
    let why = whole_reason files c.args.name.now c.in-Ok.text c.in_err-parsed.field-0.0 c.in-Ok.ensures.front (rw c.as_slice.ensures at c.in_err-parsed.ensures.refused) in
    let error = err_from_is_err_and c.from_residual-in_err-parsed.result c.from_residual-in_err-parsed.ensures.1 in
    rw (error.1, error.2) why

pub returns-in_err-parsed-clause-reads : goal.returns-in_err-parsed-clause-reads
returns-in_err-parsed-clause-reads g c = none_failed _ _ c.from_residual-in_err-parsed.result c.in-Ok.ensures.cause.passed

pub returns-clause-program : goal.returns-clause-program
returns-clause-program g c =
    let files = seen g.F.Files.contents g.F.Files.failed g.F.Files.faults c.args.files.now c.read.new.self in
    whole_program files c.args.name.now c.in-Ok.text c.in_ok-parsed.field-0 c.in-Ok.ensures.front (rw c.as_slice.ensures at c.in_ok-parsed.ensures.program)

pub returns-clause-placed : goal.returns-clause-placed
returns-clause-placed g c = c.places_law.ensures.apart c.in-Ok.text c.in_ok-parsed.field-0 (rw c.as_slice.ensures at c.in_ok-parsed.ensures.program)

pub returns-clause-apart : goal.returns-clause-apart
returns-clause-apart g c = c.places_law.ensures.uses c.in-Ok.text c.in_ok-parsed.field-0 (rw c.as_slice.ensures at c.in_ok-parsed.ensures.program)

pub returns-clause-blocks : goal.returns-clause-blocks
returns-clause-blocks g c = c.places_law.ensures.blocks c.in-Ok.text c.in_ok-parsed.field-0 (rw c.as_slice.ensures at c.in_ok-parsed.ensures.program)

pub returns-clause-columns : goal.returns-clause-columns
returns-clause-columns g c = c.places_law.ensures.columns c.in-Ok.text c.in_ok-parsed.field-0 (rw c.as_slice.ensures at c.in_ok-parsed.ensures.program)
