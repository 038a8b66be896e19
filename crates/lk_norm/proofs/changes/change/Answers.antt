use Rattle.std.proofs.Common.{◌≤◌, sym, subst}
use Rattle.lk_norm.specs.Changes.{change_bytes, change_paid}
use Rattle.lk_norm.specs.Limits.{most_bytes}
use Rattle.lk_norm.specs.Made.{StopsFor}
use Rattle.lk_norm.specs.Sql.{change_sql}
use Rattle.lk_norm.proofs.ChangeBytes.{change-fits, change-refused}
use Rattle.lk_norm.proofs.changes.change.Goals as goal

pub returns-in-Ok-clause-fits : goal.returns-in-Ok-clause-fits
returns-in-Ok-clause-fits c = subst (λ sql. change_bytes sql ≤ most_bytes) (sym c.in-Ok.ensures.0) (change-fits (change_sql c.args.change.now) c.change_within.new.left c.in-Ok.ensures.1)

pub returns-in-Err-TooLong-clause-refused : goal.returns-in-Err-TooLong-clause-refused
returns-in-Err-TooLong-clause-refused c =
    let sql = change_sql c.args.change.now in
    change-refused sql (subst (λ why. StopsFor why (change_paid sql most_bytes)) c.in-Err-TooLong.field-0-is c.in-Err-TooLong.ensures)
