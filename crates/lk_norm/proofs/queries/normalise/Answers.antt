use Rattle.lk_norm.proofs.SqlTexts.{is_long, is_short}
use Rattle.lk_norm.proofs.queries.normalise.Goals as goal

pub returns-in-Ok-clause-short : goal.returns-in-Ok-clause-short
returns-in-Ok-clause-short c =
    let query = c.args.query.now in
    is_short query.parts _ query.root c.count.result query.captured c.as_slice-captured.result.now query.columns c.as_slice-columns.result.now query.keys c.as_slice-keys.result.now
    c.in_ok-over.ensures c.as_slice-captured.ensures c.as_slice-columns.ensures c.as_slice-keys.ensures c.count.ensures c.if-count-gt-MOST_BRANCHES.false c.in-Ok.sql c.within.new.left c.in-Ok.ensures

pub returns-in-Err-TooLong-clause-refused : goal.returns-in-Err-TooLong-clause-refused
returns-in-Err-TooLong-clause-refused c =
    let query = c.args.query.now in
    is_long query.parts _ query.root c.count.result query.captured c.as_slice-captured.result.now query.columns c.as_slice-columns.result.now query.keys c.as_slice-keys.result.now
    c.in_ok-over.ensures c.as_slice-captured.ensures c.as_slice-columns.ensures c.as_slice-keys.ensures c.count.ensures c.if-count-gt-MOST_BRANCHES.false c.in-Err-TooLong.field-0 c.in-Err-TooLong.field-0-is c.in-Err-TooLong.ensures
