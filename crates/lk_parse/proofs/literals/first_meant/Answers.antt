use Rattle.std.proofs.Common.{sym}
use Rattle.lk_parse.proofs.Content.{escape_first, plain_first}
use Rattle.lk_parse.proofs.literals.first_meant.Goals as goal

pub returns-then-first-eq92 : goal.returns-then-first-eq92
returns-then-first-eq92 c = escape_first c.args.bytes.now c.in_ok-escaped.field-0 c.in-len2-up.len_at_least c.if-first-eq92.true (sym c.in_ok-escaped.ensures)

pub returns : goal.returns
returns c = plain_first c.args.bytes.now c.in-len1-up.len_at_least (sym c.if-not-is_plain.ensures)
