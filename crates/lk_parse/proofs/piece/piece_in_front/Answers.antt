use Rattle.std.proofs.Common.{sym}
use Rattle.lk_parse.proofs.Runs.{white_takes}
use Rattle.lk_parse.proofs.Shapes.{empty_stuck}
use Rattle.lk_parse.proofs.piece.piece_in_front.Goals as goal

pub returns-in_default : goal.returns-in_default
returns-in_default c = empty_stuck c.args.text.now (rw c.as_bytes.ensures.value at c.in_default.len_below)

pub returns-in-White : goal.returns-in-White
returns-in-White c = white_takes c.args.text.now c.utf8.text (record {
  some = rw c.as_bytes.ensures.value at c.in-len1-up.len_at_least;
  is = sym (rw c.as_bytes.ensures.value at c.in-White.ensures);
})
