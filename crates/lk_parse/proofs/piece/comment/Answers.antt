use Rattle.lk_parse.proofs.Runs.{comment_takes}
use Rattle.lk_parse.proofs.piece.comment.Goals as goal

pub returns : goal.returns
returns c = rw (c.line_len-len.ensures.len, c.as_bytes.ensures.value) (comment_takes c.args.text.now c.requires)
