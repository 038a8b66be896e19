use Rattle.lk_parse.proofs.Runs.{word_boundary}
use Rattle.lk_parse.proofs.piece.word_text.Goals as goal

pub range-requires-clause-end_boundary : goal.range-requires-clause-end_boundary
range-requires-clause-end_boundary c = rw (c.word_len-len.ensures.len, c.as_bytes.ensures.value) (word_boundary c.args.text.now c.utf8.text)
