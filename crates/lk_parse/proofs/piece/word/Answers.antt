use Rattle.std.proofs.lemmas.List.Folds.{length-prefix_len}
use Rattle.lk_parse.specs.Pieces.{is_word_byte}
use Rattle.lk_parse.proofs.Runs.{word_takes}
use Rattle.lk_parse.proofs.piece.word.Goals as goal

pub returns : goal.returns
returns c = rw (c.len-len.ensures, c.in_ok-word.ensures, length-prefix_len is_word_byte c.args.text.now) (word_takes c.args.text.now c.utf8.text c.requires)
