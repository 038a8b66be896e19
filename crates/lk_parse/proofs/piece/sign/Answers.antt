use Rattle.std.proofs.Common.{sym, ◌∙◌, ap}
use Rattle.lk_parse.specs.Scanner.{sign_in_front}
use Rattle.lk_parse.proofs.LongestSign.{sign_takes, no_sign_stuck}
use Rattle.lk_parse.proofs.piece.sign.Goals as goal

pub returns-in_default : goal.returns-in_default
returns-in_default c = no_sign_stuck c.args.text.now c.requires (sym (c.in_default.ensures ∙ ap sign_in_front c.as_bytes.ensures.value))

pub returns : goal.returns
returns c = rw c.in_ok-from_str.ensures (sign_takes c.args.text.now c.in-Some.sign.now c.utf8.text c.requires (sym (c.in-Some.ensures ∙ ap sign_in_front c.as_bytes.ensures.value)))
