use Rattle.lk_parse.proofs.TextLiterals.{literal_takes, literal_utf8, literal_stuck, behind_first}
use Rattle.lk_parse.proofs.literals.literal.Goals as goal

pub returns-in_default : goal.returns-in_default
returns-in_default c = literal_stuck c.args.text.now _ c.requires (behind_first _ _ c.as_bytes.ensures.value) (rw c.in_default.is at c.in_ok-meant.ensures)

pub text_of-requires : goal.text_of-requires
text_of-requires c = literal_utf8 c.args.text.now _ _ _ c.utf8.text c.requires (behind_first _ _ c.as_bytes.ensures.value) (rw c.in-Some.is at c.in_ok-meant.ensures)

pub returns : goal.returns
returns c = rw c.text_of.ensures (literal_takes c.args.text.now _ _ _ c.utf8.text c.requires (behind_first _ _ c.as_bytes.ensures.value) (rw c.in-Some.is at c.in_ok-meant.ensures))
