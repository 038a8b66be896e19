use Rattle.lk_outline.proofs.Outlined.{outline_law, length_law}
use Rattle.lk_outline.proofs.law.outline_laws.Goals as goal

pub returns : goal.returns
returns c = record { outlined = outline_law; length = length_law }
