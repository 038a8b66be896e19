use Rattle.lk_typing.proofs.Even.Groups.{effects_law}
use Rattle.lk_typing.proofs.Groups.Whole.{walk_law}
use Rattle.lk_typing.proofs.law.typing_laws.Goals as goal

pub returns : goal.returns
returns c = record { walk = walk_law; effects = effects_law }
