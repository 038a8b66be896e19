use Rattle.lk_sound.proofs.Contexts.{instance_law, main_law}
use Rattle.lk_sound.proofs.Evaluating.{point_law, session_law}
use Rattle.lk_sound.proofs.PlainValues.{plain}
use Rattle.lk_sound.proofs.law.soundness_laws.Goals as goal

pub returns : goal.returns
returns c = record { point = point_law; session = session_law; plain = λ p i t v fits none. plain p i v t fits none; main = main_law; instance = instance_law }
