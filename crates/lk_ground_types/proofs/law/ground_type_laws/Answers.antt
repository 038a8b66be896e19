use Rattle.lk_ground_types.proofs.Emptied.{emptied_law}
use Rattle.lk_ground_types.proofs.Variables.{agree_law, exists_law}
use Rattle.lk_ground_types.proofs.law.ground_type_laws.Goals as goal

pub returns : goal.returns
returns c = record { agree = agree_law; emptied = emptied_law; exists = exists_law }
