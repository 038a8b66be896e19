use Rattle.lk_ground.proofs.Kept.{instances_law}
use Rattle.lk_ground.proofs.law.ground_laws.Goals as goal

pub returns : goal.returns
returns c = record { instances = instances_law }
