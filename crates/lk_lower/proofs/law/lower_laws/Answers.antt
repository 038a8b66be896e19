use Rattle.lk_lower.proofs.Covers.{each_node}
use Rattle.lk_lower.proofs.Counted.{taken}
use Rattle.lk_lower.proofs.Instances.{all_places, blocks}
use Rattle.lk_lower.proofs.law.lower_laws.Goals as goal

pub returns : goal.returns
returns c = record {
  covered = λ g f of n below. each_node f g of n below;
  taken = λ f owner within n e before after lowered. taken f owner lowered;
  instances = λ g f of. all_places g f of;
  blocks = blocks;
}
