use Rattle.lk_code.proofs.Following.{are_later, frames_law}
use Rattle.lk_code.proofs.Resuming.{resumes_law, turns_law}
use Rattle.lk_code.proofs.Stacking.{stacks_law}
use Rattle.lk_code.proofs.law.meaning_laws.Goals as goal

pub returns : goal.returns
returns c = record {
  later = are_later;
  frames = frames_law;
  stacks = λ c fs stack place is. stacks_law c place fs stack is;
  resumes = λ c sound h cont is names done kept position at kept_is place v r. resumes_law c sound h cont is names done kept position at kept_is place v r;
  turns = λ c sound h form cont x body there for tails position is names made left kept kept_is place v r. turns_law c sound h form cont x body there for tails position is names made left kept kept_is place v r;
}
