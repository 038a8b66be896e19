use Rattle.lk_evaluation.proofs.Fixpoint.{eval_is}
use Rattle.lk_evaluation.proofs.Grows.{grows}
use Rattle.lk_evaluation.proofs.Longer.{longer}
use Rattle.lk_evaluation.proofs.Shift.{shifts}
use Rattle.lk_evaluation.proofs.Steps.{steps_bounded}
use Rattle.lk_evaluation.specs.Source.{source}
use Rattle.lk_evaluation.proofs.law.evaluation_laws.Goals as goal

pub returns : goal.returns
returns c = record {
  entered = λ p. eval_is (source p);
  grows = λ p. grows (source p);
  richer = λ p. longer (source p);
  shifted = λ p point place r steps log. shifts (source p) steps log point place r;
  bounded = λ p. steps_bounded (source p);
}
