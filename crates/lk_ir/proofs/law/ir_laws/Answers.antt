use Rattle.lk_ir.proofs.Continues.{continues_so}
use Rattle.lk_ir.proofs.Resumes.{kept_again, resumes, turns}
use Rattle.lk_ir.proofs.Used.{has_conts, hidden}
use Rattle.lk_ir.proofs.law.ir_laws.Goals as goal

pub returns : goal.returns
returns c = record {
  continues = λ f all are n names place r. continues_so f all are n names place r;
  resumes = λ f all n c names done at place v r. resumes f all n done place v r c names at;
  turns = λ f all n c names values at. turns f all n c names at values;
  hidden = hidden;
  has_conts = has_conts;
  kept = kept_again;
}
