use Rattle.lk_norm.proofs.ChangedRows.{changed, changed_over, condition, sets}
use Rattle.lk_norm.proofs.Counts.{counted}
use Rattle.lk_norm.proofs.GoodQuery.{good, good_change}
use Rattle.lk_norm.proofs.Params.{normal-form, permuted}
use Rattle.lk_norm.proofs.law.normal_form_laws.Goals as goal

pub returns : goal.returns
returns c = record { normal = normal-form; permuted = permuted; counted = counted; good = good; good_change = good_change; condition = condition; sets = sets; changed = changed; changed_over = changed_over }
