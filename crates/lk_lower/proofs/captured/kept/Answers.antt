use Rattle.std.proofs.Common.{subst}
use Rattle.lk_index.specs.Free.{texts}
use Rattle.lk_lower.proofs.captured.kept.Goals as goal
use Rattle.lk_lower.specs.Steps.{Captures}
use Rattle.lk_lower.specs.Walked.{state_of}

pub returns-clause-kept : goal.returns-clause-kept
returns-clause-kept c = subst (λ uses. Captures (texts c.args.names.now) uses (state_of c.kept_names.new.walk) c.in_ok-kept_names.field-0) c.in_ok-types.ensures c.in_ok-kept_names.ensures.kept
