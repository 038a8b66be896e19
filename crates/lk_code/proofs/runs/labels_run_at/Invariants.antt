use Rattle.std.proofs.Common.{◌≡◌, ℕ, ◌<◌, true, Some}
use Rattle.lk_code.specs.Running.{HasCode, is_at}
use Rattle.lk_code.specs.Tables.{fun_info}
use Rattle.lk_code.specs.declared.infos.FunInfo.{FunInfo}
use Rattle.lk_code.proofs.runs.labels_run_at.Given as goal

-- those so far
abbrev pub invariant-loop-label : goal.invariant-loop-label
invariant-loop-label l = (label : ℕ) → label < l.label → (i : FunInfo) → fun_info l.c.tables label ≡ Some i → is_at i.place l.place ≡ true → HasCode l.c label i.kind
