use Rattle.std.proofs.Common.{take}
use Rattle.lk_lower.specs.Steps.{AreCases}
use Rattle.lk_lower.proofs.named.case_forms.Given as goal

abbrev pub invariant-loop-case : goal.invariant-loop-case
invariant-loop-case l = AreCases l.locals (take l.case-index l.cases) l.forms
