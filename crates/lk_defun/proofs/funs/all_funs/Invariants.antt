use Rattle.std.proofs.Common.{◌≡◌, ◌++◌, Some, drop, map}
use Rattle.lk_defun.specs.Numbers.{funs_from}
use Rattle.lk_defun.proofs.funs.all_funs.Given as goal

abbrev pub invariant-loop-form : goal.invariant-loop-form
invariant-loop-form l = map Some l.funs ++ funs_from l.p l.label (drop l.form-index l.p.forms.labels) ≡ funs_from l.p 0 l.p.forms.labels
