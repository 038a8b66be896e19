use Rattle.std.proofs.Common.{◌≡◌, ◌++◌, Some, drop, map}
use Rattle.lk_defun.specs.Numbers.{returns_from}
use Rattle.lk_defun.proofs.frames.returns.Given as goal

abbrev pub invariant-loop-fun : goal.invariant-loop-fun
invariant-loop-fun l = map Some l.frames ++ returns_from l.forms l.label (drop l.fun-index l.funs) ≡ returns_from l.forms 0 l.funs
