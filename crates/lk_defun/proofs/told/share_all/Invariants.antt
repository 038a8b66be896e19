use Rattle.std.proofs.Common.{◌≡◌, take}
use Rattle.lk_defun.proofs.told.share_all.Given as goal

abbrev pub invariant-loop-ty : goal.invariant-loop-ty
invariant-loop-ty l = l.same ≡ take l.ty-index l.types
