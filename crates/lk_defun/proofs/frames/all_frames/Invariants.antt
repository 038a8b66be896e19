use Rattle.std.proofs.Common.{◌≡◌, ◌++◌, Some, map, take}
use Rattle.lk_defun.specs.Numbers.{frame_at, returns_from}
use Rattle.lk_defun.proofs.frames.all_frames.Given as goal

abbrev pub invariant-loop-home : goal.invariant-loop-home
invariant-loop-home l = map Some l.frames ≡ returns_from l.p.forms 0 l.funs ++ map (frame_at l.p l.funs) (take l.home-index l.homes)
