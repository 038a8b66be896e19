use Rattle.std.proofs.Common.{◌≡◌, ◌++◌, drop}
use Rattle.lk_defun.specs.Numbers.{homes_from}
use Rattle.lk_defun.proofs.homes.all_homes.Given as goal

abbrev pub invariant-loop-conts : goal.invariant-loop-conts
invariant-loop-conts l = l.homes ++ homes_from l.node (drop l.conts-index l.all) ≡ homes_from 0 l.all
