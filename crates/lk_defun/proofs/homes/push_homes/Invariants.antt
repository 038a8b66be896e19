use Rattle.std.proofs.Common.{◌≡◌, ◌++◌, drop}
use Rattle.lk_defun.specs.Numbers.{homes_at}
use Rattle.lk_defun.proofs.homes.push_homes.Given as goal

abbrev pub invariant-loop-cont : goal.invariant-loop-cont
invariant-loop-cont l = l.homes ++ homes_at l.node l.position (drop l.cont-index l.conts) ≡ l.initial.homes ++ homes_at l.node 0 l.conts
