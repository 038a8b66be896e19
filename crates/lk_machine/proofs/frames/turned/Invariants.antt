use Rattle.std.proofs.Common.{◌≡◌, ◌++◌, length}
use Rattle.lk_machine.specs.Going.{waiting}
use Rattle.lk_machine.proofs.frames.turned.Given as goal

abbrev pub invariant-loop-frame : goal.invariant-loop-frame
invariant-loop-frame l = l.turned ++ waiting l.tables l.frames ≡ waiting l.tables l.fn.frames

abbrev pub decreases-loop-frame : goal.decreases-loop-frame
decreases-loop-frame l = length l.frames
