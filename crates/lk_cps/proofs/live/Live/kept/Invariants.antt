use Rattle.std.proofs.Common.{◌≡◌, ◌++◌, map}
use Rattle.lk_cps.proofs.live.Live.kept.Given as goal
use Rattle.lk_cps.specs.Live.{kept_of}

abbrev pub invariant-loop-name : goal.invariant-loop-name
invariant-loop-name l = l.kept ++ map kept_of l.name-iterator ≡ map kept_of l.initial.name-iterator
