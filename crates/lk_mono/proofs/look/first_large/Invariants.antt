use Rattle.std.proofs.Common.{◌≡◌, ◌+◌, drop}
use Rattle.lk_mono.proofs.FirstLarge.{beyond}
use Rattle.lk_mono.proofs.look.first_large.Given as goal

abbrev pub invariant-loop-place : goal.invariant-loop-place
invariant-loop-place l = beyond l.grounds l.numbers ≡ l.place + beyond l.grounds (drop l.place l.numbers)
