use Rattle.std.proofs.Common.{◌≡◌, drop}
use Rattle.lk_lower.proofs.hints.of_text.Given as goal
use Rattle.lk_lower.specs.Hints.{mix_all}

abbrev pub invariant-loop-byte : goal.invariant-loop-byte
invariant-loop-byte l = mix_all l.mixed (drop l.byte-index l.bytes) ≡ mix_all l.initial.mixed l.bytes
