use Rattle.std.proofs.Common.{◌≡◌, map, take}
use Rattle.lk_inline.specs.Inlined.{key_of}
use Rattle.lk_inline.proofs.inline.keys_of.Given as goal

abbrev pub invariant-loop-key : goal.invariant-loop-key
invariant-loop-key l = l.found ≡ map key_of (take l.key-index l.keys)
