use Rattle.std.proofs.Common.{◌≡◌, ◌++◌, take}
use Rattle.std.specs.Prelude.{flat_map}
use Rattle.lk_print.specs.Printed.{key}
use Rattle.lk_print.specs.Written.{after_comma}
use Rattle.lk_print.proofs.words.more_keys.Given as goal

abbrev pub invariant-loop-key : goal.invariant-loop-key
invariant-loop-key l = l.line ≡ l.fn.line ++ flat_map (λ k. after_comma (key k)) (take l.key-index l.keys)
