use Rattle.std.proofs.Common.{◌≡◌, ◌∷◌, take}
use Rattle.std.specs.Prelude.{flat_map}
use Rattle.std.specs.Str.{byte}
use Rattle.lk_print.specs.Written.{quoted_byte}
use Rattle.lk_print.proofs.text_literal.quoted.Given as goal

abbrev pub invariant-loop-byte : goal.invariant-loop-byte
invariant-loop-byte l = l.bytes.items ≡ byte "\"" ∷ flat_map quoted_byte (take l.byte-index l.text)
