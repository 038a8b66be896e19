use Rattle.std.proofs.Common.{◌≡◌, string_bytes, take}
use Rattle.std.specs.List.{flat_map}
use Rattle.lk_join.specs.Reports.{shown_byte}
use Rattle.lk_join.proofs.bytes.shown_bytes.Given as goal

abbrev pub invariant-loop-byte : goal.invariant-loop-byte
invariant-loop-byte l = string_bytes l.text ≡ flat_map shown_byte (take l.byte-index l.bytes)
