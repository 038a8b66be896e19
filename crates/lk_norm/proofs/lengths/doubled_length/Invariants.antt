use Rattle.std.proofs.Common.{◌≡◌, ◌+◌, length, drop}
use Rattle.std.specs.Prelude.{flat_map}
use Rattle.lk_sql.specs.Text.{quoted}
use Rattle.lk_norm.proofs.lengths.doubled_length.Given as goal

abbrev pub invariant-loop-byte : goal.invariant-loop-byte
invariant-loop-byte l = l.total + length (flat_map quoted (drop l.byte-index l.bytes)) ≡ length (flat_map quoted l.bytes)
