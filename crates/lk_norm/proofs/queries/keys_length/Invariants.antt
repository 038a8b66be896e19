use Rattle.std.proofs.Common.{◌≡◌, ◌+◌, drop}
use Rattle.lk_sql.specs.Text.{key_text}
use Rattle.lk_norm.specs.Walks.{keys_length, total}
use Rattle.lk_norm.proofs.queries.keys_length.Given as goal

abbrev pub invariant-loop-key : goal.invariant-loop-key
invariant-loop-key l = l.total + total 2 key_text (drop l.key-index l.keys) ≡ keys_length l.keys
