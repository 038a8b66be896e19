-- How large tables, and messages between client and server, may be.
use Rattle.std.specs.Prelude.{ℕ}

-- the most rows that a table may have in a tables file, or behind an insertion
abbrev pub most_rows : ℕ
most_rows = 65_536

-- the most bytes of a message's body
abbrev pub message_limit : ℕ
message_limit = 1_048_576
