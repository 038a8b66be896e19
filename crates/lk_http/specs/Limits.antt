-- How large heads may be.
use Rattle.std.specs.Prelude.{ℕ}

-- the most bytes of a head
abbrev pub head_limit : ℕ
head_limit = 8_192

-- the most fields of a head
abbrev pub field_limit : ℕ
field_limit = 32
