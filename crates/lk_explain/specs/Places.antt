-- Where a place in a text is. A text is the list of its bytes in UTF-8, and a place a number of bytes before it; behind the
-- end it counts as the end.
use Rattle.std.specs.Prelude.{ℕ, ◌+◌, ◌++◌, Bool, ◌||◌, nat_le, nat_lt, ◌==◌, List, count_by, drop, take}
use Rattle.std.specs.List.{after_last, before_first}
use Rattle.lk_explain.specs.declared.places.Position.{Position}

-- U+000A
abbrev pub is_line_feed : ℕ → Bool
is_line_feed byte = byte == 10

-- a line feed, or a carriage return, which may stand before one: behind a place, either ends what is shown of its line
abbrev pub ends_line : ℕ → Bool
ends_line byte = byte == 10 || byte == 13

-- Each character has one such byte, its first one; its other bytes are from 0x80 to 0xBF.
abbrev pub begins_char : ℕ → Bool
begins_char byte = nat_lt byte 0x80 || nat_le 0xC0 byte

-- how many characters begin in these bytes
abbrev pub char_count : List ℕ → ℕ
char_count bytes = count_by begins_char bytes

-- what stands in its line before a place, and from the place on
abbrev pub line_before : List ℕ → ℕ → List ℕ
line_before text at = after_last is_line_feed (take at text)

abbrev pub line_behind : List ℕ → ℕ → List ℕ
line_behind text at = before_first ends_line (drop at text)

-- the line in which a place is, without its end
abbrev pub line_of : List ℕ → ℕ → List ℕ
line_of text at = line_before text at ++ line_behind text at

-- the line is one more than the line feeds before the place, and the column one more than the characters of the line there
abbrev pub position_in : List ℕ → ℕ → Position
position_in text at = record {
  line = 1 + count_by is_line_feed (take at text);
  column = 1 + char_count (line_before text at);
}
