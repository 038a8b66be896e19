-- What is shown of a place in a text.
use Rattle.std.specs.Prelude.{ℕ, ◌-◌, max, Bool, ◌||◌, ◌&&◌, nat_le, nat_lt, List, [], ◌∷◌, ◌++◌, map, drop, take, replicate, chars, codes, decimal, encode_utf8_all, if◌then◌else◌}
use Rattle.lk_ast.specs.declared.place.Span.{Span}
use Rattle.lk_explain.specs.Places.{char_count, line_before, line_behind, line_of, position_in}

-- a control character of Unicode (category Cc)
abbrev pub is_control : ℕ → Bool
is_control character = nat_lt character 0x20 || (nat_le 0x7F character && nat_le character 0x9F)

-- what a character is shown as: itself, or a space where it controls a terminal
abbrev pub shown : ℕ → ℕ
shown character = if is_control character then 0x20 else character

-- the number of the first character of a line that is shown, where this many stand before the place
abbrev pub first_shown : ℕ → ℕ
first_shown lead = if nat_lt lead 100 then 0 else lead - 40

-- 120 of these characters, from that one on, as text
abbrev pub window : ℕ → List ℕ → List ℕ
window first characters = encode_utf8_all (take 120 (drop first characters))

-- a line as it is shown
abbrev pub text_row : List ℕ → ℕ → List ℕ
text_row line first = window first (map shown (chars line))

-- what stands below it: a space for each character before the place, and a caret for each one that is marked
abbrev pub marks_row : ℕ → ℕ → ℕ → List ℕ
marks_row lead marked first = window first (replicate lead 0x20 ++ replicate marked 0x5E)

-- a line with the marks below it, each ended by a line feed
abbrev pub rows_of : List ℕ → ℕ → ℕ → List ℕ
rows_of line lead marked =
    let first = first_shown lead in
    text_row line first ++ (10 ∷ (marks_row lead marked first ++ (10 ∷ [])))

-- how many characters of a span are marked: those in the line in which it begins, and one at least
abbrev pub marked_of : List ℕ → Span → ℕ
marked_of text at = max 1 (char_count (take (at.end - at.start) (line_behind text at.start)))

-- the line in which a span begins, and the marks below its characters
abbrev pub excerpt_of : List ℕ → Span → List ℕ
excerpt_of text at = rows_of (line_of text at.start) (char_count (line_before text at.start)) (marked_of text at)

-- how many characters a span has, and which they are
abbrev pub span_chars : List ℕ → Span → ℕ
span_chars text at = char_count (take (at.end - at.start) (drop at.start text))

abbrev pub part_of : List ℕ → Span → List ℕ
part_of text at = take (span_chars text at) (drop (char_count (take at.start text)) (chars text))

-- the first 40 characters of a span, with `..` behind them where it has more
abbrev pub shown_part_of : List ℕ → Span → List ℕ
shown_part_of text at = encode_utf8_all (map shown (take 40 (part_of text at))) ++ (if nat_lt 40 (span_chars text at) then codes ".." else [])

-- `FILE:LINE:COLUMN: WHAT`, and the excerpt below it
abbrev pub message_of : List ℕ → List ℕ → Span → List ℕ → List ℕ
message_of file text at what =
    let place = position_in text at.start in
    file ++ (codes ":" ++ (decimal place.line ++ (codes ":" ++ (decimal place.column ++ (codes ": " ++ (what ++ (10 ∷ excerpt_of text at)))))))

-- `FILE: WHAT`
abbrev pub placeless_of : List ℕ → List ℕ → List ℕ
placeless_of file what = file ++ (codes ": " ++ (what ++ (10 ∷ [])))
