-- Schedules: a file of lines, each of which says what goes on with one of the sessions of a run, or with all of them.
--
-- `run I N`: session I takes at most N steps. `up I N`, `down I N`: the next N bytes of its request reach the server, or of its reply the
-- client. `auto N`: each session in turn goes on for at most N steps. Sessions are counted from 1. An empty line, and one that begins with
-- `#`, say nothing.
use Rattle.std.specs.List.{slice_split}
use Rattle.std.specs.Prelude.{◌≡◌, ◌==◌, ◌+◌, ◌&&◌, ℕ, Bool, true, List, [], ◌∷◌, ◌++◌, Option, Some, None, Result, Ok, Err, bytes_eq, codes, decimal, if◌then◌else◌, length, nat_le, nat_lt, option_and_then, ⊤}
use Rattle.std.specs.Str.Parse.{digits_value}
use Rattle.lk_join.specs.declared.error.ScheduleError.{ScheduleError}
use Rattle.lk_join.specs.declared.error.ScheduleError.TheVariants.{BadSchedule, NoMemory}
use Rattle.lk_join.specs.declared.line.Line.{Line}
use Rattle.lk_join.specs.declared.line.Line.TheVariants.{Auto, Down, Run, Up}

-- the most bytes of a schedule
abbrev pub most_bytes : ℕ
most_bytes = 4_194_304

-- the most steps or bytes of a line
abbrev pub most_count : ℕ
most_count = 1_000_000_000

-- ---- words

-- The number that a word writes, up to the most. Each has one word: its decimal digits, with no sign and no zero before them.
abbrev pub number_of : ℕ → List ℕ → Option ℕ
number_of most word =
    let number = digits_value 10 word in
    if bytes_eq word (decimal number) && nat_le number most then Some number else None

abbrev pub count_of : List ℕ → Option ℕ
count_of word = number_of most_count word

-- the number of a session, of which there are so many
abbrev pub session_of : ℕ → List ℕ → Option ℕ
session_of sessions word = option_and_then (λ number. if nat_lt 0 number then Some number else None) (number_of sessions word)

-- ---- lines

-- what a session does in a line of this form
abbrev pub line_for : List ℕ → ℕ → ℕ → Option Line
line_for form session count = if bytes_eq form (codes "run") then Some (Run session count) else (if bytes_eq form (codes "up") then Some (Up session count) else (if bytes_eq form (codes "down") then Some (Down session count) else None))

-- what all sessions do
abbrev pub line_for_all : List ℕ → ℕ → Option Line
line_for_all form count = if bytes_eq form (codes "auto") then Some (Auto count) else None

-- a line by its words
abbrev pub line_by : ℕ → List (List ℕ) → Option Line
line_by sessions (form ∷ count ∷ []) = option_and_then (line_for_all form) (count_of count)
line_by sessions (form ∷ session ∷ count ∷ []) = option_and_then (λ i. option_and_then (line_for form i) (count_of count)) (session_of sessions session)
line_by sessions words = None

-- a line of a run of so many sessions: words with one space between two of them
abbrev pub line_of : ℕ → List ℕ → Option Line
line_of sessions text = line_by sessions (slice_split (λ byte. byte == 32) text)

-- a line that says nothing
abbrev pub is_skipped : List ℕ → Bool
is_skipped [] = true
is_skipped (byte ∷ bytes) = byte == 35

-- ---- schedules

-- a line before others, or the number of the first bad one
abbrev pub line_before : Option Line → ℕ → Result (List Line) ℕ → Result (List Line) ℕ
line_before None number behind = Err number
line_before (Some line) number (Ok lines) = Ok (line ∷ lines)
line_before (Some line) number (Err bad) = Err bad

-- what the lines say that begin with this number, or the number of the first bad one
abbrev pub lines_from : ℕ → ℕ → List (List ℕ) → Result (List Line) ℕ
lines_from sessions number [] = Ok []
lines_from sessions number (text ∷ texts) = if is_skipped text then lines_from sessions (number + 1) texts else line_before (line_of sessions text) number (lines_from sessions (number + 1) texts)

-- What the lines of a text say, in order, or the number of the first bad line, counted from 1; 0 where the text is too long. Each line is
-- ended by a line feed, without which the last one may be.
unfoldable pub schedule_of : ℕ → List ℕ → Result (List Line) ℕ
schedule_of sessions text = if nat_lt most_bytes (length text) then Err 0 else lines_from sessions 1 (slice_split (λ byte. byte == 10) text)

-- a schedule was read as it says, or is bad at that line; or memory ran out, which has no cause
abbrev pub IsRead : Result (List Line) ScheduleError → Result (List Line) ℕ → Type 0
IsRead (Ok lines) schedule = schedule ≡ Ok lines
IsRead (Err (BadSchedule line)) schedule = schedule ≡ Err line
IsRead (Err NoMemory) schedule = ⊤

-- these lines, and then what others say
abbrev pub lines_before : List Line → Result (List Line) ℕ → Result (List Line) ℕ
lines_before front (Ok lines) = Ok (front ++ lines)
lines_before front (Err bad) = Err bad
