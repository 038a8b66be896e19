-- What `run` prints of a run: a line for each session, a line for each entry, and a line for the declared tables.
use Rattle.std.specs.Fmt.{digit_glyph}
use Rattle.std.specs.List.{AllByRecursion, flat_map, list_all, list_any}
use Rattle.std.specs.Prelude.{◌≡◌, ◌==◌, ◌+◌, ◌/◌, ◌%◌, ◌&&◌, ℕ, Bool, true, false, not, List, [], ◌∷◌, ◌++◌, codes, decimal, if◌then◌else◌, nat_le}
use Rattle.lk_ast.specs.Plain.{holds_function}
use Rattle.lk_report.specs.Lines.{IsTablesLine, args_of, done_line, event_line, line, trap_line}
use Rattle.lk_join.specs.declared.report.End.{End}
use Rattle.lk_join.specs.declared.report.End.TheVariants as end
use Rattle.lk_join.specs.declared.report.Entry.{Entry}
use Rattle.lk_join.specs.declared.report.Entry.TheVariants.{Cut, Happened, Reply, Request}
use Rattle.lk_join.specs.declared.report.Report.{Report}
use Rattle.lk_join.specs.declared.report.SessionReport.{SessionReport}

-- ---- sessions

-- how a session ended, with the steps that it took
abbrev pub end_line : End → ℕ → List ℕ
end_line (end.Done v) steps = done_line steps v
end_line (end.Trap trap) steps = trap_line steps trap
end_line end.Running steps = line (codes "running" ∷ decimal steps ∷ [])
end_line end.Dropped steps = line (codes "dropped" ∷ decimal steps ∷ [])
end_line end.StoreFault steps = line (codes "store-fault" ∷ decimal steps ∷ [])
end_line (end.TableFull size) steps = line (codes "table-full" ∷ decimal steps ∷ decimal size ∷ [])
end_line (end.VisitBudget size) steps = line (codes "visit-budget" ∷ decimal steps ∷ decimal size ∷ [])
end_line (end.TooBig size) steps = line (codes "too-big" ∷ decimal steps ∷ decimal size ∷ [])
end_line (end.TooDeep size) steps = line (codes "too-deep" ∷ decimal steps ∷ decimal size ∷ [])

-- `session NUMBER END`
abbrev pub session_line : ℕ → SessionReport → List ℕ
session_line number session = codes "session " ++ (decimal number ++ (codes " " ++ end_line session.end session.steps))

-- sessions, the first of which has this number
abbrev pub session_lines : ℕ → List SessionReport → List ℕ
session_lines number [] = []
session_lines number (session ∷ sessions) = session_line number session ++ session_lines (number + 1) sessions

-- ---- entries

-- a byte from the space to the tilde, but `%`
abbrev pub is_shown_alone : ℕ → Bool
is_shown_alone byte = nat_le 32 byte && (nat_le byte 126 && not (byte == 37))

-- such a byte as it is, and each other one as `%` and two hexadecimal digits (RFC 3986, section 2.1)
abbrev pub shown_byte : ℕ → List ℕ
shown_byte byte = if is_shown_alone byte then byte ∷ [] else 37 ∷ digit_glyph true (byte / 16) ∷ digit_glyph true (byte % 16) ∷ []

abbrev pub shown_bytes : List ℕ → List ℕ
shown_bytes bytes = flat_map shown_byte bytes

-- `NUMBER request BYTES`, `NUMBER reply BYTES`, `NUMBER cut`, and the line of an event behind its number
abbrev pub entry_line : Entry → List ℕ
entry_line (Happened number event) = decimal number ++ (codes " " ++ event_line event)
entry_line (Request number bytes) = line (decimal number ∷ codes "request" ∷ shown_bytes bytes ∷ [])
entry_line (Reply number bytes) = line (decimal number ∷ codes "reply" ∷ shown_bytes bytes ∷ [])
entry_line (Cut number) = line (decimal number ∷ codes "cut" ∷ [])

-- ---- reports

abbrev pub IsReportText : Report → List ℕ → Type 0
IsReportText report text = (tables : List ℕ) × IsTablesLine report.tables tables × (text ≡ session_lines 1 report.sessions ++ (flat_map entry_line report.entries ++ tables))

-- whether a function stands in what is shown
abbrev pub end_shows_function : End → Bool
end_shows_function (end.Done v) = holds_function v
end_shows_function other = false

abbrev pub entry_shows_function : Entry → Bool
entry_shows_function (Happened number event) = list_any holds_function (args_of event)
entry_shows_function other = false

-- no function is shown
pub record IsPlainReport (report : Report) : Type 0 where
  pub sessions : AllByRecursion (λ (session : SessionReport). end_shows_function session.end ≡ false) report.sessions
  pub entries : AllByRecursion (λ (entry : Entry). entry_shows_function entry ≡ false) report.entries

-- ---- the status

abbrev pub is_done : End → Bool
is_done (end.Done v) = true
is_done other = false

-- 0 where every session is done, else 8
abbrev pub status_of : Report → ℕ
status_of report = if list_all (λ (session : SessionReport). is_done session.end) report.sessions then 0 else 8
