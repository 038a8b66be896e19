use Rattle.std.proofs.Common.{◌≡◌, ◌+◌, ◌++◌, drop}
use Rattle.lk_join.specs.Reports.{session_lines}
use Rattle.lk_join.proofs.text.lines_of_sessions.Given as goal

abbrev pub invariant-loop-session : goal.invariant-loop-session
invariant-loop-session l = (l.before ≡ l.session-index) × (l.text ++ session_lines (l.before + 1) (drop l.session-index l.sessions) ≡ session_lines 1 l.fn.sessions)
