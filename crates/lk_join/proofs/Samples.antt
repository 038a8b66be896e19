-- Reports and their lines, worked by hand.
use Rattle.std.proofs.Common.{◌≡◌, refl, ℕ, List, [], ◌∷◌, ◌++◌}
use Rattle.std.specs.Fmt.{digits}
use Rattle.std.specs.Prelude.{codes, true}
use Rattle.lk_ast.specs.declared.event.Event.TheVariants.{Enter, Leave}
use Rattle.lk_ast.specs.declared.event.Trap.TheVariants.{Divide}
use Rattle.lk_ast.specs.declared.table.Base.TheVariants as base
use Rattle.lk_ast.specs.declared.value.Value.TheVariants as value
use Rattle.lk_join.specs.Reports.{IsReportText, entry_line, session_line, session_lines, shown_byte, shown_bytes, status_of}
use Rattle.lk_join.specs.declared.report.End.{End}
use Rattle.lk_join.specs.declared.report.End.TheVariants as end
use Rattle.lk_join.specs.declared.report.Entry.TheVariants.{Cut, Happened, Reply, Request}
use Rattle.lk_join.specs.declared.report.Report.{Report}
use Rattle.lk_join.specs.declared.report.SessionReport.{SessionReport}

abbrev of : End → ℕ → SessionReport
of it steps = record { end = it; steps = steps }

-- ---- sessions

pub trapped : session_line 1 (of (end.Trap Divide) 12) ≡ codes "session 1 trap 12 divide\n"
unfolding digits
trapped = refl

pub running : session_line 256 (of end.Running 0) ≡ codes "session 256 running 0\n"
unfolding digits
running = refl

pub dropped : session_line 2 (of end.Dropped 7) ≡ codes "session 2 dropped 7\n"
unfolding digits
dropped = refl

pub faulty : session_line 3 (of end.StoreFault 10) ≡ codes "session 3 store-fault 10\n"
unfolding digits
faulty = refl

pub full : session_line 4 (of (end.TableFull 65537) 9) ≡ codes "session 4 table-full 9 65537\n"
unfolding digits
full = refl

pub budget : session_line 5 (of (end.VisitBudget 3) 4) ≡ codes "session 5 visit-budget 4 3\n"
unfolding digits
budget = refl

pub big : session_line 6 (of (end.TooBig 1048577) 5) ≡ codes "session 6 too-big 5 1048577\n"
unfolding digits
big = refl

pub deep : session_line 7 (of (end.TooDeep 101) 6) ≡ codes "session 7 too-deep 6 101\n"
unfolding digits
deep = refl

pub in_order : session_lines 1 (of end.Running 1 ∷ of end.Dropped 2 ∷ []) ≡ codes "session 1 running 1\nsession 2 dropped 2\n"
unfolding digits
in_order = refl

-- ---- entries

pub entered : entry_line (Happened 1 Enter) ≡ codes "1 enter\n"
unfolding digits
entered = refl

pub left : entry_line (Happened 12 Leave) ≡ codes "12 leave\n"
unfolding digits
left = refl

pub cut : entry_line (Cut 0) ≡ codes "0 cut\n"
unfolding digits
cut = refl

pub requested : entry_line (Request 1 (codes "a b\r\n")) ≡ codes "1 request a b%0D%0A\n"
unfolding digits
requested = refl

pub replied : entry_line (Reply 2 (codes "100%")) ≡ codes "2 reply 100%25\n"
unfolding digits
replied = refl

-- the first and the last byte that is shown as it is, those beside them, and the first and the last of all
pub shown_alone : shown_bytes (32 ∷ 126 ∷ []) ≡ codes " ~"
shown_alone = refl

pub shown_beside : shown_bytes (31 ∷ 127 ∷ []) ≡ codes "%1F%7F"
shown_beside = refl

pub shown_ends : shown_bytes (0 ∷ 255 ∷ []) ≡ codes "%00%FF"
shown_ends = refl

-- ---- whole reports

-- nothing happened yet, in a program without tables
abbrev first : Report
first = record { sessions = of end.Running 0 ∷ []; entries = []; tables = [] }

pub first_text : IsReportText first (codes "session 1 running 0\n")
unfolding digits
first_text = ([], refl, refl)

-- the second session is ahead of the first, whose visit trapped; a stranger's bytes ended too early
abbrev second : Report
second = record {
  sessions = of (end.Trap Divide) 5 ∷ of end.Dropped 9 ∷ [];
  entries = Request 2 (codes "x") ∷ Happened 2 Enter ∷ Happened 2 Leave ∷ Reply 2 (codes "y") ∷ Cut 0 ∷ Request 1 (codes "z") ∷ Happened 1 Enter ∷ Reply 1 (codes "%") ∷ [];
  tables = [];
}

pub second_text : IsReportText second (codes "session 1 trap 5 divide\nsession 2 dropped 9\n2 request x\n2 enter\n2 leave\n2 reply y\n0 cut\n1 request z\n1 enter\n1 reply %25\n")
unfolding digits
second_text = ([], refl, refl)

-- a session is given up behind its third step, before a byte of it has gone
abbrev given_up : Report
given_up = record { sessions = of end.Dropped 3 ∷ []; entries = []; tables = [] }

pub given_up_text : IsReportText given_up (codes "session 1 dropped 3\n")
unfolding digits
given_up_text = ([], refl, refl)

-- a visit takes more steps than it may
abbrev costly : Report
costly = record {
  sessions = of (end.VisitBudget 3) 3 ∷ [];
  entries = Request 1 (codes "POST /links HTTP/1.1\r\nHost: localhost\r\nContent-Length: 2\r\n\r\n{}") ∷ Reply 1 (codes "{\"refused\":\"visit-budget\",\"size\":3}") ∷ [];
  tables = [];
}

pub costly_text : IsReportText costly
    (codes "session 1 visit-budget 3 3\n1 request POST /links HTTP/1.1%0D%0AHost: localhost%0D%0AContent-Length: 2%0D%0A%0D%0A{}\n1 reply {\"refused\":\"visit-budget\",\"size\":3}\n")
unfolding digits
costly_text = ([], refl, refl)

-- a stranger asks for another thing, while the session hasn't begun
abbrev visited : Report
visited = record {
  sessions = of end.Running 0 ∷ [];
  entries = Request 0 (codes "GET / HTTP/1.1\r\n\r\n") ∷ Reply 0 (codes "HTTP/1.1 400 Bad Request\r\nContent-Length: 25\r\n\r\n{\"refused\":\"bad-request\"}") ∷ [];
  tables = [];
}

pub visited_text : IsReportText visited
    (codes "session 1 running 0\n0 request GET / HTTP/1.1%0D%0A%0D%0A\n0 reply HTTP/1.1 400 Bad Request%0D%0AContent-Length: 25%0D%0A%0D%0A{\"refused\":\"bad-request\"}\n")
unfolding digits
visited_text = ([], refl, refl)

-- the store fails in a visit
abbrev failed : Report
failed = record { sessions = of end.StoreFault 3 ∷ []; entries = Request 1 (codes "a") ∷ Reply 1 (codes "{\"refused\":\"store-fault\"}") ∷ []; tables = [] }

pub failed_text : IsReportText failed (codes "session 1 store-fault 3\n1 request a\n1 reply {\"refused\":\"store-fault\"}\n")
unfolding digits
failed_text = ([], refl, refl)

-- a table would get too many rows
abbrev filled : Report
filled = record { sessions = of (end.TableFull 65537) 4 ∷ []; entries = Request 1 [] ∷ Reply 1 (codes "{\"refused\":\"table-full\",\"size\":65537}") ∷ []; tables = [] }

pub filled_text : IsReportText filled (codes "session 1 table-full 4 65537\n1 request \n1 reply {\"refused\":\"table-full\",\"size\":65537}\n")
unfolding digits
filled_text = ([], refl, refl)

-- a message would be too long, and one would nest too deep
abbrev refused : Report
refused = record { sessions = of (end.TooBig 1048577) 2 ∷ of (end.TooDeep 101) 2 ∷ []; entries = []; tables = [] }

pub refused_text : IsReportText refused (codes "session 1 too-big 2 1048577\nsession 2 too-deep 2 101\n")
unfolding digits
refused_text = ([], refl, refl)

-- visits of three sessions, one inside the time of another
abbrev three : Report
three = record {
  sessions = of end.Running 7 ∷ of (end.Trap Divide) 3 ∷ of end.Running 0 ∷ [];
  entries = Request 1 (codes "p") ∷ Request 2 (codes "q") ∷ Happened 2 Enter ∷ Reply 2 (codes "r") ∷ Happened 1 Enter ∷ Happened 1 Leave ∷ Reply 1 (codes "s") ∷ [];
  tables = [];
}

pub three_text : IsReportText three (codes "session 1 running 7\nsession 2 trap 3 divide\nsession 3 running 0\n1 request p\n2 request q\n2 enter\n2 reply r\n1 enter\n1 leave\n1 reply s\n")
unfolding digits
three_text = ([], refl, refl)

-- bytes that are no text, line ends and a percent sign
abbrev bytes : Report
bytes = record { sessions = of end.Running 1 ∷ []; entries = Request 1 (255 ∷ 10 ∷ 37 ∷ 65 ∷ []) ∷ Cut 1 ∷ []; tables = [] }

pub bytes_text : IsReportText bytes (codes "session 1 running 1\n1 request %FF%0A%25A\n1 cut\n")
unfolding digits
bytes_text = ([], refl, refl)

-- the status where there is no session, where all are done, and where one isn't
pub none_left : status_of (record { sessions = []; entries = []; tables = [] }) ≡ 0
none_left = refl

pub one_done : status_of (record { sessions = of (end.Done (value.Base (base.Bool true))) 1 ∷ []; entries = []; tables = [] }) ≡ 0
one_done = refl

pub one_left : status_of (record { sessions = of (end.Done (value.Base (base.Bool true))) 1 ∷ of end.Running 1 ∷ []; entries = []; tables = [] }) ≡ 8
one_left = refl
