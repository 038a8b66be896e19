use Rattle.std.proofs.Common.{◌≡◌, drop}
use Rattle.std.specs.List.{list_all}
use Rattle.lk_join.specs.Reports.{is_done}
use Rattle.lk_join.specs.declared.report.SessionReport.{SessionReport}
use Rattle.lk_join.proofs.text.all_done.Given as goal

abbrev pub invariant-loop-session : goal.invariant-loop-session
invariant-loop-session l =
    list_all (λ (session : SessionReport). is_done session.end) (drop l.session-index l.sessions) ≡ list_all (λ (session : SessionReport). is_done session.end) l.fn.sessions
