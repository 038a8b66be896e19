use Rattle.std.proofs.Common.{◌≡◌, ◌∙◌, List, false, refl, subst, sym}
use Rattle.std.specs.List.{AllByRecursion}
use Rattle.lk_ast.proofs.PlainLevels.{of_base}
use Rattle.lk_join.specs.Reports.{end_shows_function, entry_shows_function}
use Rattle.lk_join.specs.declared.report.Entry.{Entry}
use Rattle.lk_join.specs.declared.report.SessionReport.{SessionReport}
use Rattle.unit_tests.proofs.reports.report_of_two_sessions.Goals as goal

pub report_text-requires : goal.report_text-requires
report_text-requires g c = record {
  plain = record {
    sessions = subst (AllByRecursion (λ (session : SessionReport). end_shows_function session.end ≡ false)) (sym (c.from_vec.ensures ∙ c.in_ok-sessions.ensures.items)) (of_base _, (refl, tt));
    entries = subst (AllByRecursion (λ (entry : Entry). entry_shows_function entry ≡ false)) (sym (c.from_vec-2.ensures ∙ c.in_ok-entries.ensures.items)) (refl, (refl, (refl, (refl, (refl, (refl, tt))))));
  };
}
