-- Where a session has come to gives its agreement.
use Rattle.std.proofs.Common.{◌≡◌, ◌+◌, List, [], ◌∷◌, ◌++◌, refl, sym, ◌∙◌, ap, arith, append-nil}
use Rattle.lk_ast.specs.declared.event.Event.{Event}
use Rattle.lk_evaluation.specs.Laws.{Extends, moved, run_of}
use Rattle.lk_evaluation.specs.Run.{Entry, Run, answers_in, events_of, start}
use Rattle.lk_moves.specs.Courses.{Course, Evaluation, TakesWhole, after, before}
use Rattle.lk_course.proofs.Happening.{events_both}
use Rattle.lk_course.specs.Agreement.{HasCome}
use Rattle.lk_course.specs.Events.{HasEvents}
use Rattle.lk_course.specs.Laws.{AgreementLaw, at_end}

-- a run in which nothing is left
abbrev over : Run
over = start 0 []

moved_zero : (log : List Entry) → moved 0 log ≡ log
moved_zero [] = refl
moved_zero (entry ∷ log) =
    let same : 0 + entry.number ≡ entry.number = omega arith in
    ap (λ n. record entry { number = n } ∷ moved 0 log) same ∙ ap (λ rest. entry ∷ rest) (moved_zero log)

begins : (c : Course) → start c.fuel c.answers ≡ before c over
begins c =
    let fuel : c.fuel ≡ c.fuel + 0 = omega arith in
    ap (λ n. start n c.answers) fuel ∙ ap (start (c.fuel + 0)) (sym (append-nil c.answers))

ends : (c : Course) → after c over ≡ at_end c
ends c =
    let steps : 0 + c.steps ≡ c.steps = omega arith in
    ap (λ n. record over { steps = n; log = moved 0 c.log }) steps ∙ ap (λ log. record over { steps = c.steps; log = log }) (moved_zero c.log)

-- a session with the fuel of a stretch and over its answers comes to its end
pub comes : (session next : Evaluation) (c : Course) → TakesWhole session c next → session (start c.fuel c.answers) ≡ next (at_end c)
comes session next c takes = ap session (begins c) ∙ takes over refl ∙ ap next (ends c)

comes_over : (session next : Evaluation) (c : Course) (events : List Event) → HasEvents c events → TakesWhole session c next → session (start c.fuel (answers_in events)) ≡ next (at_end c)
comes_over session next c events has takes = ap (λ answers. session (start c.fuel answers)) (sym has.read) ∙ comes session next c takes

come : (session next : Evaluation) (c : Course) (events : List Event) → HasEvents c events → TakesWhole session c next → ((r : Run) → Extends r.log (run_of (next r)).log) → HasCome session events
come session next c events has takes adds = (
  c.fuel,
  (
    events_of (adds (at_end c)).0,
    ap (λ out. events_of (run_of out).log) (comes_over session next c events has takes)
        ∙ ap events_of (adds (at_end c)).1
        ∙ events_both c.log (adds (at_end c)).0
        ∙ ap (λ first. first ++ events_of (adds (at_end c)).0) has.logged,
  ),
)

pub agreement_law : AgreementLaw
agreement_law = record {
  ended = λ session outcome c events has takes. record { fuel = c.fuel; last = at_end c; end = comes_over session outcome c events has takes; answers = refl; log = has.logged };
  come = come;
}
