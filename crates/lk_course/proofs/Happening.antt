-- Events are stretches.
use Rattle.std.proofs.Common.{◌≡◌, ℕ, ◌+◌, ◌≤◌, List, [], ◌∷◌, ◌++◌, refl, sym, ap, ap₂, ◌∙◌, arith}
use Rattle.lk_ast.specs.Rows.{rows_value}
use Rattle.lk_ast.specs.declared.event.Event.{Event}
use Rattle.lk_ast.specs.declared.event.Event.TheVariants.{Enter, Leave, Print, Read, Write}
use Rattle.lk_ast.specs.declared.table.Row.{Row}
use Rattle.lk_ast.specs.declared.value.Value.{Value}
use Rattle.lk_evaluation.specs.Evaluation.{Reading, used}
use Rattle.lk_evaluation.specs.Laws.{moved}
use Rattle.lk_evaluation.specs.Run.{Crossing, Entry, Run, Within, and_then, answers_in, events_of, logs, step}
use Rattle.lk_moves.specs.Courses.{Course, Evaluation, Takes, after, followed}
use Rattle.lk_operators.specs.Values.{unit}
use Rattle.lk_course.specs.Counting.{ArePrints, AreUpTo}
use Rattle.lk_course.specs.Events.{HasEvents, happening, stepping}
use Rattle.lk_course.specs.Laws.{EventsLaw}

-- ---- one event

-- what is logged at once, with these answers over
behind : (event : Event) (crossing : Crossing) (answers : List (List Row)) (r : Run) → logs event crossing (record r { fuel = 0 + r.fuel; answers = answers }) ≡ record (after (happening event crossing) r) { answers = answers }
behind event crossing answers r =
    let fuel : 0 + r.fuel ≡ r.fuel = omega arith in
    let steps : r.steps ≡ r.steps + 0 = omega arith in
    ap (λ n. record r { fuel = n; log = r.log ++ record { number = r.steps; event = event; crossing = crossing } ∷ []; answers = answers }) fuel
    ∙ ap (λ n. record r { steps = n; log = r.log ++ record { number = n; event = event; crossing = crossing } ∷ []; answers = answers }) steps

pub happens : (event : Event) (crossing : Crossing) (k : Evaluation) → answers_in (event ∷ []) ≡ [] → Takes (λ r. k (logs event crossing r)) (happening event crossing) k
happens event crossing k none r =
    ap (λ (answers : List (List Row)). k (logs event crossing (record r { fuel = 0 + r.fuel; answers = answers ++ r.answers }))) none
    ∙ ap k (behind event crossing r.answers r)

pub reads : (site : ℕ) (args : List Value) (answer : List Row) (k : Value → Evaluation)
    → Takes (λ r. and_then (used (Reading site args) r) k) (happening (Read (record { site = site; args = args; answer = answer })) Within) (k (rows_value answer))
reads site args answer k r = ap (k (rows_value answer)) (behind (Read (record { site = site; args = args; answer = answer })) Within r.answers r)

-- behind a step
pub steps_to : (event : Event) (crossing : Crossing) (k : Evaluation) → answers_in (event ∷ []) ≡ [] → Takes (λ r. k (logs event crossing (step r))) (stepping event crossing) k
steps_to event crossing k none r =
    ap (λ (answers : List (List Row)). k (logs event crossing (step (record r { fuel = 0 + 0 + r.fuel; answers = answers ++ r.answers })))) none
    ∙ ap k same
  where
    same : logs event crossing (step (record r { fuel = 0 + 0 + r.fuel; answers = [] ++ r.answers })) ≡ after (stepping event crossing) r
    same =
        let fuel : 0 + 0 + r.fuel ≡ r.fuel = omega arith in
        ap (λ n. record r { fuel = n; steps = r.steps + 1; log = r.log ++ record { number = r.steps + 1; event = event; crossing = crossing } ∷ [] }) fuel

-- ---- the events of both

pub moved_events : (n : ℕ) (log : List Entry) → events_of (moved n log) ≡ events_of log
moved_events n [] = refl
moved_events n (entry ∷ log) = ap (λ events. entry.event ∷ events) (moved_events n log)

pub events_both : (log more : List Entry) → events_of (log ++ more) ≡ events_of log ++ events_of more
events_both [] more = refl
events_both (entry ∷ log) more = ap (λ events. entry.event ∷ events) (events_both log more)

pub moved_behind : (log : List Entry) (n : ℕ) (more : List Entry) → events_of (log ++ moved n more) ≡ events_of log ++ events_of more
moved_behind log n more = events_both log (moved n more) ∙ ap (λ events. events_of log ++ events) (moved_events n more)

pub answers_both : (es fs : List Event) → answers_in (es ++ fs) ≡ answers_in es ++ answers_in fs
answers_both [] fs = refl
answers_both (Read e ∷ es) fs = ap (λ answers. e.answer ∷ answers) (answers_both es fs)
answers_both (Print bytes ∷ es) fs = answers_both es fs
answers_both (Enter ∷ es) fs = answers_both es fs
answers_both (Leave ∷ es) fs = answers_both es fs
answers_both (Write e ∷ es) fs = answers_both es fs

pub both : (c d : Course) (es fs : List Event) → HasEvents c es → HasEvents d fs → HasEvents (followed c d) (es ++ fs)
both c d es fs first second = record {
  logged = moved_behind c.log c.steps d.log ∙ ap₂ (λ events others. events ++ others) first.logged second.logged;
  read = ap₂ (λ answers others. answers ++ others) first.read second.read ∙ sym (answers_both es fs);
}

-- ---- how far they reach

up_to_append : (n : ℕ) (log more : List Entry) → AreUpTo n log → AreUpTo n more → AreUpTo n (log ++ more)
up_to_append n [] more up also = also
up_to_append n (entry ∷ log) more up also = (up.0, up_to_append n log more up.1 also)

pub up_to_later : (n m : ℕ) (log : List Entry) → n ≤ m → AreUpTo n log → AreUpTo m log
up_to_later n m [] le up = tt
up_to_later n m (entry ∷ log) le up = (omega (arith, le, up.0), up_to_later n m log le up.1)

pub up_to_moved : (n m : ℕ) (log : List Entry) → AreUpTo m log → AreUpTo (n + m) (moved n log)
up_to_moved n m [] up = tt
up_to_moved n m (entry ∷ log) up = (omega (arith, up.0), up_to_moved n m log up.1)

pub both_up_to : (c d : Course) → AreUpTo c.steps c.log → AreUpTo d.steps d.log → AreUpTo (followed c d).steps (followed c d).log
both_up_to c d first second = up_to_append (c.steps + d.steps) c.log (moved c.steps d.log) (up_to_later c.steps (c.steps + d.steps) c.log (omega arith) first) (up_to_moved c.steps d.steps d.log second)

-- ---- prints

pub prints_up_to : (n : ℕ) (log : List Entry) → ArePrints n log → AreUpTo n log
prints_up_to n [] prints = tt
prints_up_to n (entry ∷ log) prints = (prints.0.2, prints_up_to n log prints.1)

prints_append : (n : ℕ) (log more : List Entry) → ArePrints n log → ArePrints n more → ArePrints n (log ++ more)
prints_append n [] more prints also = also
prints_append n (entry ∷ log) more prints also = (prints.0, prints_append n log more prints.1 also)

prints_later : (n m : ℕ) (log : List Entry) → n ≤ m → ArePrints n log → ArePrints m log
prints_later n m [] le prints = tt
prints_later n m (entry ∷ log) le prints = ((prints.0.0, prints.0.1, omega (arith, le, prints.0.2)), prints_later n m log le prints.1)

prints_moved : (n m : ℕ) (log : List Entry) → ArePrints m log → ArePrints (n + m) (moved n log)
prints_moved n m [] prints = tt
prints_moved n m (entry ∷ log) prints = ((prints.0.0, omega (arith, prints.0.1), omega (arith, prints.0.2)), prints_moved n m log prints.1)

pub both_print : (c d : Course) → ArePrints c.steps c.log → ArePrints d.steps d.log → ArePrints (followed c d).steps (followed c d).log
both_print c d first second = prints_append (c.steps + d.steps) c.log (moved c.steps d.log) (prints_later c.steps (c.steps + d.steps) c.log (omega arith) first) (prints_moved c.steps d.steps d.log second)

pub events_law : EventsLaw
events_law = record {
  prints = λ bytes k. happens (Print bytes) Within (k unit) refl;
  reads = reads;
  writes = λ site args k. happens (Write (record { site = site; args = args })) Within (k unit) refl;
  both = both;
  both_up_to = both_up_to;
  both_print = both_print;
  prints_up_to = prints_up_to;
}
