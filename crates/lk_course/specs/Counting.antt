-- How far so many steps lead in an evaluation, by the numbers of its log: an entry has the steps that were taken when it happened.
use Rattle.std.specs.Prelude.{◌≡◌, ◌<◌, ◌≤◌, ◌⊎◌, ◌+◌, ◌&&◌, ℕ, Bool, true, false, not, List, [], Option, Some, None, IfSome, filter, find, nat_le, nat_lt, take_while}
use Rattle.lk_ast.specs.declared.event.Event.{Event}
use Rattle.lk_ast.specs.declared.event.Event.TheVariants.{Enter, Print}
use Rattle.lk_ast.specs.declared.value.Value.{Value}
use Rattle.lk_evaluation.specs.Laws.{run_of}
use Rattle.lk_evaluation.specs.Run.{Entry, Goes, Out, Run, Spent, Stops, Trapped, events_of}
use Rattle.lk_moves.specs.Courses.{Course, Evaluation, TakesWhole, followed}
use Rattle.lk_moves.specs.Later.{Later}
use Rattle.std.specs.List.{AllByRecursion}

abbrev pub is_enter : Event → Bool
is_enter Enter = true
is_enter other = false

abbrev pub is_print : Event → Bool
is_print (Print bytes) = true
is_print other = false

-- an Enter behind that many steps
abbrev pub is_enter_past : ℕ → Entry → Bool
is_enter_past n entry = is_enter entry.event && nat_lt n entry.number

-- a print behind that many steps, and with no more than so many
abbrev pub is_print_within : ℕ → ℕ → Entry → Bool
is_print_within n m entry = is_print entry.event && (nat_lt n entry.number && nat_le entry.number m)

-- the next Enter behind that many steps
abbrev pub next_enter : ℕ → List Entry → Option Entry
next_enter n log = find (is_enter_past n) log

-- The prints behind that many steps, with no more than so many, and before the next Enter: entries behind an Enter may have its number.
abbrev pub prints_between : ℕ → ℕ → List Entry → List Event
prints_between n m log = events_of (filter (is_print_within n m) (take_while (λ entry. not (is_enter_past n entry)) log))

-- ---- where steps stop

-- the steps at an end with a value or in a trap
abbrev pub end_steps : Out Value → Option ℕ
end_steps (Goes v r) = Some r.steps
end_steps (Stops (Trapped trap) r) = Some r.steps
end_steps (Stops other r) = None

abbrev pub first_stop : Option Entry → Option ℕ → Option ℕ
first_stop (Some entry) end = Some entry.number
first_stop None end = end

-- Where a client stops that has taken that many steps: at the next Enter, or at the end where no Enter comes before.
abbrev pub stop_behind : ℕ → Out Value → Option ℕ
stop_behind n out = first_stop (next_enter n (run_of out).log) (end_steps out)

-- the evaluation comes to the later number of steps, and no stop behind the earlier number is at or before it
pub record GoesPast (n m : ℕ) (out : Out Value) : Type 0 where
  pub comes : m ≤ (run_of out).steps
  pub passes : IfSome (stop_behind n out) (λ stop. m < stop)

-- ---- what steps are taken

-- it takes a step before it does anything else, or has no fuel for it
abbrev pub StepsFirst : Evaluation → Type 0
StepsFirst e = (r : Run) → Later (r.steps + 1) r (e r) ⊎ (e r ≡ Stops Spent r)

-- entries of up to that many steps
abbrev pub AreUpTo : ℕ → List Entry → Type 0
AreUpTo n = AllByRecursion (λ (entry : Entry). entry.number ≤ n)

-- prints of the steps from the first one to this one
abbrev pub ArePrints : ℕ → List Entry → Type 0
ArePrints n = AllByRecursion (λ (entry : Entry). (is_print entry.event ≡ true) × (1 ≤ entry.number) × (entry.number ≤ n))

-- A session has come to the end of one stretch, and goes on by another, in which it only prints, to what is left.
pub record GoesAlone (session : Evaluation) (c d : Course) (next : Evaluation) : Type 0 where
  pub takes : TakesWhole session (followed c d) next
  pub before : AreUpTo c.steps c.log
  pub prints : ArePrints d.steps d.log
  pub quiet : d.answers ≡ []
