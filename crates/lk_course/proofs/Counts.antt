-- How far the steps of a client lead that goes on alone.
use Rattle.std.proofs.Common.{◌≡◌, ◌≤◌, ◌<◌, ◌⊎◌, ◌&&◌, inl, inr, ℕ, ◌+◌, Bool, true, false, cond, not, List, [], ◌∷◌, ◌++◌, refl, sym, ap, ap₂, ◌∙◌, append_assoc, append-nil, subst, arith, nat_lt, nat_le}
use Rattle.std.proofs.lemmas.Bool.Decides.{nat_tests}
use Rattle.std.proofs.lemmas.List.Sums.{take_while-cons}
use Rattle.std.specs.List.{AllByRecursion}
use Rattle.std.specs.Prelude.{Option, Some, None, IfSome, filter, take_while}
use Rattle.lk_ast.specs.declared.event.Event.{Event}
use Rattle.lk_ast.specs.declared.event.Event.TheVariants.{Print, Enter, Leave, Read, Write}
use Rattle.lk_ast.specs.declared.table.Row.{Row}
use Rattle.lk_ast.specs.declared.value.Value.{Value}
use Rattle.lk_evaluation.specs.Laws.{moved, run_of}
use Rattle.lk_evaluation.specs.Run.{Asked, Crossing, Entry, Goes, Out, Run, Spent, Stops, Stuck, Trapped, Waiting, events_of, start}
use Rattle.lk_moves.specs.Courses.{Course, Evaluation, followed}
use Rattle.lk_moves.specs.Later.{Later, Rise}
use Rattle.lk_course.proofs.Agreeing.{comes}
use Rattle.lk_course.proofs.Happening.{moved_events}
use Rattle.lk_course.proofs.Lately.{rise_over}
use Rattle.lk_course.specs.Counting.{ArePrints, AreUpTo, GoesAlone, GoesPast, StepsFirst, end_steps, first_stop, is_enter, is_enter_past, is_print, is_print_within, next_enter, prints_between}
use Rattle.lk_course.specs.Laws.{CountingLaw, LogsFirst, at_end}

-- ---- tests of one entry

not_under : (n k : ℕ) → k ≤ n → nat_lt n k ≡ false
not_under n k h = grind (arith, nat_tests, h)

under : (n k : ℕ) → n < k → nat_lt n k ≡ true
under n k h = grind (arith, nat_tests, h)

not_up_to : (k m : ℕ) → m < k → nat_le k m ≡ false
not_up_to k m h = grind (arith, nat_tests, h)

up_to : (k m : ℕ) → k ≤ m → nat_le k m ≡ true
up_to k m h = grind (arith, nat_tests, h)

and_not : (b : Bool) → (b && false) ≡ false
and_not true = refl
and_not false = refl

old_enter : (n k : ℕ) (event : Event) → k ≤ n → (is_enter event && nat_lt n k) ≡ false
old_enter n k Enter h = not_under n k h
old_enter n k (Print bytes) h = refl
old_enter n k Leave h = refl
old_enter n k (Read e) h = refl
old_enter n k (Write e) h = refl

old_print : (n m k : ℕ) (event : Event) → k ≤ n → (is_print event && (nat_lt n k && nat_le k m)) ≡ false
old_print n m k Enter h = refl
old_print n m k (Print bytes) h = ap (λ b. b && nat_le k m) (not_under n k h)
old_print n m k Leave h = refl
old_print n m k (Read e) h = refl
old_print n m k (Write e) h = refl

late_print : (n m k : ℕ) (event : Event) → m < k → (is_print event && (nat_lt n k && nat_le k m)) ≡ false
late_print n m k Enter h = refl
late_print n m k (Print bytes) h = ap (λ b. nat_lt n k && b) (not_up_to k m h) ∙ and_not (nat_lt n k)
late_print n m k Leave h = refl
late_print n m k (Read e) h = refl
late_print n m k (Write e) h = refl

no_enter : (n k : ℕ) (event : Event) → is_print event ≡ true → (is_enter event && nat_lt n k) ≡ false
no_enter n k Enter h = cc
no_enter n k (Print bytes) h = refl
no_enter n k Leave h = refl
no_enter n k (Read e) h = refl
no_enter n k (Write e) h = refl

-- ---- one entry more

prints_unfold : (n m : ℕ) (entry : Entry) (log : List Entry)
    → prints_between n m (entry ∷ log) ≡ events_of (filter (is_print_within n m) (cond (not (is_enter_past n entry)) (entry ∷ take_while (λ e. not (is_enter_past n e)) log) []))
prints_unfold n m entry log = ap (λ entries. events_of (filter (is_print_within n m) entries)) (take_while-cons (λ e. not (is_enter_past n e)) entry log)

prints_other : (n m : ℕ) (entry : Entry) (log : List Entry) → is_enter_past n entry ≡ false → is_print_within n m entry ≡ false → prints_between n m (entry ∷ log) ≡ prints_between n m log
prints_other n m entry log past print =
    let rest : List Entry = take_while (λ e. not (is_enter_past n e)) log in
    prints_unfold n m entry log ∙ ap (λ b. events_of (filter (is_print_within n m) (cond (not b) (entry ∷ rest) []))) past
    ∙ ap (λ b. events_of (cond b (entry ∷ filter (is_print_within n m) rest) (filter (is_print_within n m) rest))) print

prints_one : (n m : ℕ) (entry : Entry) (log : List Entry) → is_enter_past n entry ≡ false → is_print_within n m entry ≡ true → prints_between n m (entry ∷ log) ≡ entry.event ∷ prints_between n m log
prints_one n m entry log past print =
    let rest : List Entry = take_while (λ e. not (is_enter_past n e)) log in
    prints_unfold n m entry log ∙ ap (λ b. events_of (filter (is_print_within n m) (cond (not b) (entry ∷ rest) []))) past
    ∙ ap (λ b. events_of (cond b (entry ∷ filter (is_print_within n m) rest) (filter (is_print_within n m) rest))) print

prints_stop : (n m : ℕ) (entry : Entry) (log : List Entry) → is_enter_past n entry ≡ true → prints_between n m (entry ∷ log) ≡ []
prints_stop n m entry log past =
    prints_unfold n m entry log ∙ ap (λ b. events_of (filter (is_print_within n m) (cond (not b) (entry ∷ take_while (λ e. not (is_enter_past n e)) log) []))) past

-- ---- what was there before

enter_old : (n : ℕ) (log more : List Entry) → AreUpTo n log → next_enter n (log ++ more) ≡ next_enter n more
enter_old n [] more old = refl
enter_old n (entry ∷ log) more old = ap (λ b. cond b (Some entry) (next_enter n (log ++ more))) (old_enter n entry.number entry.event old.0) ∙ enter_old n log more old.1

prints_old : (n m : ℕ) (log more : List Entry) → AreUpTo n log → prints_between n m (log ++ more) ≡ prints_between n m more
prints_old n m [] more old = refl
prints_old n m (entry ∷ log) more old =
    prints_other n m entry (log ++ more) (old_enter n entry.number entry.event old.0) (old_print n m entry.number entry.event old.0)
    ∙ prints_old n m log more old.1

-- ---- prints

-- prints of steps past the first, up to the second
abbrev AreWithin : ℕ → ℕ → List Entry → Type 0
AreWithin n m = AllByRecursion (λ (entry : Entry). (is_print entry.event ≡ true) × (n < entry.number) × (entry.number ≤ m))

enter_new : (n m : ℕ) (log more : List Entry) → AreWithin n m log → next_enter n (log ++ more) ≡ next_enter n more
enter_new n m [] more new = refl
enter_new n m (entry ∷ log) more new = ap (λ b. cond b (Some entry) (next_enter n (log ++ more))) (no_enter n entry.number entry.event new.0.0) ∙ enter_new n m log more new.1

prints_new : (n m : ℕ) (log more : List Entry) → AreWithin n m log → prints_between n m (log ++ more) ≡ events_of log ++ prints_between n m more
prints_new n m [] more new = refl
prints_new n m (entry ∷ log) more new =
    prints_one n m entry (log ++ more) (no_enter n entry.number entry.event new.0.0)
    (ap₂ (λ b c. b && c) new.0.0 (ap₂ (λ b c. b && c) (under n entry.number new.0.1) (up_to entry.number m new.0.2)))
    ∙ ap (λ events. entry.event ∷ events) (prints_new n m log more new.1)

within : (n m : ℕ) (log : List Entry) → ArePrints m log → AreWithin n (n + m) (moved n log)
within n m [] prints = tt
within n m (entry ∷ log) prints = ((prints.0.0, omega (arith, prints.0.1), omega (arith, prints.0.2)), within n m log prints.1)

-- ---- what comes later

found_late : (m : ℕ) (b : Bool) (entry : Entry) (found : Option Entry) → m < entry.number → IfSome found (λ e. m < e.number) → IfSome (cond b (Some entry) found) (λ e. m < e.number)
found_late m true entry found one others = one
found_late m false entry found one others = others

enter_late : (n m first : ℕ) (log : List Entry) (last : ℕ) → m < first → Rise first log last → IfSome (next_enter n log) (λ entry. m < entry.number)
enter_late n m first [] last lt rise = tt
enter_late n m first (entry ∷ log) last lt rise =
    let later : m < entry.number = omega (arith, lt, rise.0) in
    found_late m (is_enter_past n entry) entry (next_enter n log) later (enter_late n m entry.number log last later rise.1)

one_late : (n m : ℕ) (entry : Entry) (log : List Entry) → m < entry.number → (b : Bool) → is_enter_past n entry ≡ b → prints_between n m log ≡ [] → prints_between n m (entry ∷ log) ≡ []
one_late n m entry log later true past none = prints_stop n m entry log past
one_late n m entry log later false past none = prints_other n m entry log past (late_print n m entry.number entry.event later) ∙ none

prints_late : (n m first : ℕ) (log : List Entry) (last : ℕ) → m < first → Rise first log last → prints_between n m log ≡ []
prints_late n m first [] last lt rise = refl
prints_late n m first (entry ∷ log) last lt rise =
    let later : m < entry.number = omega (arith, lt, rise.0) in
    one_late n m entry log later (is_enter_past n entry) refl (prints_late n m entry.number log last later rise.1)

stop_past : (m : ℕ) (found : Option Entry) (end : Option ℕ) → IfSome found (λ entry. m < entry.number) → IfSome end (λ steps. m < steps) → IfSome (first_stop found end) (λ stop. m < stop)
stop_past m (Some entry) end first second = first
stop_past m None end first second = second

end_past : (m : ℕ) (out : Out Value) → m + 1 ≤ (run_of out).steps → IfSome (end_steps out) (λ steps. m < steps)
end_past m (Goes v r) h = omega (arith, h)
end_past m (Stops (Trapped trap) r) h = omega (arith, h)
end_past m (Stops Spent r) h = tt
end_past m (Stops (Waiting site args) r) h = tt
end_past m (Stops (Stuck at) r) h = tt
end_past m (Stops (Asked callee args) r) h = tt

-- ---- a session that goes on alone

module _ (session : Evaluation) (c d : Course) (next : Evaluation) (alone : GoesAlone session c d next) where
  abbrev out : Out Value
  out = session (start (c.fuel + d.fuel) c.answers)

  abbrev last : Run
  last = at_end (followed c d)

  same : (answers : List (List Row)) → answers ≡ [] → session (start (c.fuel + d.fuel) (c.answers ++ answers)) ≡ out
  same answers none = ap (λ more. session (start (c.fuel + d.fuel) (c.answers ++ more))) none ∙ ap (λ all. session (start (c.fuel + d.fuel) all)) (append-nil c.answers)

  is : out ≡ next last
  is = sym (same d.answers alone.quiet) ∙ comes session next (followed c d) alone.takes

  new : AreWithin c.steps (c.steps + d.steps) (moved c.steps d.log)
  new = within c.steps d.steps d.log alone.prints

  -- behind what was logged this is all
  enter_in : (log : List Entry) → (run_of out).log ≡ last.log ++ log → next_enter c.steps (run_of out).log ≡ next_enter c.steps log
  enter_in log shape =
      ap (next_enter c.steps) (shape ∙ append_assoc c.log (moved c.steps d.log) log)
      ∙ enter_old c.steps c.log (moved c.steps d.log ++ log) alone.before
      ∙ enter_new c.steps (c.steps + d.steps) (moved c.steps d.log) log new

  prints_in : (log : List Entry) → (run_of out).log ≡ last.log ++ log → prints_between c.steps (c.steps + d.steps) log ≡ [] → prints_between c.steps (c.steps + d.steps) (run_of out).log ≡ events_of d.log
  prints_in log shape none =
      ap (prints_between c.steps (c.steps + d.steps)) (shape ∙ append_assoc c.log (moved c.steps d.log) log)
      ∙ prints_old c.steps (c.steps + d.steps) c.log (moved c.steps d.log ++ log) alone.before
      ∙ prints_new c.steps (c.steps + d.steps) (moved c.steps d.log) log new
      ∙ ap₂ (λ events more. events ++ more) (moved_events c.steps d.log) none
      ∙ append-nil (events_of d.log)

  -- nothing more
  all_there : (run_of out) ≡ last → (run_of out).log ≡ last.log ++ []
  all_there end = ap (λ (r : Run). r.log) end ∙ sym (append-nil last.log)

  -- ---- a step first

  stays : next last ≡ Stops Spent last → run_of out ≡ last
  stays spent = ap (λ o. run_of o) (is ∙ spent)

  logged : (later : Later (last.steps + 1) last (next last)) → (run_of out).log ≡ last.log ++ later.more
  logged later = ap (λ o. (run_of o).log) is ∙ later.logged

  behind : (m : ℕ) → m < m + 1
  behind m = omega arith

  past_late : Later (last.steps + 1) last (next last) → GoesPast c.steps (c.steps + d.steps) out
  past_late later =
      let steps : last.steps + 1 ≤ (run_of (next last)).steps = rise_over (last.steps + 1) later.more (run_of (next last)).steps later.rise in
      subst (λ o. GoesPast c.steps (c.steps + d.steps) o) (sym is) (record {
        comes = omega (arith, steps);
        passes = stop_past last.steps (next_enter c.steps (run_of (next last)).log) (end_steps (next last))
            (subst (λ found. IfSome found (λ entry. last.steps < entry.number)) (sym (ap (λ o. next_enter c.steps (run_of o).log) (sym is) ∙ enter_in later.more (logged later)))
            (enter_late c.steps last.steps (last.steps + 1) later.more (run_of (next last)).steps (behind last.steps) later.rise))
            (end_past last.steps (next last) steps);
      })

  past_spent : next last ≡ Stops Spent last → GoesPast c.steps (c.steps + d.steps) out
  past_spent spent = record {
    comes = subst (λ (r : Run). c.steps + d.steps ≤ r.steps) (sym (stays spent)) (let e : c.steps + d.steps ≤ c.steps + d.steps = omega arith in e);
    passes = subst (λ o. IfSome (first_stop (next_enter c.steps (run_of out).log) (end_steps o)) (λ stop. c.steps + d.steps < stop)) (sym (is ∙ spent))
        (subst (λ found. IfSome (first_stop found None) (λ stop. c.steps + d.steps < stop)) (sym (enter_in [] (all_there (stays spent)))) tt);
  }

  past : StepsFirst next → GoesPast c.steps (c.steps + d.steps) out
  past steps = either (steps last)
    where
      either : Later (last.steps + 1) last (next last) ⊎ (next last ≡ Stops Spent last) → GoesPast c.steps (c.steps + d.steps) out
      either (inl later) = past_late later
      either (inr spent) = past_spent spent

  past_prints : StepsFirst next → prints_between c.steps (c.steps + d.steps) (run_of out).log ≡ events_of d.log
  past_prints steps = either (steps last)
    where
      either : Later (last.steps + 1) last (next last) ⊎ (next last ≡ Stops Spent last) → prints_between c.steps (c.steps + d.steps) (run_of out).log ≡ events_of d.log
      either (inl later) = prints_in later.more (logged later) (prints_late c.steps last.steps (last.steps + 1) later.more (run_of (next last)).steps (behind last.steps) later.rise)
      either (inr spent) = prints_in [] (all_there (stays spent)) refl

  -- ---- an Enter first

  abbrev entry : Crossing → Entry
  entry crossing = record { number = c.steps + d.steps; event = Enter; crossing = crossing }

  enter_there : (crossing : Crossing) (first : LogsFirst Enter crossing next) → (run_of out).log ≡ last.log ++ (entry crossing ∷ (first last).0)
  enter_there crossing first = ap (λ o. (run_of o).log) is ∙ (first last).1 ∙ append_assoc last.log (entry crossing ∷ []) (first last).0

  further : (n k : ℕ) → 1 ≤ k → nat_lt n (n + k) ≡ true
  further n k h = under n (n + k) (omega (arith, h))

  entered : (crossing : Crossing) → LogsFirst Enter crossing next → 1 ≤ d.steps → next_enter c.steps (run_of out).log ≡ Some (entry crossing)
  entered crossing first some =
      enter_in (entry crossing ∷ (first last).0) (enter_there crossing first)
      ∙ ap (λ b. cond b (Some (entry crossing)) (next_enter c.steps (first last).0)) (further c.steps d.steps some)

  entered_prints : (crossing : Crossing) → LogsFirst Enter crossing next → 1 ≤ d.steps → prints_between c.steps (c.steps + d.steps) (run_of out).log ≡ events_of d.log
  entered_prints crossing first some =
      prints_in (entry crossing ∷ (first last).0) (enter_there crossing first)
      (prints_stop c.steps (c.steps + d.steps) (entry crossing) (first last).0 (further c.steps d.steps some))

  -- ---- an end

  ends : ((r : Run) → run_of (next r) ≡ r) → run_of out ≡ last
  ends end = ap (λ o. run_of o) is ∙ end last

  pub counting_law : CountingLaw session c d next (session (start (c.fuel + d.fuel) c.answers))
  counting_law = record {
    comes = is;
    past = past;
    past_prints = past_prints;
    entered = entered;
    entered_prints = entered_prints;
    ended = λ end. enter_in [] (all_there (ends end));
    ended_prints = λ end. prints_in [] (all_there (ends end)) refl;
  }
