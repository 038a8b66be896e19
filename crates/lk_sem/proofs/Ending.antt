-- From the end of the evaluator's loop to the run of a program.
use Rattle.std.proofs.Common.{◌≡◌, ℕ, ◌+◌, ◌-◌, ◌<◌, ◌≤◌, ◌⊎◌, inl, inr, List, [], ◌∷◌, ◌++◌, Option, Some, None, length, length-append, map, append-nil, sym, ◌∙◌, ap, subst, arith}
use Rattle.std.specs.Option.{unwrap_or}
use Rattle.std.specs.Prelude.{Bool, true, false, ◌==◌, if◌then◌else◌, Result, Ok, Err, IfErr}
use Rattle.lk_ast.specs.Tables.{Tables}
use Rattle.lk_ast.specs.declared.declaration.Program.{Program}
use Rattle.lk_ast.specs.declared.event.Event.{Event}
use Rattle.lk_ast.specs.declared.place.Loc.{Loc}
use Rattle.lk_ast.specs.declared.place.Word.{Word}
use Rattle.lk_ast.specs.declared.value.Value.{Value}
use Rattle.lk_evaluation.specs.Evaluation.{Reading, Writing, reading}
use Rattle.lk_evaluation.specs.Laws.{HasBegun, run_of}
use Rattle.lk_evaluation.specs.Run.{Run, Out, Goes, Stops, Trapped, Spent, Waiting, and_then, answers_in, events_of, start}
use Rattle.lk_evaluation.specs.Source.{source}
use Rattle.lk_locals.specs.Names.{Names, bind_all, bind_each}
use Rattle.lk_sem.specs.Ends.{end_of, stop_of}
use Rattle.lk_sem.specs.Frames.{returned}
use Rattle.lk_sem.specs.Machine.{EndsEarly, Shows, frame_of, outcome, wound}
use Rattle.lk_sem.specs.SourceRuns.{IsLeastFuel, IsOverfull, IsPlainEnd, IsRefusedAt, IsRunBy, IsRunOf}
use Rattle.lk_sem.specs.Standing.{Ends, IsSound, Stands, run_to}
use Rattle.lk_sem.specs.declared.machine.Frame.{Frame as MachineFrame}
use Rattle.lk_sem.specs.declared.machine.Machine.{Machine}
use Rattle.lk_sem.specs.declared.machine.Next.{Next}
use Rattle.lk_sem.specs.declared.machine.Next.TheVariants as now
use Rattle.lk_sem.specs.declared.run.Halt.{Halt}
use Rattle.lk_sem.specs.declared.run.Halt.TheVariants as halt
use Rattle.lk_sem.specs.declared.run.SourceEnd.{SourceEnd}
use Rattle.lk_sem.specs.declared.run.SourceEnd.TheVariants as end
use Rattle.lk_sem.proofs.Begun.{answers_written, begun_at_last, begun_here}
use Rattle.lk_sound.proofs.Legality.{past_history}
use Rattle.lk_sound.specs.Histories.{write_event}
use Rattle.lk_sem.proofs.Sound as sound
use Rattle.lk_sem.proofs.Whole.{either}
use Rattle.lk_sem.proofs.Winding as winding

-- ---- ends

module _ (p : Program) (first m : Machine) (o : Run → Out Value) (fuel : ℕ) (none : first.log ≡ []) (is : first.fuel ≡ fuel) (law : IsSound p o fuel) (next : Next) (old told : Option Tables) (s : Stands p first o old told m next) where
  -- the evaluation over the answers so far, and the run that the machine shows
  abbrev all : Out Value
  all = o (start fuel (answers_in m.log))

  here : (r : Run) × Shows m 0 r × (r.answers ≡ []) × (all ≡ wound p m.stack (outcome p next r))
  here = sound.here p first m o fuel none is law next s.leads s.answered

  left : m.fuel ≤ fuel
  left = let below = s.leads.fuel in omega (arith, below, is)

  used_up : (r : Run) → Shows m 0 r → (fuel - m.fuel) + r.fuel ≡ fuel
  used_up r shown = let same = shown.fuel in let below = left in omega (arith, same, below)

  run_here : (e : SourceEnd) (out : Run → Out Value) → all ≡ out here.0 → IsRunOf o fuel (run_to fuel m e) out
  run_here e out same = record { last = here.0; end = same; log = sym here.1.log; used = used_up here.0 here.1; answers = here.2 }

  ends_with : (e : SourceEnd) → IsRunBy p o fuel told (run_to fuel m e) e → IsPlainEnd e → Ends p o fuel old told m e
  ends_with e run plain = record {
    left = left;
    run = run;
    begun = begun_here p first m o fuel none is law next old told s;
    answered = s.answered;
    history = past_history p old told m.log s.past;
    others = s.others;
    plain = (plain, sound.plain_here p first m o fuel none is law next s.leads s.answered);
  }

  -- the same machine with other frames
  restacked : (stack : List MachineFrame) (e : SourceEnd) → Ends p o fuel old told m e → Ends p o fuel old told (record { stack = stack; log = m.log; fuel = m.fuel }) e
  restacked stack e h = record { left = h.left; run = h.run; begun = h.begun; answered = h.answered; history = h.history; others = h.others; plain = h.plain }

  pub ends_value : (v : Value) (stack : List MachineFrame) → next ≡ now.Give v → m.stack ≡ [] → Ends p o fuel old told (record { stack = stack; log = m.log; fuel = m.fuel }) (end.Value v)
  ends_value v stack e empty =
      restacked stack (end.Value v)
      (ends_with (end.Value v)
      (run_here (end.Value v) (Goes v) (here.3 ∙ ap (λ n. wound p m.stack (outcome p n here.0)) e ∙ ap (λ fs. wound p fs (Goes v here.0)) empty))
      (sound.plain_value p first m o fuel none is law next s.leads s.answered v e empty))

  stopped : (h : Halt) → next ≡ now.Stop h → all ≡ Stops (stop_of h) here.0
  stopped h e = here.3 ∙ ap (λ n. wound p m.stack (outcome p n here.0)) e ∙ winding.wound-stops (source p) (map frame_of m.stack) (stop_of h) here.0

  pub ends_halt : (h : Halt) (e : SourceEnd) → next ≡ now.Stop h → end_of h ≡ Some e → Ends p o fuel old told m e
  ends_halt (halt.Trap trap) e at some =
      let same : end.Trap trap ≡ e = cc in
      subst (Ends p o fuel old told m) same (ends_with (end.Trap trap) (run_here (end.Trap trap) (Stops (Trapped trap)) (stopped (halt.Trap trap) at)) tt)
  ends_halt halt.Spent e at some =
      let same : end.Spent ≡ e = cc in
      subst (Ends p o fuel old told m) same (ends_with end.Spent (run_here end.Spent (Stops Spent) (stopped halt.Spent at)) tt)
  ends_halt (halt.Stuck at) e is some = absurd cc

  pub never_stuck : (h : Halt) → next ≡ now.Stop h → end_of h ≡ None → ⊥
  never_stuck (halt.Trap trap) at some = cc
  never_stuck halt.Spent at some = cc
  never_stuck (halt.Stuck at) e some = sound.never_stuck p first m o fuel none is law next s.leads s.answered at e

  -- with less fuel than was used it doesn't come to an event behind these
  too_little : (other : ℕ) (e : Event) → other < fuel - m.fuel → answers_in (m.log ++ e ∷ []) ≡ answers_in m.log → HasBegun o other (m.log ++ e ∷ []) → ⊥
  too_little other e few same begun =
      let below = left in
      let early : EndsEarly m.log (o (start other (answers_in m.log))) =
      s.leads.early (fuel - other) (start other (answers_in m.log)) [] (omega (arith, few, below)) (sound.shows_start first (fuel - other) other (answers_in m.log) none (omega (arith, few, below, is))) (sym (append-nil (answers_in m.log))) in
      let there : events_of (run_of (o (start other (answers_in m.log)))).log ≡ (m.log ++ e ∷ []) ++ begun.0 = subst (λ rows. events_of (run_of (o (start other rows))).log ≡ (m.log ++ e ∷ []) ++ begun.0) same begun.1 in
      let long : length (events_of early.last.log) ≡ length m.log + 1 + length begun.0 =
      ap length (sym (ap (λ out. events_of (run_of out).log) early.spent) ∙ there) ∙ length-append (m.log ++ e ∷ []) begun.0 ∙ ap (λ n. n + length begun.0) (length-append m.log (e ∷ [])) in
      let short : length m.log ≡ length (events_of early.last.log) + length early.more = ap length early.is ∙ length-append (events_of early.last.log) early.more in
      omega (arith, long, short)

  least_here : (back : Loc) (site : ℕ) (args : List Value) → next ≡ now.Write back site args → IsLeastFuel o (m.log ++ write_event site args ∷ []) (fuel - m.fuel)
  least_here back site args e = record {
    enough = begun_at_last p first m o fuel none is law next old told s back site args e;
    least = λ other begun. by_order other begun (either (fuel - m.fuel) other);
  }
    where
      by_order : (other : ℕ) → HasBegun o other (m.log ++ write_event site args ∷ []) → (fuel - m.fuel ≤ other) ⊎ (other < fuel - m.fuel) → fuel - m.fuel ≤ other
      by_order other begun (inl few) = few
      by_order other begun (inr many) = absurd (too_little other (write_event site args) many (answers_written m.log site args) begun)

  refused_reading : (e : SourceEnd) (back : Loc) (site : ℕ) (args : List Value) → next ≡ now.Read back site args → IsRefusedAt o fuel (run_to fuel m e) (Reading site args)
  refused_reading e back site args is_read =
      run_here e (Stops (Waiting site args))
      (here.3
      ∙ ap (λ n. wound p m.stack (outcome p n here.0)) is_read
      ∙ ap (λ answers. wound p m.stack (and_then (reading site args answers here.0) (returned back))) here.2
      ∙ winding.wound-stops (source p) (map frame_of m.stack) (Waiting site args) here.0)

  refused_writing : (e : SourceEnd) (back : Loc) (site : ℕ) (args : List Value) → next ≡ now.Write back site args → IsRefusedAt o fuel (run_to fuel m e) (Writing site args)
  refused_writing e back site args is_write = (omega arith, least_here back site args is_write)

  pub ends_read : (back : Loc) (site : ℕ) (args : List Value) → next ≡ now.Read back site args → Ends p o fuel old told m end.StoreFault
  ends_read back site args e = ends_with end.StoreFault (Reading site args, refused_reading end.StoreFault back site args e) tt

  pub ends_write : (back : Loc) (site : ℕ) (args : List Value) → next ≡ now.Write back site args → Ends p o fuel old told m end.StoreFault
  ends_write back site args e = ends_with end.StoreFault (Writing site args, refused_writing end.StoreFault back site args e) tt

  pub ends_full : (back : Loc) (site : ℕ) (args : List Value) (size : ℕ) → next ≡ now.Write back site args → IsOverfull p site args told size → Ends p o fuel old told m (end.TableFull size)
  ends_full back site args size e full = ends_with (end.TableFull size) (site, args, refused_writing (end.TableFull size) back site args e, full) tt

-- the same end at the same tables
pub ends_as : (p : Program) (o : Run → Out Value) (fuel : ℕ) (old told present : Option Tables) (m : Machine) (e other : SourceEnd) → present ≡ told → other ≡ e → Ends p o fuel old told m e → Ends p o fuel old present m other
ends_as p o fuel old told present m e other same is h = subst (λ t. Ends p o fuel old t m other) (sym same) (subst (Ends p o fuel old told m) (sym is) h)

-- ---- what holds anyway

-- also of an error
pub if_err : {T E : Type 0} (H : Type 0) (result : Result T E) → H → IfErr result (λ error. H)
if_err H (Ok x) h = tt
if_err H (Err e) h = h

-- ---- the names of a session

some_if : {A : Type 0} (b : Bool) (a x : A) → (if b then Some a else None) ≡ Some x → x ≡ a
some_if true a x is = sym (ap (λ o. unwrap_or o a) is)
some_if false a x is = sym (ap (λ o. unwrap_or o a) is)

-- what is bound where as many values come as there are parameters
pub scope_is : (names : Names) (params : List Word) (args : List Value) (scope : Names) → bind_all names params args ≡ Some scope → scope ≡ bind_each names (map (λ x. x.text) params) args
scope_is names params args scope is = some_if (length params == length args) _ scope is
