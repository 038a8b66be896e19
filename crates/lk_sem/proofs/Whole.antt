-- The evaluator from its beginning: what each of its moves leads to.
use Rattle.std.proofs.Common.{◌≡◌, ℕ, zero, suc, ◌+◌, ◌<◌, ◌≤◌, ◌⊎◌, inl, inr, List, [], ◌∷◌, ◌++◌, length, length-append, refl, sym, ◌∙◌, ap, subst, arith, append_assoc, append-nil}
use Rattle.std.proofs.lemmas.List.{map-append}
use Rattle.lk_ast.specs.Rows.{rows_value}
use Rattle.lk_ast.specs.declared.declaration.Program.{Program}
use Rattle.lk_ast.specs.declared.event.Event.{Event}
use Rattle.lk_ast.specs.declared.event.Event.TheVariants as event
use Rattle.lk_ast.specs.declared.expression.Expr.{Expr}
use Rattle.lk_ast.specs.declared.place.Loc.{Loc}
use Rattle.lk_ast.specs.declared.table.Row.{Row}
use Rattle.lk_ast.specs.declared.value.Value.{Value}
use Rattle.std.specs.Borrow.{Bor}
use Rattle.lk_locals.specs.Names.{Names}
use Rattle.lk_evaluation.specs.Evaluation.{eval, reading}
use Rattle.lk_evaluation.specs.Run.{Run, Out, Goes, Within, and_then, answers_in, events_of, logs}
use Rattle.lk_evaluation.specs.Source.{source, under}
use Rattle.lk_operators.specs.Values.{unit}
use Rattle.lk_sound.specs.Histories.{GoesQuietly, IsQuiet, read_event, write_event}
use Rattle.lk_types.specs.Each.{Each}
use Rattle.lk_sem.specs.Frames.{returned}
use Rattle.lk_sem.specs.Machine.{EndsEarly, Falls, Leads, LeadsWhole, Shows, after_read, after_write, frame_rest, outcome, weight, wound}
use Rattle.lk_sem.specs.declared.machine.Frame.{Frame}
use Rattle.lk_sem.specs.declared.machine.Machine.{Machine}
use Rattle.lk_sem.specs.declared.machine.Next.{Next}
use Rattle.lk_sem.specs.declared.machine.Next.TheVariants as now
use Rattle.lk_sem.proofs.Leading.{wound-push}

-- ---- the answers in a log

pub answers_both : (front back : List Event) → answers_in (front ++ back) ≡ answers_in front ++ answers_in back
answers_both [] back = refl
answers_both (event.Read e ∷ front) back = ap (λ l. e.answer ∷ l) (answers_both front back)
answers_both (event.Print bytes ∷ front) back = answers_both front back
answers_both (event.Enter ∷ front) back = answers_both front back
answers_both (event.Leave ∷ front) back = answers_both front back
answers_both (event.Write e ∷ front) back = answers_both front back

none_quiet : (more : List Event) → Each IsQuiet more → answers_in more ≡ []
none_quiet [] calm = refl
none_quiet (event.Print bytes ∷ more) calm = none_quiet more calm.1
none_quiet (event.Enter ∷ more) calm = none_quiet more calm.1
none_quiet (event.Leave ∷ more) calm = none_quiet more calm.1
none_quiet (event.Read e ∷ more) calm = absurd calm.0
none_quiet (event.Write e ∷ more) calm = absurd calm.0

answers_quiet : (before after : List Event) → GoesQuietly before after → answers_in after ≡ answers_in before
answers_quiet before after q = ap answers_in q.log ∙ answers_both before q.more ∙ ap (λ l. answers_in before ++ l) (none_quiet q.more q.quiet) ∙ append-nil (answers_in before)

-- ---- less fuel

-- at most so many, or more
pub either : (n m : ℕ) → (n ≤ m) ⊎ (m < n)
either zero m = inl (omega arith)
either (suc n) zero = inr (omega arith)
either (suc n) (suc m) = one_more (either n m)
  where
    one_more : (n ≤ m) ⊎ (m < n) → (suc n ≤ suc m) ⊎ (suc m < suc n)
    one_more (inl few) = inl (omega (arith, few))
    one_more (inr many) = inr (omega (arith, many))

-- first events of a log are first events of a longer one
longer : (log more after : List Event) (out : Out Value) → after ≡ log ++ more → EndsEarly log out → EndsEarly after out
longer log more after out is e = record { last = e.last; spent = e.spent; more = e.more ++ more; is = is ∙ ap (λ l. l ++ more) e.is ∙ append_assoc (events_of e.last.log) e.more more }

-- ---- moves

module _ (p : Program) (first : Machine) (o : Run → Out Value) where
  -- What comes next is done by a machine with the same fuel, over what is left of the answers, and that machine makes a move.
  module _ (old mid new : Machine) (last next : Next) (rest : Run → Out Value) (g : LeadsWhole p first o old last) (l : Leads p mid rest new next) (same : mid.fuel ≡ old.fuel)
      (before : List (List Row) → List (List Row)) (read : (later : List (List Row)) → answers_in new.log ++ later ≡ answers_in old.log ++ before later)
      (grown : (more : List Event) × (new.log ≡ old.log ++ more))
      (through : (less : ℕ) (later : List (List Row)) (s : Run) → Shows old less s → s.answers ≡ before later
      → (t : Run) × Shows mid less t × (t.answers ≡ later) × (wound p old.stack (outcome p last s) ≡ wound p mid.stack (rest t))) where
    by_fuel : (less : ℕ) (r : Run) (later : List (List Row)) → new.fuel < less → Shows first less r → r.answers ≡ answers_in new.log ++ later → (less ≤ old.fuel) ⊎ (old.fuel < less) → EndsEarly new.log (o r)
    by_fuel less r later much h is (inl few) =
        let a = g.runs less r (before later) few h (is ∙ read later) in
        let b = through less later a.0 a.1 a.2 in
        subst (EndsEarly new.log) (sym (a.3 ∙ b.3)) (l.early less b.0 much b.1)
    by_fuel less r later much h is (inr many) = longer old.log grown.0 new.log (o r) grown.1 (g.early less r (before later) many h (is ∙ read later))

    goes_through : LeadsWhole p first o new next
    goes_through = record {
      runs = λ less r later few h is.
          let below = l.fuel in
          let a = g.runs less r (before later) (omega (arith, few, below, same)) h (is ∙ read later) in
          let b = through less later a.0 a.1 a.2 in
          let c = l.runs less b.0 few b.1 in
          (c.0, c.1, c.2 ∙ b.2, a.3 ∙ b.3 ∙ c.3);
      early = λ less r later much h is. by_fuel less r later much h is (either less old.fuel);
      fuel = let one = g.fuel in let two = l.fuel in omega (arith, one, two, same);
    }

  -- a move from what comes next, which reads nothing
  moves : (old new : Machine) (last next : Next) → LeadsWhole p first o old last → Leads p old (outcome p last) new next → LeadsWhole p first o new next
  moves old new last next g l =
      goes_through old old new last next (outcome p last) g l refl (λ later. later)
      (λ later. ap (λ xs. xs ++ later) (answers_quiet old.log new.log l.quiet)) (l.quiet.more, l.quiet.log) (λ less later s h is. (s, h, is, refl))

  -- a node was entered
  pub goes_enter : (old new : Machine) (last next : Next) (e : Bor Expr) (scope : Names) (place : Loc) → last ≡ now.Enter e scope place → LeadsWhole p first o old last → Leads p old (eval (source p) (under scope e.now) place) new next → LeadsWhole p first o new next
  goes_enter old new last next e scope place is g l = moves old new (now.Enter e scope place) next (subst (LeadsWhole p first o old) is g) l

  -- the last frame took the value
  pub goes_give : (old new : Machine) (last next : Next) (f : Frame) (v : Value) (stack : List Frame) → last ≡ now.Give v → old.stack ≡ stack ++ f ∷ [] → LeadsWhole p first o old last
      → Leads p (record { stack = stack; log = old.log; fuel = old.fuel }) (frame_rest p f v) new next → LeadsWhole p first o new next
  goes_give old new last next f v stack is popped g l =
      goes_through old (record { stack = stack; log = old.log; fuel = old.fuel }) new last next (frame_rest p f v) g l refl (λ later. later)
      (λ later. ap (λ xs. xs ++ later) (answers_quiet old.log new.log l.quiet)) (l.quiet.more, l.quiet.log)
      (λ less later s h same. (
        s,
        record { fuel = h.fuel; log = h.log; whole = h.whole },
        same,
        ap (λ n. wound p old.stack (outcome p n s)) is ∙ ap (λ fs. wound p fs (Goes v s)) popped ∙ wound-push p stack f (Goes v s),
      ))

  -- tables were read
  pub goes_read : (old new : Machine) (last next : Next) (back : Loc) (site : ℕ) (args : List Value) (rows : List Row) → last ≡ now.Read back site args → LeadsWhole p first o old last
      → Leads p (after_read site args rows old) (returned back (rows_value rows)) new next → LeadsWhole p first o new next
  goes_read old new last next back site args rows is g l =
      goes_through old (after_read site args rows old) new last next (returned back (rows_value rows)) g l refl (λ later. rows ∷ later)
      (λ later.
      ap (λ xs. xs ++ later) (answers_quiet (old.log ++ read_event site args rows ∷ []) new.log l.quiet ∙ answers_both old.log (read_event site args rows ∷ [])) ∙ append_assoc (answers_in old.log) (rows ∷ []) later)
      (read_event site args rows ∷ l.quiet.more, l.quiet.log ∙ append_assoc old.log (read_event site args rows ∷ []) l.quiet.more)
      (λ less later s h same. (
        logs (read_event site args rows) Within (record s { answers = later }),
        record {
          fuel = h.fuel;
          log = map-append (λ x. x.event) s.log (record { number = s.steps; event = read_event site args rows; crossing = Within } ∷ []) ∙ ap (λ xs. xs ++ read_event site args rows ∷ []) h.log;
          whole = h.whole;
        },
        refl,
        ap (λ n. wound p old.stack (outcome p n s)) is ∙ ap (λ answers. wound p old.stack (and_then (reading site args answers s) (returned back))) same,
      ))

  -- a table was written
  pub goes_write : (old new : Machine) (last next : Next) (back : Loc) (site : ℕ) (args : List Value) → last ≡ now.Write back site args → LeadsWhole p first o old last
      → Leads p (after_write site args old) (returned back unit) new next → LeadsWhole p first o new next
  goes_write old new last next back site args is g l =
      goes_through old (after_write site args old) new last next (returned back unit) g l refl (λ later. later)
      (λ later.
      ap (λ xs. xs ++ later) (answers_quiet (old.log ++ write_event site args ∷ []) new.log l.quiet ∙ answers_both old.log (write_event site args ∷ []) ∙ append-nil (answers_in old.log)))
      (write_event site args ∷ l.quiet.more, l.quiet.log ∙ append_assoc old.log (write_event site args ∷ []) l.quiet.more)
      (λ less later s h same. (
        logs (write_event site args) Within s,
        record {
          fuel = h.fuel;
          log = map-append (λ x. x.event) s.log (record { number = s.steps; event = write_event site args; crossing = Within } ∷ []) ∙ ap (λ xs. xs ++ write_event site args ∷ []) h.log;
          whole = h.whole;
        },
        same,
        ap (λ n. wound p old.stack (outcome p n s)) is,
      ))

-- a frame that takes a value is less to go on with
pub give_smaller : (old new : Machine) (last next : Next) (f : Frame) (v : Value) (stack : List Frame) → last ≡ now.Give v → old.stack ≡ stack ++ f ∷ [] → Falls (record { stack = stack; log = old.log; fuel = old.fuel }) new next → weight new next < weight old last
give_smaller old new last next f v stack is popped falls =
    let long : length old.stack ≡ length stack + 1 = ap length popped ∙ length-append stack (f ∷ []) in
    subst (λ n. weight new next < weight old n) (sym is) (omega (arith, falls, long))
