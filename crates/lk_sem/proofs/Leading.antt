-- Each method of the evaluator leads from one machine to another with the same still to do.
use Rattle.std.proofs.Common.{◌≡◌, ◌≢◌, ℕ, zero, suc, ◌+◌, ◌-◌, ◌<◌, List, [], ◌∷◌, ◌++◌, length, refl, sym, ◌∙◌, ap, subst, arith, append_assoc, append-nil}
use Rattle.std.specs.Prelude.{Bool, true, false, Option, Some, None, map, reverse, slice_get}
use Rattle.std.specs.Borrow.{Bor}
use Rattle.std.specs.Option.{option_map}
use Rattle.std.proofs.lemmas.List.{map-append, reverse-append}
use Rattle.std.proofs.lemmas.Option.{slice_get-map}
use Rattle.lk_ast.specs.Layers.{layer}
use Rattle.lk_ast.specs.declared.declaration.Program.{Program}
use Rattle.lk_ast.specs.declared.event.Event.{Event}
use Rattle.lk_ast.specs.declared.event.Event.TheVariants.{Print, Enter, Leave}
use Rattle.lk_ast.specs.declared.expression.Expr.{Expr}
use Rattle.lk_ast.specs.declared.place.Loc.{Loc}
use Rattle.lk_ast.specs.declared.place.Loc.TheVariants.{Client, Server, Any}
use Rattle.lk_ast.specs.declared.value.FunValue.{FunValue}
use Rattle.lk_ast.specs.declared.value.Value.{Value}
use Rattle.lk_locals.specs.Names.{Names, bind}
use Rattle.lk_evaluation.specs.Evaluation as spec
use Rattle.lk_evaluation.specs.Evaluation.{eval, handed, perform, joined, each, client_call, used}
use Rattle.lk_sound.specs.Histories.{GoesQuietly, IsQuiet}
use Rattle.lk_sem.specs.Frames as frames
use Rattle.lk_sem.specs.Frames.{resumed, returned, handed_by}
use Rattle.lk_sem.specs.Machine.{bodies, frame_of, frame_rest, wound, outcome, Shows, EndsEarly, Leads}
use Rattle.lk_evaluation.specs.Run.{Run, Out, Goes, Stops, Spent, Crossing, Within, Called, Returned, Function, Printer, Site, step, logs, and_then}
use Rattle.lk_evaluation.specs.Source.{Point, under, source, act}
use Rattle.lk_evaluation.specs.Syntax.{parts_of, is_plain}
use Rattle.lk_operators.specs.Values.{text, unit, list_in}
use Rattle.lk_types.specs.Each.{Each}
use Rattle.lk_sem.specs.declared.machine.Frame.{Frame}
use Rattle.lk_sem.specs.declared.machine.Frame.TheVariants.{Part, Turn, Back}
use Rattle.lk_sem.specs.declared.machine.Machine.{Machine}
use Rattle.lk_sem.specs.declared.machine.Next.{Next}
use Rattle.lk_sem.specs.declared.machine.Next.TheVariants as now
use Rattle.lk_sem.specs.declared.machine.Turns.{Turns}
use Rattle.lk_sem.specs.declared.machine.Waiting.{Waiting}
use Rattle.lk_sem.specs.declared.run.Halt.TheVariants as halt
use Rattle.lk_evaluation.proofs.Fixpoint.{spends}
use Rattle.lk_sem.proofs.Winding as winding

-- ---- frames and parts of the source

-- the last frame gets the outcome first
pub wound-push : (p : Program) (fs : List Frame) (f : Frame) (o : Out Value) → wound p (fs ++ f ∷ []) o ≡ wound p fs (and_then o (frame_rest p f))
wound-push p fs f o =
    ap (λ (gs : List (frames.Frame Point)). frames.wound (source p) gs o) (map-append frame_of fs (f ∷ [])) ∙ winding.wound-push (source p) (map frame_of fs) (frame_of f) o

-- a part of a node under the node's names
part_of : (p : Program) (names : Names) (e x : Expr) (n : ℕ) → slice_get (parts_of (layer e)) n ≡ Some x → slice_get ((source p).parts (under names e)) n ≡ Some (under names x)
part_of p names e x n is = slice_get-map (under names) (parts_of (layer e)) n ∙ ap (option_map (under names)) is

no_part : (p : Program) (names : Names) (e : Expr) (n : ℕ) → slice_get (parts_of (layer e)) n ≡ None → slice_get ((source p).parts (under names e)) n ≡ None
no_part p names e n is = slice_get-map (under names) (parts_of (layer e)) n ∙ ap (option_map (under names)) is

-- ---- what a machine shows

shows_step : (m : Machine) {less : ℕ} (r : Run) → Shows m less r → Shows m less (step r)
shows_step m r h = record { fuel = h.fuel; log = h.log; whole = h.whole }

shows_logs : (m : Machine) {less : ℕ} (r : Run) (e : Event) (c : Crossing) (log : List Event) → Shows m less r → log ≡ m.log ++ e ∷ [] → Shows (record { stack = m.stack; log = log; fuel = m.fuel }) less (logs e c r)
shows_logs m r e c log h is =
    record { fuel = h.fuel; log = map-append (λ x. x.event) r.log (record { number = r.steps; event = e; crossing = c } ∷ []) ∙ ap (λ l. l ++ e ∷ []) h.log ∙ sym is; whole = h.whole }

shows_handed : (m : Machine) {less : ℕ} (plain : Bool) (r : Run) → Shows m less r → Shows m less (handed plain r)
shows_handed m true r h = h
shows_handed m false r h = shows_step m r h

shows_handed_by : (p : Program) (m : Machine) {less : ℕ} (o : Option Point) (r : Run) → Shows m less r → Shows m less (handed_by (source p) o r)
shows_handed_by p m None r h = h
shows_handed_by p m (Some e) r h = shows_handed m ((source p).plain e) r h

-- a run that shows the machine has no less than nothing
pub too_early : (m : Machine) (less : ℕ) (r : Run) (log : List Event) (out : Out Value) → m.fuel < less → Shows m less r → EndsEarly log out
too_early m less r log out much h = let same = h.fuel in absurd (omega (arith, same, much))

-- a value that is handed on leaves the answers
same_handed : (plain : Bool) (r : Run) → (handed plain r).answers ≡ r.answers
same_handed true r = refl
same_handed false r = refl

same_handed_by : (p : Program) (o : Option Point) (r : Run) → (handed_by (source p) o r).answers ≡ r.answers
same_handed_by p None r = refl
same_handed_by p (Some e) r = same_handed ((source p).plain e) r

-- ---- logs without events of tables

pub quiet_itself : (log : List Event) → GoesQuietly log log
quiet_itself log = record { more = []; log = sym (append-nil log); quiet = tt }

quiet_event : (log after : List Event) (e : Event) → IsQuiet e → after ≡ log ++ e ∷ [] → GoesQuietly log after
quiet_event log after e calm is = record { more = e ∷ []; log = is; quiet = (calm, tt) }

each_both : (xs ys : List Event) → Each IsQuiet xs → Each IsQuiet ys → Each IsQuiet (xs ++ ys)
each_both [] ys a b = b
each_both (x ∷ xs) ys a b = (a.0, each_both xs ys a.1 b)

quiet_then : (one two three : List Event) → GoesQuietly one two → GoesQuietly two three → GoesQuietly one three
quiet_then one two three a b = record { more = a.more ++ b.more; log = b.log ∙ ap (λ l. l ++ b.more) a.log ∙ append_assoc one a.more b.more; quiet = each_both a.more b.more a.quiet b.quiet }

-- ---- one method each

-- another way to say what is to do
pub leads_as : (p : Program) (old new : Machine) (next : Next) (o j : Run → Out Value) → ((less : ℕ) (r : Run) → Shows old less r → j r ≡ o r) → Leads p old o new next → Leads p old j new next
leads_as p old new next o j same l = record {
  runs = λ less r few h. let a = l.runs less r few h in (a.0, a.1, a.2, ap (wound p old.stack) (same less r h) ∙ a.3);
  early = λ less r much h. subst (EndsEarly new.log) (ap (wound p old.stack) (sym (same less r h))) (l.early less r much h);
  quiet = l.quiet;
  fuel = l.fuel;
}

-- what comes before changes neither fuel nor log
leads_after : (p : Program) (old new : Machine) (next : Next) (o j : Run → Out Value) (f : Run → Run) → ((less : ℕ) (r : Run) → Shows old less r → Shows old less (f r)) → ((r : Run) → (f r).answers ≡ r.answers) → ((r : Run) → j r ≡ o (f r)) → Leads p old o new next → Leads p old j new next
leads_after p old new next o j f keeps same is l = record {
  runs = λ less r few h. let a = l.runs less (f r) few (keeps less r h) in (a.0, a.1, a.2 ∙ same r, ap (wound p old.stack) (is r) ∙ a.3);
  early = λ less r much h. subst (EndsEarly new.log) (ap (wound p old.stack) (sym (is r))) (l.early less (f r) much (keeps less r h));
  quiet = l.quiet;
  fuel = l.fuel;
}

-- there is no fuel
pub leads_spent : (p : Program) (m : Machine) (e : Point) (place : Loc) → m.fuel ≡ 0 → Leads p m (eval (source p) e place) m (now.Stop halt.Spent)
leads_spent p m e place none = record {
  runs = λ less r few h. let same = h.fuel in (r, h, refl, ap (wound p m.stack) (spends (source p) e place r (omega (arith, same, none))));
  early = λ less r much h. too_early m less r _ _ much h;
  quiet = quiet_itself m.log;
  fuel = omega arith;
}

-- a node is entered
pub leads_enter : (p : Program) (old new : Machine) (next : Next) (e : Point) (place : Loc) (done : List Value) → old.fuel ≢ 0 → done ≡ []
    → Leads p (record { stack = old.stack; log = old.log; fuel = old.fuel - 1 }) (resumed (source p) e done place) new next → Leads p old (eval (source p) e place) new next
leads_enter p old new next e place done some none l = record {
  runs = λ less r few h.
      let same = h.fuel in
      let below = l.fuel in
      let is : r.fuel ≡ suc (r.fuel - 1) = omega (arith, same, few, below, some) in
      let s : Run = record r { fuel = r.fuel - 1; steps = r.steps + 1 } in
      let a = l.runs less s few (record { fuel = omega (arith, same, few, below, some); log = h.log; whole = h.whole }) in
      (a.0, a.1, a.2, ap (wound p old.stack) (entered r (r.fuel - 1) is) ∙ a.3);
  early = λ less r much h. by_fuel less r much h r.fuel refl;
  quiet = l.quiet;
  fuel = let below = l.fuel in omega (arith, below);
}
  where
    -- the node is entered where there is fuel
    entered : (r : Run) (n : ℕ) → r.fuel ≡ suc n → eval (source p) e place r ≡ resumed (source p) e done place (record r { fuel = n; steps = r.steps + 1 })
    entered r n is = winding.enters (source p) e place r n is ∙ ap (λ d. resumed (source p) e d place (record r { fuel = n; steps = r.steps + 1 })) (sym none)

    by_fuel : (less : ℕ) (r : Run) → new.fuel < less → Shows old less r → (n : ℕ) → r.fuel ≡ n → EndsEarly new.log (wound p old.stack (eval (source p) e place r))
    by_fuel less r much h zero is = record {
      last = r;
      spent = ap (wound p old.stack) (spends (source p) e place r is) ∙ winding.wound-stops (source p) (map frame_of old.stack) Spent r;
      more = l.quiet.more;
      is = l.quiet.log ∙ ap (λ log. log ++ l.quiet.more) (sym h.log);
    }
    by_fuel less r much h (suc n) is =
        let same = h.fuel in
        let s : Run = record r { fuel = n; steps = r.steps + 1 } in
        subst (EndsEarly new.log) (ap (wound p old.stack) (sym (entered r n is))) (l.early less s much (record { fuel = omega (arith, same, is, some); log = h.log; whole = h.whole }))

-- all parts have their values
pub leads_act : (p : Program) (old new : Machine) (next : Next) (names : Names) (e : Expr) (place : Loc) (done : List Value) → slice_get (parts_of (layer e)) (length done) ≡ None
    → Leads p old (perform (source p) (eval (source p)) place (act p e.span (layer e) names done)) new next → Leads p old (resumed (source p) (under names e) done place) new next
leads_act p old new next names e place done past l =
    leads_as p old new next _ _ (λ less r h. winding.acts (source p) (under names e) done place r (no_part p names e (length done) past)) l

-- a part is entered, and the node waits
pub leads_wait : (p : Program) (old : Machine) (stack : List Frame) (w : Waiting) (e : Bor Expr) (scope : Names) (o : Option Expr) (n : ℕ)
    → o ≡ slice_get (parts_of (layer w.expr.now)) n → n ≡ length w.done → o ≡ Some e.now → stack ≡ old.stack ++ Part w ∷ [] → scope ≡ w.scope
    → Leads p old (resumed (source p) (under w.scope w.expr.now) w.done w.place) (record { stack = stack; log = old.log; fuel = old.fuel }) (now.Enter e scope w.place)
leads_wait p old stack w e scope o n part len some pushed same = record {
  quiet = quiet_itself old.log;
  fuel = omega arith;
  early = λ less r much h. too_early old less r _ _ much h;
  runs = λ less r few h. (
    r,
    record { fuel = h.fuel; log = h.log; whole = h.whole },
    refl,
    ap (wound p old.stack) (winding.waits (source p) (under names w.expr.now) (under names e.now) w.done w.place r (part_of p names w.expr.now e.now (length w.done) at))
        ∙ sym (wound-push p old.stack (Part w) (eval (source p) (under names e.now) w.place r))
        ∙ ap (λ fs. wound p fs (eval (source p) (under names e.now) w.place r)) (sym pushed)
        ∙ ap (λ bs. wound p stack (eval (source p) (under bs e.now) w.place r)) (sym same),
  );
}
  where
    names : Names
    names = w.scope

    at : slice_get (parts_of (layer w.expr.now)) (length w.done) ≡ Some e.now
    at = ap (slice_get (parts_of (layer w.expr.now))) (sym len) ∙ sym part ∙ some

-- a call of a server function at the client
pub leads_across : (p : Program) (old : Machine) (stack : List Frame) (log : List Event) (place mark : Loc) (f : FunValue) (args : List Value) (body : Bor Expr) (scope : Names)
    → place ≡ Client → mark ≡ Server → log ≡ old.log ++ Enter ∷ [] → stack ≡ old.stack ++ Back place ∷ []
    → Leads p old (perform (source p) (eval (source p)) place (spec.Goto mark f args (under scope body.now))) (record { stack = stack; log = log; fuel = old.fuel }) (now.Enter body scope mark)
leads_across p old stack log place mark f args body scope here there logged pushed = record {
  quiet = quiet_event old.log log Enter tt logged;
  fuel = omega arith;
  early = λ less r much h. too_early old less r _ _ much h;
  runs = λ less r few h.
      let s : Run = logs Enter (Called (Function f) args) (step r) in
      let shown = shows_logs old (step r) Enter (Called (Function f) args) log (shows_step old r h) logged in
      let e : Point = under scope body.now in
      let o : Out Value = eval (source p) e Server s in (
        s,
        record { fuel = shown.fuel; log = shown.log; whole = shown.whole },
        refl,
        ap (λ l. wound p old.stack (perform (source p) (eval (source p)) l (spec.Goto mark f args e) r)) here
            ∙ ap (λ l. wound p old.stack (perform (source p) (eval (source p)) Client (spec.Goto l f args e) r)) there
            ∙ sym (wound-push p old.stack (Back Client) o)
            ∙ ap (λ l. wound p (old.stack ++ Back l ∷ []) o) (sym here)
            ∙ ap (λ fs. wound p fs o) (sym pushed)
            ∙ ap (λ l. wound p stack (eval (source p) e l s)) (sym there),
      );
}

-- a call of a client function at the server
pub leads_home : (p : Program) (old : Machine) (stack : List Frame) (log : List Event) (place mark : Loc) (f : FunValue) (args : List Value) (body : Bor Expr) (scope : Names)
    → place ≡ Server → mark ≡ Client → log ≡ old.log ++ Leave ∷ [] → stack ≡ old.stack ++ Back place ∷ []
    → Leads p old (perform (source p) (eval (source p)) place (spec.Goto mark f args (under scope body.now))) (record { stack = stack; log = log; fuel = old.fuel }) (now.Enter body scope mark)
leads_home p old stack log place mark f args body scope here there logged pushed = record {
  quiet = quiet_event old.log log Leave tt logged;
  fuel = omega arith;
  early = λ less r much h. too_early old less r _ _ much h;
  runs = λ less r few h.
      let s : Run = logs Leave (Called (Function f) args) (step r) in
      let shown = shows_logs old (step r) Leave (Called (Function f) args) log (shows_step old r h) logged in
      let e : Point = under scope body.now in
      let o : Out Value = eval (source p) e Client s in (
        s,
        record { fuel = shown.fuel; log = shown.log; whole = shown.whole },
        refl,
        ap (λ l. wound p old.stack (perform (source p) (eval (source p)) l (spec.Goto mark f args e) r)) here
            ∙ ap (λ l. wound p old.stack (perform (source p) (eval (source p)) Server (spec.Goto l f args e) r)) there
            ∙ ap (λ q. wound p old.stack (client_call q (Function f) args (λ t. eval (source p) e Client t) s)) h.whole
            ∙ sym (wound-push p old.stack (Back Server) o)
            ∙ ap (λ l. wound p (old.stack ++ Back l ∷ []) o) (sym here)
            ∙ ap (λ fs. wound p fs o) (sym pushed)
            ∙ ap (λ l. wound p stack (eval (source p) e l s)) (sym there),
      );
}

-- one event with the return of a value
pub leads_back : (p : Program) (old : Machine) (log : List Event) (place : Loc) (e : Event) (v : Value) → IsQuiet e → ((r : Run) → returned place v r ≡ Goes v (logs e (Returned v) (step r))) → log ≡ old.log ++ e ∷ []
    → Leads p old (returned place v) (record { stack = old.stack; log = log; fuel = old.fuel }) (now.Give v)
leads_back p old log place e v calm is logged = record {
  runs = λ less r few h. (logs e (Returned v) (step r), shows_logs old (step r) e (Returned v) log (shows_step old r h) logged, refl, ap (wound p old.stack) (is r));
  early = λ less r much h. too_early old less r _ _ much h;
  quiet = quiet_event old.log log e calm logged;
  fuel = omega arith;
}

-- a node that waited goes on
pub leads_given : (p : Program) (old new : Machine) (next : Next) (w : Waiting) (done : List Value) (v : Value) → done ≡ w.done ++ v ∷ []
    → Leads p old (resumed (source p) (under w.scope w.expr.now) done w.place) new next → Leads p old (frame_rest p (Part w) v) new next
leads_given p old new next w done v is l =
    let e : Point = under w.scope w.expr.now in
    let q : Option Point = slice_get ((source p).parts e) (length w.done) in
    leads_after p old new next (resumed (source p) e done w.place) _ (handed_by (source p) q) (λ less r h. shows_handed_by p old q r h) (λ r. same_handed_by p q r)
    (λ r. ap (λ d. resumed (source p) e d w.place (handed_by (source p) q r)) (sym is)) l

-- the body of a `for` is entered for its next element
pub leads_turn : (p : Program) (old : Machine) (stack : List Frame) (t : Turns) (v : Value) (left : List Value) (scope : Names)
    → left ≡ t.left ++ v ∷ [] → scope ≡ bind t.name.now v t.scope → stack ≡ old.stack ++ Turn t ∷ []
    → Leads p old (each (source p) (eval (source p)) t.at (bodies (record t { left = left })) t.place t.made) (record { stack = stack; log = old.log; fuel = old.fuel }) (now.Enter t.body scope t.place)
leads_turn p old stack t v left scope last bound pushed = record {
  quiet = quiet_itself old.log;
  fuel = omega arith;
  early = λ less r much h. too_early old less r _ _ much h;
  runs = λ less r few h. (
    r,
    record { fuel = h.fuel; log = h.log; whole = h.whole },
    refl,
    ap (wound p old.stack) (ap (λ es. each (source p) (eval (source p)) t.at es t.place t.made r) first ∙ turns r)
        ∙ sym (wound-push p old.stack (Turn t) (eval (source p) (body v) t.place r))
        ∙ ap (λ fs. wound p fs (eval (source p) (body v) t.place r)) (sym pushed)
        ∙ ap (λ ns. wound p stack (eval (source p) (under ns t.body.now) t.place r)) (sym bound),
  );
}
  where
    body : Value → Point
    body u = under (bind t.name.now u t.scope) t.body.now

    first : map body (reverse left) ≡ body v ∷ map body (reverse t.left)
    first = ap (λ vs. map body (reverse vs)) last ∙ ap (map body) (reverse-append t.left (v ∷ []))

    turns : (r : Run) → each (source p) (eval (source p)) t.at (body v ∷ map body (reverse t.left)) t.place t.made r ≡ and_then (eval (source p) (body v) t.place r) (frame_rest p (Turn t))
    turns r = winding.turns (source p) t.at (body v) (map body (reverse t.left)) t.place t.made r

-- its list is put after those made so far
pub leads_taken : (p : Program) (old new : Machine) (next : Next) (t : Turns) (v : Value) (values made : List Value) → Some values ≡ list_in v → made ≡ t.made ++ values
    → Leads p old (each (source p) (eval (source p)) t.at (bodies t) t.place made) new next → Leads p old (frame_rest p (Turn t) v) new next
leads_taken p old new next t v values made is all l =
    let listed : list_in v ≡ Some values = sym is in
    let plain : Bool = is_plain (layer t.body.now) in
    leads_after p old new next (each (source p) (eval (source p)) t.at (bodies t) t.place made) _ (handed plain) (λ less r h. shows_handed old plain r h) (λ r. same_handed plain r)
    (λ r. ap (λ o. joined t.at t.made o (each (source p) (eval (source p)) t.at (bodies t) t.place) (handed plain r)) listed
    ∙ ap (λ a. each (source p) (eval (source p)) t.at (bodies t) t.place a (handed plain r)) (sym all))
    l

-- it has no list
pub leads_no_list : (p : Program) (m : Machine) (t : Turns) (v : Value) → None ≡ list_in v → Leads p m (frame_rest p (Turn t) v) m (now.Stop (halt.Stuck t.at))
leads_no_list p m t v none =
    let plain : Bool = is_plain (layer t.body.now) in
    record {
      quiet = quiet_itself m.log;
      fuel = omega arith;
      early = λ less r much h. too_early m less r _ _ much h;
      runs = λ less r few h. (
        handed plain r,
        shows_handed m plain r h,
        same_handed plain r,
        ap (λ o. wound p m.stack (joined t.at t.made o (each (source p) (eval (source p)) t.at (bodies t) t.place) (handed plain r))) (sym none),
      );
    }

-- a print at the client
pub leads_print : (p : Program) (old : Machine) (log : List Event) (place : Loc) (bytes : List ℕ) (v : Value) → place ≢ Server → log ≡ old.log ++ Print bytes ∷ [] → v ≡ unit
    → Leads p old (perform (source p) (eval (source p)) place (spec.Uses Client (spec.Printing bytes))) (record { stack = old.stack; log = log; fuel = old.fuel }) (now.Give v)
leads_print p old log place bytes v here logged is = record {
  quiet = quiet_event old.log log (Print bytes) tt logged;
  fuel = omega arith;
  early = λ less r much h. too_early old less r _ _ much h;
  runs = λ less r few h. (logs (Print bytes) Within r, shows_logs old r (Print bytes) Within log h logged, refl, ap (wound p old.stack) (go place here r ∙ ap (λ u. Goes u (logs (Print bytes) Within r)) (sym is)));
}
  where
    go : (place : Loc) → place ≢ Server → (r : Run) → perform (source p) (eval (source p)) place (spec.Uses Client (spec.Printing bytes)) r ≡ Goes unit (logs (Print bytes) Within r)
    go Client ne r = refl
    go Any ne r = refl
    go Server ne r = absurd (ne refl)

-- a print at the server, from where control goes to the client and comes back
pub leads_print_across : (p : Program) (old : Machine) (one two three : List Event) (place : Loc) (bytes : List ℕ) (v : Value) → place ≡ Server → one ≡ old.log ++ Leave ∷ [] → two ≡ one ++ Print bytes ∷ [] → three ≡ two ++ Enter ∷ [] → v ≡ unit
    → Leads p old (perform (source p) (eval (source p)) place (spec.Uses Client (spec.Printing bytes))) (record { stack = old.stack; log = three; fuel = old.fuel }) (now.Give v)
leads_print_across p old one two three place bytes v there a b c is = record {
  quiet = quiet_then old.log two three (quiet_then old.log one two (quiet_event old.log one Leave tt a) (quiet_event one two (Print bytes) tt b)) (quiet_event two three Enter tt c);
  fuel = omega arith;
  early = λ less r much h. too_early old less r _ _ much h;
  runs = λ less r few h.
      let called : Crossing = Called Printer (text bytes ∷ []) in
      let r1 : Run = logs Leave called (step r) in
      let r2 : Run = logs (Print bytes) Within r1 in
      let r3 : Run = logs Enter (Returned unit) (step r2) in
      let m1 : Machine = record { stack = old.stack; log = one; fuel = old.fuel } in
      let m2 : Machine = record { stack = old.stack; log = two; fuel = old.fuel } in
      let h1 = shows_logs old (step r) Leave called one (shows_step old r h) a in
      let h2 = shows_logs m1 r1 (Print bytes) Within two h1 b in
      let h3 = shows_logs m2 (step r2) Enter (Returned unit) three (shows_step m2 r2 h2) c in (
        r3,
        record { fuel = h3.fuel; log = h3.log; whole = h3.whole },
        refl,
        ap (λ l. wound p old.stack (perform (source p) (eval (source p)) l (spec.Uses Client (spec.Printing bytes)) r)) there
            ∙ ap (λ q. wound p old.stack (client_call q Printer (text bytes ∷ []) (λ u. used (spec.Printing bytes) u) r1)) h.whole
            ∙ ap (λ u. wound p old.stack (Goes u r3)) (sym is),
      );
}

-- ---- tables

goes_on : {A : Type 0} (o : Out A) → o ≡ and_then o (λ a s. Goes a s)
goes_on (Goes a s) = refl
goes_on (Stops t s) = refl

-- tables are read at the server
pub leads_read : (p : Program) (m : Machine) (place : Loc) (site : ℕ) (args : List Value) → place ≢ Client
    → Leads p m (perform (source p) (eval (source p)) place (spec.Uses Server (spec.Reading site args))) m (now.Read Any site args)
leads_read p m place site args there = record {
  runs = λ less r few h. (r, h, refl, ap (wound p m.stack) (go place there r));
  early = λ less r much h. too_early m less r _ _ much h;
  quiet = quiet_itself m.log;
  fuel = omega arith;
}
  where
    go : (place : Loc) → place ≢ Client → (r : Run) → perform (source p) (eval (source p)) place (spec.Uses Server (spec.Reading site args)) r ≡ outcome p (now.Read Any site args) r
    go Server ne r = goes_on (used (spec.Reading site args) r)
    go Any ne r = goes_on (used (spec.Reading site args) r)
    go Client ne r = absurd (ne refl)

-- a table is written at the server
pub leads_write : (p : Program) (m : Machine) (place : Loc) (site : ℕ) (args : List Value) → place ≢ Client
    → Leads p m (perform (source p) (eval (source p)) place (spec.Uses Server (spec.Writing site args))) m (now.Write Any site args)
leads_write p m place site args there = record {
  runs = λ less r few h. (r, h, refl, ap (wound p m.stack) (go place there r));
  early = λ less r much h. too_early m less r _ _ much h;
  quiet = quiet_itself m.log;
  fuel = omega arith;
}
  where
    go : (place : Loc) → place ≢ Client → (r : Run) → perform (source p) (eval (source p)) place (spec.Uses Server (spec.Writing site args)) r ≡ outcome p (now.Write Any site args) r
    go Server ne r = refl
    go Any ne r = refl
    go Client ne r = absurd (ne refl)

-- tables are read from the client, from where control goes to the server
pub leads_read_across : (p : Program) (old : Machine) (log : List Event) (place : Loc) (site : ℕ) (args : List Value) → place ≡ Client → log ≡ old.log ++ Enter ∷ []
    → Leads p old (perform (source p) (eval (source p)) place (spec.Uses Server (spec.Reading site args))) (record { stack = old.stack; log = log; fuel = old.fuel }) (now.Read Client site args)
leads_read_across p old log place site args here logged = record {
  quiet = quiet_event old.log log Enter tt logged;
  fuel = omega arith;
  early = λ less r much h. too_early old less r _ _ much h;
  runs = λ less r few h.
      let called : Crossing = Called (Site site) args in (
        logs Enter called (step r),
        shows_logs old (step r) Enter called log (shows_step old r h) logged,
        refl,
        ap (λ l. wound p old.stack (perform (source p) (eval (source p)) l (spec.Uses Server (spec.Reading site args)) r)) here,
      );
}

-- a table is written from the client, from where control goes to the server
pub leads_write_across : (p : Program) (old : Machine) (log : List Event) (place : Loc) (site : ℕ) (args : List Value) → place ≡ Client → log ≡ old.log ++ Enter ∷ []
    → Leads p old (perform (source p) (eval (source p)) place (spec.Uses Server (spec.Writing site args))) (record { stack = old.stack; log = log; fuel = old.fuel }) (now.Write Client site args)
leads_write_across p old log place site args here logged = record {
  quiet = quiet_event old.log log Enter tt logged;
  fuel = omega arith;
  early = λ less r much h. too_early old less r _ _ much h;
  runs = λ less r few h.
      let called : Crossing = Called (Site site) args in (
        logs Enter called (step r),
        shows_logs old (step r) Enter called log (shows_step old r h) logged,
        refl,
        ap (λ l. wound p old.stack (perform (source p) (eval (source p)) l (spec.Uses Server (spec.Writing site args)) r)) here,
      );
}
