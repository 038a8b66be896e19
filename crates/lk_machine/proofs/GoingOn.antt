-- What a machine at the client still has to do is later by a step, or has no fuel, unless it waits to go back with the value that it has.
use Rattle.std.proofs.Common.{◌≡◌, refl, sym, ◌∙◌, ap, subst, ℕ, zero, suc, ◌+◌, ◌≤◌, ◌⊎◌, inl, inr, arith, append-nil}
use Rattle.std.specs.Prelude.{Err, IfOk, Ok, Result, Bool, true, false, List, [], ◌∷◌, ◌++◌, Option, Some, None, drop, length, map, nat_lt, reverse, slice_get, take}
use Rattle.std.proofs.lemmas.List.{length-map, length-reverse, nil_from_length}
use Rattle.lk_ast.specs.declared.event.Event.{Event}
use Rattle.lk_ast.specs.declared.event.Event.TheVariants as event
use Rattle.lk_ast.specs.declared.memory.NoMemory.{NoMemory}
use Rattle.lk_ast.specs.declared.place.Loc.{Loc}
use Rattle.lk_ast.specs.declared.place.Loc.TheVariants.{Client, Server}
use Rattle.lk_ast.specs.declared.place.Span.{Span}
use Rattle.lk_ast.specs.declared.value.Value.{Value}
use Rattle.lk_code.proofs.Following.{are_later, rest_reaches, then_reaches}
use Rattle.lk_code.proofs.Resuming.{goes as home_meant}
use Rattle.lk_code.proofs.Waiting.{node_there}
use Rattle.lk_code.specs.Law.{frame}
use Rattle.lk_code.specs.Meaning.{at_home, callee, continues_as, does, goes_on, kept_names, language, nothing, passed, rest}
use Rattle.lk_code.specs.Tables.{cont_at, first_frame, frame_info}
use Rattle.lk_code.specs.TypedLaw.{IsWhole}
use Rattle.lk_code.specs.Values.{IsFun}
use Rattle.lk_code.specs.declared.infos.FrameInfo.{FrameInfo}
use Rattle.lk_code.specs.declared.tables.CodeTables.{CodeTables}
use Rattle.lk_code.specs.declared.tables.Frame.{Frame}
use Rattle.lk_code.specs.declared.tables.Home.{Home}
use Rattle.lk_evaluation.proofs.Fixpoint.{eval_is}
use Rattle.lk_evaluation.specs.Evaluation.{Language, each, eval, node}
use Rattle.lk_evaluation.specs.Laws.{run_of}
use Rattle.lk_evaluation.specs.Run.{Called, Crossing, Goes, Out, Returned, Run, Spent, Stops, and_then, enter_with, logs, step}
use Rattle.lk_ir.specs.Continuing.{conts_at, going, narrowed, parts_in}
use Rattle.lk_ir.specs.Environments.{Env, bind}
use Rattle.lk_ir.specs.LetNormal.{Point, under}
use Rattle.lk_ir.specs.Tables.{form_at}
use Rattle.lk_ir.specs.declared.nodes.Cont.{Cont}
use Rattle.lk_ir.specs.declared.nodes.Form.{Form}
use Rattle.lk_moves.proofs.Framed.{turns, waits}
use Rattle.lk_fits.specs.Values.{FitEach}
use Rattle.lk_moves.proofs.Rising.{entered, later_law, reaches_on, resumed_later, turned_later}
use Rattle.lk_moves.specs.Frames.{Frame as Waiting, Back, Part, Turn, continued, resumed}
use Rattle.lk_moves.specs.Later.{Later, Reaches}
use Rattle.lk_operators.specs.Values.{list_in}
use Rattle.lk_types.specs.declared.ground.Ground.{Ground}
use Rattle.lk_machine.proofs.Popping.{homed_of, part_steps, popped_of, round_of, turn_steps}
use Rattle.lk_machine.specs.Going.{bodies, crossing, doing, forward, here, waiting}
use Rattle.lk_machine.specs.Moves.{unstepped}
use Rattle.lk_machine.specs.Stepped.{GoesOn, IsReturning}
use Rattle.lk_machine.specs.Typed.{AreFrames, IsNow, IsUnderWay, Leaves, MaySteps}
use Rattle.lk_machine.specs.declared.state.Held.{Held}
use Rattle.lk_machine.specs.declared.state.Next.{Next}
use Rattle.lk_machine.specs.declared.state.Next.TheVariants as next
use Rattle.lk_machine.specs.declared.state.Now.{Now}
use Rattle.lk_machine.specs.declared.state.Now.TheVariants as now
use Rattle.lk_machine.specs.declared.state.State.{State}
use Rattle.lk_machine.specs.declared.state.Turns.{Turns}

-- later by a step, or without fuel
abbrev Goes_later : Run → Out Value → Type 0
Goes_later r out = Later (r.steps + 1) r out ⊎ (out ≡ Stops Spent r)

-- ---- an evaluation first

module _ (l : Language) where
  evaluated : (p : l.Point) (place : Loc) (r : Run) → Goes_later r (eval l p place r)
  evaluated p place r = by_fuel r.fuel refl
    where
      by_fuel : (fuel : ℕ) → r.fuel ≡ fuel → Goes_later r (eval l p place r)
      by_fuel zero is = inr (eval_is l p place r ∙ ap (λ m. enter_with m r (node l (eval l) p place)) is)
      by_fuel (suc left) is = inl (entered l p place r left is)

  -- and then a frame
  behind_frame : (frame : Waiting l.Point) (r : Run) (out : Out Value) → Goes_later r out → Goes_later r (and_then out (continued l frame))
  behind_frame frame r out (inl later) = inl ((later_law l).wound_later (frame ∷ []) (r.steps + 1) r out later)
  behind_frame frame r out (inr is) = inr (ap (λ o. and_then o (continued l frame)) is)

  held_later : (p x : l.Point) (done : List Value) (place : Loc) (r : Run) → slice_get (l.parts p) (length done) ≡ Some x → Goes_later r (resumed l p done place r)
  held_later p x done place r is = subst (Goes_later r) (sym (waits l p x done place r is)) (behind_frame (Part p done place) r (eval l x place r) (evaluated x place r))

  each_later : (at : Span) (points : List l.Point) (place : Loc) (made : List Value) (r : Run) → (points ≡ [] → ⊥) → Goes_later r (each l (eval l) at points place made r)
  each_later at [] place made r some = absurd (some refl)
  each_later at (p ∷ ps) place made r some = subst (Goes_later r) (sym (turns l at p ps place made r)) (behind_frame (Turn at p ps place made) r (eval l p place r) (evaluated p place r))

-- ---- and then the frames of a machine

module _ (c : CodeTables) where
  behind_stack : (fs : List Frame) (place : Loc) (r : Run) (out : Out Value) → Goes_later r out → Goes_later r (and_then out (rest c fs place))
  behind_stack fs place r out (inl later) = inl (then_reaches c place (r.steps + 1) r.log out (rest c fs place) later (λ v s reached. rest_reaches c place (r.steps + 1) r.log fs v s reached))
  behind_stack fs place r out (inr is) = inr (ap (λ o. and_then o (rest c fs place)) is)

  -- ---- a call of the server

  entering_server : (event : Event) (what : Crossing) (r : Run) → Reaches (r.steps + 1) r.log (logs event what (step r))
  entering_server event what r =
      let same : r.steps + 1 ≤ r.steps + 1 = omega arith in
      record { more = record { number = r.steps + 1; event = event; crossing = what } ∷ []; logged = refl; rise = (same, same) }

  left : (n : ℕ) (r : Run) (out : Out Value) → Reaches n r.log (run_of out) → Reaches n r.log (run_of (and_then out (λ v s. Goes v (logs event.Leave (Returned v) (step s)))))
  left n r (Goes v s) reached = reaches_on n r.log s (logs event.Leave (Returned v) (step s)) reached (leaving (Returned v) s)
    where
      leaving : (what : Crossing) (s : Run) → Reaches s.steps s.log (logs event.Leave what (step s))
      leaving what s =
          let up : s.steps ≤ s.steps + 1 = omega arith in
          let same : s.steps + 1 ≤ s.steps + 1 = omega arith in
          record { more = record { number = s.steps + 1; event = event.Leave; crossing = what } ∷ []; logged = refl; rise = (up, same) }
  left n r (Stops stop s) reached = reached

  called_later : (label : ℕ) (args : List Value) (r : Run) → Goes_later r (crossing c Client label args r)
  called_later label args r =
      let s : Run = logs event.Enter (Called (callee c label args) (passed c label args)) (step r) in
      inl (left (r.steps + 1) r (does c label args Server s)
      (reaches_on (r.steps + 1) r.log s (run_of (does c label args Server s)) (entering_server event.Enter (Called (callee c label args) (passed c label args)) r) ((are_later c).label label args Server s)))

  -- ---- the next position of a node

  going_at : (ks : List ℕ) (cs : List (Option Cont)) (names : Env) (n part : ℕ) → slice_get ks n ≡ Some part → (x : Point) × (slice_get (going ks cs names) n ≡ Some x)
  going_at [] cs names n part is = absurd (none n is)
    where
      none : (n : ℕ) → slice_get [] n ≡ Some part → ⊥
      none zero is = cc
      none (suc n) is = cc
  going_at (k ∷ ks) [] names zero part is = (under names k, refl)
  going_at (k ∷ ks) [] names (suc n) part is = going_at ks [] names n part is
  going_at (k ∷ ks) (d ∷ cs) names zero part is = (under names k, refl)
  going_at (k ∷ ks) (d ∷ cs) names (suc n) part is = going_at ks cs (narrowed d names) n part is

  pub hold_later : (h : Held) (form : Form) (part : ℕ) (place : Loc) (r : Run) → form_at c.forms h.node ≡ Some form → slice_get form.parts (length h.done) ≡ Some part → Goes_later r (resumed (language c) (under h.scope h.node) h.done place r)
  hold_later h form part place r there is =
      let found = going_at form.parts (conts_at c.conts h.node) h.scope (length h.done) part is in
      held_later (language c) (under h.scope h.node) found.0 h.done place r (ap (λ o. slice_get (parts_in c.forms c.conts o h.node h.scope) (length h.done)) there ∙ found.1)

  pub turn_later : (t : Turns) (place : Loc) (r : Run) → (t.left ≡ [] → ⊥) → Goes_later r (each (language c) (eval (language c)) t.at (bodies t) place t.made r)
  turn_later t place r some = each_later (language c) t.at (bodies t) place t.made r (λ none. some (none_left t.left (reverse t.left) refl none))
    where
      none_left : (xs ys : List Value) → reverse xs ≡ ys → map (λ v. under (bind t.name v t.scope) t.body) ys ≡ [] → xs ≡ []
      none_left xs [] is none = nil_from_length xs (sym (length-reverse xs) ∙ ap length is)
      none_left xs (y ∷ ys) is none = cc

  -- ---- a value for the next frame

  -- the frame hands a value on in a step, and goes on with this
  pub record Hands (place : Loc) (f : Frame) : Type 0 where
    pub does : Value → Run → Out Value
    pub is : (v : Value) (r : Run) → goes_on c place f v r ≡ does v (step r)
    pub later : (v : Value) (s : Run) → Later s.steps s (does v s)

  stepped : (r : Run) → Reaches (r.steps + 1) r.log (step r)
  stepped r = record { more = []; logged = sym (append-nil r.log); rise = let same : r.steps + 1 ≤ r.steps + 1 = omega arith in same }

  handed_later : (place : Loc) (f : Frame) (v : Value) (r : Run) → Hands place f → Goes_later r (goes_on c place f v r)
  handed_later place f v r hands = inl (subst (λ out. Reaches (r.steps + 1) r.log (run_of out)) (sym (hands.is v r)) (reaches_on (r.steps + 1) r.log (step r) (run_of (hands.does v (step r))) (stepped r) (hands.later v (step r))))

  -- where a frame waits that is no return
  pub waits_later : (place : Loc) (f : Frame) (fs : List Frame) (v : Value) (r : Run) → Hands place f → Goes_later r (rest c (f ∷ fs) place v r)
  waits_later place f fs v r hands = behind_stack fs place r (goes_on c place f v r) (handed_later place f v r hands)

  -- ---- a machine

  pub here_later : (place : Loc) (n : Now) (t : Ground) (r : Run) → place ≡ Client → IsNow c place n t → IsUnderWay c n → ((v : Value) → n ≡ now.Give v → ⊥) → Goes_later r (here c place n r)
  here_later place (now.Enter n scope) t r client typed on none = evaluated (language c) (under scope n) place r
  here_later place (now.Hold h) t r client typed on none = let next = typed.1.1 in hold_later h next.0 typed.1.0 place r next.1 next.2
  here_later place (now.Turn several) t r client typed on none = turn_later several place r typed.1
  here_later place (now.Give v) t r client typed on none = absurd (none v refl)
  here_later place (now.Cross label args) t r client typed on none = subst (λ p. Goes_later r (crossing c p label args r)) (sym client) (called_later label args r)
  here_later place (now.First label args) t r client typed on none = let server = typed.3 in absurd (let e : Client ≡ Server = sym client ∙ server in cc)
  here_later place now.Waits t r client typed on none = elim on [ ]
  here_later place now.Over t r client typed on none = elim on [ ]

  -- a machine at the client that has something to do before it has a value
  pub goes : (m : State) (t : Ground) → m.place ≡ Client → IsNow c m.place m.now t → IsUnderWay c m.now → ((v : Value) → m.now ≡ now.Give v → ⊥) → GoesOn c m
  goes m t client typed on none r = behind_stack (waiting c m.stack) m.place r (here c m.place m.now r) (here_later m.place m.now t r client typed on none)

  -- ---- a machine that has a value

  nothing_later : (r : Run) → Later r.steps r (nothing c r)
  nothing_later r = record { more = []; logged = sym (append-nil r.log); rise = let same : r.steps ≤ r.steps = omega arith in same }

  unstepped_later : (o : Option (Waiting Point)) (v : Value) (r : Run) → Later r.steps r (unstepped o v c r)
  unstepped_later None v r = nothing_later r
  unstepped_later (Some (Part p done place)) v r = nothing_later r
  unstepped_later (Some (Turn at body left place made)) v r = turned_later (language c) at left place made (list_in v) r
  unstepped_later (Some (Back place)) v r = nothing_later r

  module _ (whole : IsWhole c) (place : Loc) where
    hands_of : (f : Frame) (h : Home) (form : Form) (cont : Cont) (i : FrameInfo) → form_at c.forms h.node ≡ Some form → cont_at c h ≡ Some cont → f.number ≡ first_frame c + cont.order
        → frame_info c (first_frame c + cont.order) ≡ Some i → FitEach (IsFun c) f.env i.env → Hands place f
    hands_of f h form cont i there is number told fit = by_position (nat_lt h.position (length form.parts)) refl
      where
        stands : (v : Value) (r : Run) → goes_on c place f v r ≡ continues_as c (at_home c place h form cont f.env) v r
        stands v r = ap (λ n. goes_on c place (frame n f.env) v r) number ∙ home_meant c whole.sound h form cont there is place v r f.env

        by_position : (b : Bool) → nat_lt h.position (length form.parts) ≡ b → Hands place f
        by_position true before =
            let long = (node_there c whole h form cont i there is told f.env place before fit).long in
            record {
              does = λ v s. resumed (language c) (under (kept_names c cont (drop h.position f.env)) h.node) (take h.position f.env ++ v ∷ []) place s;
              is = λ v r. stands v r ∙ part_steps c place h form cont whole there is before f.env long v r;
              later = λ v s. resumed_later (language c) (under (kept_names c cont (drop h.position f.env)) h.node) (take h.position f.env ++ v ∷ []) place s;
            }
        by_position false behind =
            record {
              does = λ v s. unstepped (at_home c place h form cont f.env) v c s;
              is = λ v r. stands v r ∙ turn_steps c place h form cont whole there is behind f.env (round_of c place h form cont whole there is i told behind f.env fit) v r;
              later = λ v s. unstepped_later (at_home c place h form cont f.env) v s;
            }

    first_hands : (f g : Frame) (fs : List Frame) (t u : Ground) → AreFrames c place (f ∷ g ∷ fs) t u → Hands place f
    first_hands f g fs t u all =
        let at = homed_of c whole place f g fs t u all in
        let one = popped_of c whole place f g fs t u all at.home at.form at.cont at.homed at.there at.is in
        hands_of f at.home at.form at.cont one.info at.there at.is one.numbered one.told one.fit

    -- where another one waits behind the first
    handed_on : (fs : List Frame) (t u : Ground) → AreFrames c place fs t u → ((f : Frame) → fs ≡ f ∷ [] → ⊥) → (v : Value) (r : Run) → Goes_later r (rest c fs place v r)
    handed_on [] t u all several v r = absurd all.chained
    handed_on (f ∷ []) t u all several v r = absurd (several f refl)
    handed_on (f ∷ g ∷ fs) t u all several v r = waits_later place f (g ∷ fs) v r (first_hands f g fs t u all)

  pub one_waits : (stack : List Frame) (f : Frame) → waiting c stack ≡ f ∷ [] → (g : Frame) × (stack ≡ g ∷ [])
  one_waits stack f is = by_length stack (sym (length-map (reverse stack) (forward c) ∙ length-reverse stack) ∙ ap length is)
    where
      by_length : (fs : List Frame) → length fs ≡ 1 → (g : Frame) × (fs ≡ g ∷ [])
      by_length [] is = absurd (let e : ⊥ = omega arith in e)
      by_length (g ∷ []) is = (g, refl)
      by_length (g ∷ h ∷ fs) is = absurd (let e : ⊥ = omega arith in e)

  -- a machine at the client that may step and doesn't wait to go back with the value that it has
  pub goes_on_so : IsWhole c → (m : State) (u : Ground) → MaySteps c m u → m.place ≡ Client → (IsReturning m → ⊥) → GoesOn c m
  goes_on_so whole m u may client not_back r = by_now m.now refl
    where
      has_value : (v : Value) → m.now ≡ now.Give v → Goes_later r (doing c m r)
      has_value v is =
          subst (λ n. Goes_later r (and_then (here c m.place n r) (rest c (waiting c m.stack) m.place))) (sym is)
          (handed_on whole m.place (waiting c m.stack) may.0 u may.1.frames (λ f alone. let one = one_waits m.stack f alone in not_back (v, one.0, is, one.1)) v r)

      other : ((v : Value) → m.now ≡ now.Give v → ⊥) → Goes_later r (doing c m r)
      other none = goes m may.0 client may.1.next may.2 none r

      by_now : (n : Now) → m.now ≡ n → Goes_later r (doing c m r)
      by_now (now.Give v) is = has_value v is
      by_now (now.Enter n scope) is = other (λ v give. let e : now.Enter n scope ≡ now.Give v = sym is ∙ give in cc)
      by_now (now.Hold h) is = other (λ v give. let e : now.Hold h ≡ now.Give v = sym is ∙ give in cc)
      by_now (now.Turn several) is = other (λ v give. let e : now.Turn several ≡ now.Give v = sym is ∙ give in cc)
      by_now (now.Cross label args) is = other (λ v give. let e : now.Cross label args ≡ now.Give v = sym is ∙ give in cc)
      by_now (now.First label args) is = other (λ v give. let e : now.First label args ≡ now.Give v = sym is ∙ give in cc)
      by_now now.Waits is = other (λ v give. let e : now.Waits ≡ now.Give v = sym is ∙ give in cc)
      by_now now.Over is = other (λ v give. let e : now.Over ≡ now.Give v = sym is ∙ give in cc)

  -- so is what a step leaves at the client that goes on
  pub on_step : IsWhole c → (new : State) (u : Ground) (answer : Next) → Leaves c new u answer → new.place ≡ Client → answer ≡ next.More → GoesOn c new
  on_step whole new u answer leaves client more = let left : Leaves c new u next.More = subst (Leaves c new u) more leaves in goes_on_so whole new u left.0 client (left.1 client)

  pub step_goes_on : IsWhole c → (old new : State) (u : Ground) → MaySteps c old u → (result : Result Next NoMemory) → IfOk result (λ answer. new.place ≡ old.place) → IfOk result (λ answer. (u : Ground) → MaySteps c old u → Leaves c new u answer)
      → IfOk result (λ answer. old.place ≡ Client → answer ≡ next.More → GoesOn c new)
  step_goes_on whole old new u may (Ok answer) place kept = λ client more. on_step whole new u answer (kept u may) (place ∙ client) more
  step_goes_on whole old new u may (Err error) place kept = tt
