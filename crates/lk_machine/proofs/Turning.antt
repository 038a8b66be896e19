-- The turns of a `for`: the next element is bound and the body entered, while the frame waits with those that are left; plain bodies are
-- entered one after the other.
use Rattle.std.proofs.Common.{◌≡◌, refl, sym, ap, subst, ◌∙◌, ℕ, ◌+◌, ◌==◌, Bool, true, false, cond, List, [], ◌∷◌, ◌++◌, Option, Some, None, length, map, slice_get, take, arith}
use Rattle.std.proofs.lemmas.Bool.Decides.{nat_tests}
use Rattle.std.proofs.lemmas.List.{reverse-append, reverse-reverse}
use Rattle.std.proofs.lemmas.Option.{none-some}
use Rattle.std.specs.Option.{option_and_then, option_flatten, option_map}
use Rattle.std.specs.Prelude.{if◌then◌else◌, nat_lt, reverse}
use Rattle.lk_ast.specs.declared.place.Loc.{Loc}
use Rattle.lk_ast.specs.declared.value.Value.{Value}
use Rattle.lk_ast.specs.declared.value.Value.TheOpen.{Value-F}
use Rattle.lk_ast.specs.declared.value.Value.TheVariants as value
use Rattle.lk_code.proofs.Holding.{holds_law}
use Rattle.lk_code.proofs.Waiting.{IsNode, inverted}
use Rattle.lk_code.specs.Acting.{IsPointOf}
use Rattle.lk_code.specs.Meaning.{at_home, continues_as, kept_names, language, rest}
use Rattle.lk_code.specs.Sound.{HasFrame, held_types, told_by}
use Rattle.lk_code.specs.Tables.{cont_at, first_frame, type_at}
use Rattle.lk_code.specs.Told.{node_types}
use Rattle.lk_code.specs.TypedLaw.{IsWhole}
use Rattle.lk_code.specs.Values.{IsFun}
use Rattle.lk_code.specs.Waiting.{GoesOn, IsTurnOf}
use Rattle.lk_code.specs.declared.tables.CodeTables.{CodeTables}
use Rattle.lk_code.specs.declared.tables.Frame.{Frame}
use Rattle.lk_code.specs.declared.tables.Home.{Home}
use Rattle.lk_evaluation.specs.Evaluation.{each, eval, handed, joined}
use Rattle.lk_evaluation.specs.Run.{Goes, Out, Run, Stops, and_then}
use Rattle.lk_fits.proofs.Levels.{made as fits_by, shown}
use Rattle.lk_fits.proofs.Lists.{all_fit_both}
use Rattle.lk_fits.proofs.Shapes.{fits_list, list_fits, list_of_fits}
use Rattle.lk_fits.specs.Levels.{IsOf}
use Rattle.lk_fits.specs.Values.{AllFit, FitEach, Fits, more, none, none_left, one_more}
use Rattle.lk_ir.proofs.Lookups.{bound, same_names}
use Rattle.lk_ir.proofs.Resumes.{kept_again}
use Rattle.lk_ir.proofs.Used.{has_conts}
use Rattle.lk_ir.specs.Continuing.{conts_at}
use Rattle.lk_ir.specs.Environments.{Env, bind, bind_each, lookup, lookup_all, no_names}
use Rattle.lk_ir.specs.LetNormal.{Point, plain_in, under}
use Rattle.lk_ir.specs.Tables.{form_at, names_of}
use Rattle.lk_ir.specs.Uses as used
use Rattle.lk_ir.specs.Uses.{Among, UsedBehind, turned}
use Rattle.lk_ir.specs.declared.nodes.Cont.{Cont}
use Rattle.lk_ir.specs.declared.nodes.Form.{Form}
use Rattle.lk_ir.specs.declared.nodes.Kind.TheVariants as kind
use Rattle.lk_moves.proofs.Framed.{turns as turns_on}
use Rattle.lk_moves.specs.Courses.{Evaluation, Takes, after, before, entering}
use Rattle.lk_moves.specs.Frames.{continued}
use Rattle.lk_operators.specs.Values.{list_in}
use Rattle.lk_types.proofs.Parts.{same_some}
use Rattle.lk_types.specs.Each.{Each}
use Rattle.lk_types.specs.declared.ground.Ground.{Ground, out-Ground}
use Rattle.lk_types.specs.declared.ground.Ground.TheOpen.{Ground-F}
use Rattle.lk_types.specs.declared.ground.Ground.TheVariants as known
use Rattle.lk_types.specs.declared.ground.GroundField.{GroundField}
use Rattle.lk_machine.proofs.Plainly.{IsPlainOf, plain_point}
use Rattle.lk_machine.proofs.Popping.{as_turn, handed_out, home_goes, listed, turn_is}
use Rattle.lk_machine.proofs.Pushing.{forward_turn, pushed, stays_here}
use Rattle.lk_machine.proofs.Steady.{keeps_behind}
use Rattle.lk_machine.proofs.Taking.{moved}
use Rattle.lk_machine.specs.Acts.{each_of}
use Rattle.lk_machine.specs.Going.{bodies, doing, forward, list_round, waiting}
use Rattle.lk_machine.specs.Moves.{ActsAt, EntersTo, IsReady, Leads, Moves, performed, then_frames}
use Rattle.lk_machine.specs.Typed.{AreFrames, AreTurnsOf, IsForOf, IsHere, IsTurning}
use Rattle.lk_machine.specs.declared.state.Next.{Next}
use Rattle.lk_machine.specs.declared.state.Next.TheVariants as next
use Rattle.lk_machine.specs.declared.state.Now.TheVariants as now
use Rattle.lk_machine.specs.declared.state.State.{State}
use Rattle.lk_machine.specs.declared.state.Turns.{Turns}

-- ---- lists

module _ {A B : Type 0} where
  last_of : (P : B → Type 0) (g : A → B) (xs : List A) (x : A) → Each P (map g (xs ++ x ∷ [])) → P (g x)
  last_of P g [] x each = each.0
  last_of P g (y ∷ xs) x each = last_of P g xs x each.1

  pub same_map : (f g : A → B) → ((x : A) → f x ≡ g x) → (xs : List A) → map f xs ≡ map g xs
  same_map f g same [] = refl
  same_map f g same (x ∷ xs) = ap (λ y. y ∷ map f xs) (same x) ∙ ap (λ ys. g x ∷ ys) (same_map f g same xs)

last_first : (init : List Value) (v : Value) → reverse (init ++ v ∷ []) ≡ v ∷ reverse init
last_first init v = reverse-append init (v ∷ [])

among_last : (ks : List ℕ) (k : ℕ) → Among k (ks ++ k ∷ [])
among_last [] k = used.here
among_last (j ∷ ks) k = used.later (among_last ks k)

-- of two values under one name the last counts
pub bind_twice : (x : ℕ) (v w : Value) (names : Env) → bind x w (bind x v names) ≡ bind x w names
bind_twice x v w names = same_names _ _ (λ y. bound x w (bind x v names) y ∙ ap (cond (x == y) (Some w)) (bound x v names y) ∙ by_test (x == y) (lookup names y) ∙ sym (bound x w names y))
  where
    by_test : (b : Bool) (o : Option Value) → cond b (Some w) (cond b (Some v) o) ≡ cond b (Some w) o
    by_test true o = refl
    by_test false o = refl

module _ (IsFun : ℕ → Ground → List Ground → Type 0) where
  all_but_last : (xs : List Value) (v : Value) (a : Ground) → AllFit IsFun (xs ++ v ∷ []) a → AllFit IsFun xs a
  all_but_last [] v a fit = none
  all_but_last (x ∷ xs) v a (more one fit) = more one (all_but_last xs v a fit)

  pub all_reversed : (xs : List Value) (a : Ground) → AllFit IsFun xs a → AllFit IsFun (reverse xs) a
  all_reversed [] a fit = none
  all_reversed (x ∷ xs) a (more one fit) = subst (λ ys. AllFit IsFun ys a) (sym (reverse-append (x ∷ []) xs)) (all_fit_both IsFun (reverse xs) (x ∷ []) a (all_reversed xs a fit) (more one none))

  -- a list is of a type where another one is whose elements are of the same
  pub other_list : (values others : List Value) (t : Ground) → ((a : Ground) → AllFit IsFun values a → AllFit IsFun others a) → Fits IsFun (value.List values) t → Fits IsFun (value.List others) t
  other_list values others t keeps fits =
      fits_by IsFun (value.List others) t (subst (λ x. IsOf IsFun x (out-Ground t)) (sym (value.outs-List others))
      (by_kind (out-Ground t) (subst (λ x. IsOf IsFun x (out-Ground t)) (value.outs-List values) (shown IsFun (value.List values) t fits))))
    where
      by_kind : (y : Ground-F Ground GroundField) → IsOf IsFun (Value-F.List values) y → IsOf IsFun (Value-F.List others) y
      by_kind (Ground-F.List a) fit = keeps a fit
      by_kind other wrong = absurd wrong

  pub other_left : (first left others kept : List Value) (ts : List Ground) → ((a : Ground) → AllFit IsFun left a → AllFit IsFun others a) → FitEach IsFun (value.List first ∷ value.List left ∷ kept) ts → FitEach IsFun (value.List first ∷ value.List others ∷ kept) ts
  other_left first left others kept _ keeps (one_more one (one_more {t = t} two rest)) = one_more one (one_more (other_list left others t keeps two) rest)

  reversed_one : (values : List Value) (ts : List Ground) → FitEach IsFun (value.List values ∷ []) ts → FitEach IsFun (value.List (reverse values) ∷ []) ts
  reversed_one values _ (one_more {t = t} one none_left) = one_more (other_list values (reverse values) t (λ a fit. all_reversed values a fit) one) none_left

-- ---- a frame at the body of a `for`

pub behind_all : (n : ℕ) → nat_lt n n ≡ false
behind_all n = grind (arith, nat_tests)

-- one evaluation and another, and then what comes behind both
then_both : (out : Out Value) (k l m : Value → Run → Out Value) → ((v : Value) (r : Run) → l v r ≡ and_then (k v r) m) → and_then (and_then out k) m ≡ and_then out l
then_both (Goes v r) k l m same = sym (same v r)
then_both (Stops stop r) k l m same = refl

module _ (c : CodeTables) (whole : IsWhole c) (place : Loc) (node : ℕ) (form : Form) (x body : ℕ) (cont : Cont) where
  abbrev home : Home
  home = record { node = node; position = length form.parts }

  abbrev Turning : Ground → List Value → List Value → List Value → Type 0
  Turning t made left kept = IsTurning c place t node form x body cont made left kept

  abbrev turn : List Value → Value → Point
  turn kept v = under (bind x v (kept_names c cont kept)) body

  goes : (t : Ground) (made left kept : List Value) (at : Turning t made left kept) → IsTurnOf (IsFun c) c.forms (told_by c) c.conts at.info.hole at.info.result (map (turn kept) left) made
  goes t made left kept at =
      subst (λ frame. GoesOn (IsFun c) c.forms (told_by c) c.conts at.info.hole at.info.result frame) (turn_is c place home form cont x body at.kind at.tail (behind_all (length form.parts)) made left kept)
      (home_goes c place home form cont whole at.there at.is at.info at.told (value.List made ∷ value.List left ∷ kept) at.fit)

  -- the list that was made is of the node's type
  pub made_fits : (t : Ground) (made left kept : List Value) → Turning t made left kept → Fits (IsFun c) (value.List made) t
  made_fits t made left kept at =
      let all : IsTurnOf (IsFun c) c.forms (told_by c) c.conts at.info.hole at.info.result (map (turn kept) left) made = goes t made left kept at in
      subst (Fits (IsFun c) (value.List made)) (sym all.result_is ∙ at.result) (list_fits (IsFun c) made all.of all.fit)

  -- ---- the next element

  module _ (made left kept init : List Value) (v : Value) (split : left ≡ init ++ v ∷ []) where
    entered : (t : Ground) (at : Turning t made left kept) → IsPointOf (IsFun c) c.forms (told_by c) at.info.hole (turn kept v)
    entered t at =
        let all : IsTurnOf (IsFun c) c.forms (told_by c) c.conts at.info.hole at.info.result (map (turn kept) left) made = goes t made left kept at in
        subst (λ s. IsPointOf (IsFun c) c.forms (told_by c) s (turn kept v)) (sym all.hole_is)
        (last_of (IsPointOf (IsFun c) c.forms (told_by c) (known.List all.of)) (turn kept) init v (subst (λ values. Each (IsPointOf (IsFun c) c.forms (told_by c) (known.List all.of)) (map (turn kept) values)) split all.bodies))

    module _ (t : Ground) (at : Turning t made left kept) where
      body_here : IsHere c place body
      body_here = stays_here c whole place node body form at.there at.here (subst (λ ns. Among body (form.parts ++ ns)) (sym at.tail) (among_last form.parts body))

      -- the frame that waits for the body, as the machine holds it and as others see it
      abbrev waits : Frame
      waits = record { number = first_frame c + cont.order; env = value.List made ∷ value.List init ∷ kept }

      seen : forward c waits ≡ record { number = first_frame c + cont.order; env = value.List made ∷ value.List (reverse init) ∷ kept }
      seen =
          forward_turn c waits home form (whole.sound.frames home form cont at.there at.is).home at.there (behind_all (length form.parts))
          ∙ ap (λ o. record waits { env = value.List made ∷ list_round (value.List init) o ∷ kept }) (listed init)

      fit : FitEach (IsFun c) (forward c waits).env at.info.env
      fit =
          subst (λ (f : Frame). FitEach (IsFun c) f.env at.info.env) (sym seen)
          (other_left (IsFun c) made left (reverse init) kept at.info.env (λ a all. all_reversed (IsFun c) init a (all_but_last (IsFun c) init v a (subst (λ values. AllFit (IsFun c) values a) split all))) at.fit)

      frames : (stack : List Frame) (u : Ground) → AreFrames c place (waiting c stack) t u → AreFrames c place (waiting c (stack ++ waits ∷ [])) at.info.hole u
      frames stack u all = pushed c whole place home form cont at.info at.there at.is at.told at.here stack waits refl fit t u at.result all

      -- what it goes on with, and then the others
      passed : (m : State) (stack : List Frame) → m.place ≡ place → m.stack ≡ stack ++ waits ∷ [] → (w : Value) (r : Run)
          → then_frames c m (Goes w) r ≡ and_then (continued (language c) (as_turn c m.place home form cont x body made (reverse init) kept) w r) (rest c (waiting c stack) m.place)
      passed m stack here is w r =
          handed_out c whole m stack waits is home form cont at.there at.is refl w r
          ∙ ap (λ (f : Frame). and_then (continues_as c (at_home c m.place home form cont f.env) w r) (rest c (waiting c stack) m.place)) seen
          ∙ ap (λ o. and_then (continues_as c o w r) (rest c (waiting c stack) m.place)) (turn_is c m.place home form cont x body at.kind at.tail (behind_all (length form.parts)) made (reverse init) kept)

-- ---- the turns of a machine

module _ (c : CodeTables) (whole : IsWhole c) (old : State) (ready : IsReady old) (node : ℕ) (form : Form) (x body : ℕ) (cont : Cont) (made left kept init : List Value) (v : Value) (split : left ≡ init ++ v ∷ []) where
  abbrev turned_names : Env
  turned_names = kept_names c cont kept

  -- the machine waits for the body, under the next element
  abbrev pub turning_on : State
  turning_on = record old { stack = old.stack ++ record { number = first_frame c + cont.order; env = value.List made ∷ value.List init ∷ kept } ∷ []; now = now.Enter body (bind x v turned_names) }

  abbrev others : List Point
  others = map (λ w. under (bind x w turned_names) body) (reverse init)

  abbrev first : Point
  first = under (bind x v turned_names) body

  abbrev goes_over_all : Evaluation
  goes_over_all = each (language c) (eval (language c)) form.at (map (λ w. under (bind x w turned_names) body) (reverse left)) old.place made

  abbrev here_home : Home
  here_home = record { node = node; position = length form.parts }

  pub turns_lead : (t : Ground) → IsTurning c old.place t node form x body cont made left kept → Leads c old goes_over_all turning_on next.More
  turns_lead t at = moved c old turning_on goes_over_all ready.1 same
    where
      same : (r : Run) → then_frames c old goes_over_all r ≡ doing c turning_on r
      same r =
          ap (λ values. then_frames c old (each (language c) (eval (language c)) form.at (map (λ w. under (bind x w turned_names) body) values) old.place made) r) (ap reverse split ∙ last_first init v)
          ∙ ap (λ out. and_then out (rest c (waiting c old.stack) old.place)) (turns_on (language c) form.at first others old.place made r)
          ∙ then_both (eval (language c) first old.place r) (continued (language c) (as_turn c old.place here_home form cont x body made (reverse init) kept))
          (rest c (waiting c turning_on.stack) old.place) (rest c (waiting c old.stack) old.place)
          (λ w s. passed c whole old.place node form x body cont made left kept init v split t at turning_on old.stack refl refl w s)

  pub turns_move : Moves c (λ t. IsTurning c old.place t node form x body cont made left kept) old turning_on next.More
  turns_move t u at all = (
    (
      (
        at.info.hole,
        record {
          place = ready.0;
          next = (entered c whole old.place node form x body cont made left kept init v split t at, body_here c whole old.place node form x body cont made left kept init v split t at);
          frames = frames c whole old.place node form x body cont made left kept init v split t at old.stack u all;
        },
        tt,
      ),
      λ client back. let wrong = back.2 in cc,
    ),
    refl,
  )

  -- the same, as code makes it
  module _ (m : State) (inner : Env) (env : List Value) (inner_is : inner ≡ bind x v turned_names) (env_is : env ≡ value.List made ∷ value.List init ∷ kept)
      (is : m ≡ record old { stack = old.stack ++ record { number = length c.funs + cont.order; env = env } ∷ [] }) where
    same_state : record m { now = now.Enter body inner } ≡ turning_on
    same_state =
        ap (λ (n : State). record n { now = now.Enter body inner }) is
        ∙ ap (λ vs. record old { stack = old.stack ++ record { number = length c.funs + cont.order; env = vs } ∷ []; now = now.Enter body inner }) env_is
        ∙ ap (λ names. record old { stack = old.stack ++ record { number = length c.funs + cont.order; env = value.List made ∷ value.List init ∷ kept } ∷ []; now = now.Enter body names }) inner_is

    pub turned_leads : (t : Ground) → IsTurning c old.place t node form x body cont made left kept → Leads c old goes_over_all (record m { now = now.Enter body inner }) next.More
    turned_leads t at = subst (λ n. Leads c old goes_over_all n next.More) (sym same_state) (turns_lead t at)

    pub turned_moves : Moves c (λ t. IsTurning c old.place t node form x body cont made left kept) old (record m { now = now.Enter body inner }) next.More
    turned_moves = subst (λ n. Moves c (λ t. IsTurning c old.place t node form x body cont made left kept) old n next.More) (sym same_state) turns_move

-- one more name over names that are bound anew
pub rebound : (x : ℕ) (v : Value) (start scope inner : Env) (names xs : List ℕ) (values kept : List Value) → inner ≡ bind x v scope → scope ≡ bind_each start names values → start ≡ no_names → names ≡ xs → values ≡ kept → inner ≡ bind x v (bind_each no_names xs kept)
rebound x v start scope inner names xs values kept last first empty named valued =
    last ∙ ap (bind x v) (first ∙ ap (λ env. bind_each env names values) empty ∙ ap (λ ns. bind_each no_names ns values) named ∙ ap (bind_each no_names xs) valued)

-- a list that is made one by one
pub env_made : (l0 l1 l2 env kept : List Value) (a b : Value) → l0 ≡ [] → l1 ≡ l0 ++ a ∷ [] → l2 ≡ l1 ++ b ∷ [] → env ≡ l2 ++ kept → env ≡ a ∷ b ∷ kept
env_made l0 l1 l2 env kept a b none_yet first second whole = whole ∙ ap (λ l. l ++ kept) (second ∙ ap (λ l. l ++ b ∷ []) (first ∙ ap (λ l. l ++ a ∷ []) none_yet))

-- ---- plain bodies, one after the other

module _ (c : CodeTables) (whole : IsWhole c) (place : Loc) (turns : Turns) where
  abbrev plainly : Value → Point
  plainly v = under (bind turns.name v turns.scope) turns.body

  abbrev goes_over : List Point → List Value → Evaluation
  goes_over points made = each (language c) (eval (language c)) turns.at points place made

  pub plain_fits : (t : Ground) → AreTurnsOf c t turns → Fits (IsFun c) (value.List turns.made) t
  plain_fits t at = subst (Fits (IsFun c) (value.List turns.made)) (sym at.result) (list_fits (IsFun c) turns.made at.of at.fit)

  module _ (init : List Value) (v : Value) (split : turns.left ≡ init ++ v ∷ []) where
    bodies_split : bodies turns ≡ plainly v ∷ map plainly (reverse init)
    bodies_split = ap (λ values. map plainly (reverse values)) split ∙ ap (map plainly) (last_first init v)

    -- the next body has a value
    pub next_plain : (t : Ground) → AreTurnsOf c t turns → IsPlainOf c t (plainly v)
    next_plain t at = plain_point c whole t (plainly v) (subst (Each (IsPointOf (IsFun c) c.forms (told_by c) t)) bodies_split at.bodies).0 at.plain

    -- which is a list
    pub next_lists : (t : Ground) → AreTurnsOf c t turns → (has : IsPlainOf c t (plainly v)) → (values : List Value) × (list_in has.v ≡ Some values)
    next_lists t at has = let found = list_of_fits (IsFun c) has.v at.of (subst (Fits (IsFun c) has.v) at.result has.fits) in (found.0, found.1)

    module _ (values : List Value) where
      -- the turns behind it, where it is this list
      abbrev pub next_turns : Turns
      next_turns = record turns { left = init; scope = bind turns.name v turns.scope; made = turns.made ++ values }

      same_bodies : bodies next_turns ≡ map plainly (reverse init)
      same_bodies = same_map (λ w. under (bind turns.name w (bind turns.name v turns.scope)) turns.body) plainly (λ w. ap (λ names. under names turns.body) (bind_twice turns.name v w turns.scope)) (reverse init)

      module _ (t : Ground) (at : AreTurnsOf c t turns) (has : IsPlainOf c t (plainly v)) (is : has.v ≡ value.List values) where
        pub next_turns_of : AreTurnsOf c t next_turns
        next_turns_of =
            let found = fits_list (IsFun c) has.v at.of (subst (Fits (IsFun c) has.v) at.result has.fits) in
            let same : found.0 ≡ values = same_some (sym (listed found.0) ∙ ap list_in (sym found.1 ∙ is) ∙ listed values) in
            record {
              of = at.of;
              result = at.result;
              plain = at.plain;
              fit = all_fit_both (IsFun c) turns.made values at.of at.fit (subst (λ vs. AllFit (IsFun c) vs at.of) same found.2);
              bodies = subst (Each (IsPointOf (IsFun c) c.forms (told_by c) t)) (sym same_bodies) (subst (Each (IsPointOf (IsFun c) c.forms (told_by c) t)) bodies_split at.bodies).1;
            }

        -- it is entered, and its list put behind those made so far
        pub next_takes : Takes (goes_over (bodies turns) turns.made) entering (goes_over (bodies next_turns) next_turns.made)
        next_takes r =
            let others : List Point = map plainly (reverse init) in
            ap (λ points. goes_over points turns.made (before entering r)) bodies_split
            ∙ ap (λ out. and_then (and_then out (λ u s. Goes u (handed ((language c).plain (plainly v)) s))) (λ u s. joined turns.at turns.made (list_in u) (goes_over others) s)) (has.takes place r)
            ∙ ap (λ b. joined turns.at turns.made (list_in has.v) (goes_over others) (handed b (after entering r))) at.plain
            ∙ ap (λ u. joined turns.at turns.made (list_in u) (goes_over others) (after entering r)) is
            ∙ ap (λ o. joined turns.at turns.made o (goes_over others) (after entering r)) (listed values)
            ∙ ap (λ points. goes_over points (turns.made ++ values) (after entering r)) (sym same_bodies)

        -- the same, as code makes it
        module _ (scope : Env) (made : List Value) (scope_is : scope ≡ bind turns.name v turns.scope) (made_is : made ≡ turns.made ++ values) where
          same_next : record turns { left = init; scope = scope; made = made } ≡ next_turns
          same_next = ap (λ names. record turns { left = init; scope = names; made = made }) scope_is ∙ ap (λ vs. record turns { left = init; scope = bind turns.name v turns.scope; made = vs }) made_is

          pub next_so : AreTurnsOf c t (record turns { left = init; scope = scope; made = made })
          next_so = subst (AreTurnsOf c t) (sym same_next) next_turns_of

          takes_so : Takes (goes_over (bodies turns) turns.made) entering (goes_over (bodies (record turns { left = init; scope = scope; made = made })) made)
          takes_so = subst (λ (n : Turns). Takes (goes_over (bodies turns) turns.made) entering (goes_over (bodies n) n.made)) (sym same_next) next_takes

          pub enters_so : (old new : State) (answer : Next) → Leads c old (goes_over (bodies (record turns { left = init; scope = scope; made = made })) made) new answer → EntersTo c old (goes_over (bodies turns) turns.made) new answer
          enters_so old new answer leads = (goes_over (bodies (record turns { left = init; scope = scope; made = made })) made, takes_so, leads)

-- ---- where a `for` begins

past_last : (ks : List ℕ) → slice_get ks (length ks) ≡ None
past_last [] = refl
past_last (k ∷ ks) = past_last ks

module _ (c : CodeTables) (whole : IsWhole c) (place : Loc) (t : Ground) (node : ℕ) (form : Form) (x body : ℕ) (values : List Value) (names : Env) (acts : ActsAt c place (each_of form.at x body values names) t) (at : IsForOf c place t node form x body values names) where
  abbrev behind_home : Home
  behind_home = record { node = node; position = length form.parts }

  abbrev begins : Evaluation
  begins = performed c place (each_of form.at x body values names)

  -- ---- its body is plain where it has no continuation

  plain_body : cont_at c behind_home ≡ None → plain_in c.forms (form_at c.forms body) ≡ true
  plain_body nothing = by_test (plain_in c.forms (form_at c.forms body)) refl
    where
      by_test : (b : Bool) → plain_in c.forms (form_at c.forms body) ≡ b → plain_in c.forms (form_at c.forms body) ≡ true
      by_test true is = is
      by_test false is =
          let found = (has_conts c.forms c.conts whole.sound.named node form at.there).turn body (ap (λ k. turned k form.tails) at.kind ∙ ap (turned (kind.For x)) at.tail) is in
          absurd (none-some found.0 (sym nothing ∙ ap option_flatten found.1))

  module _ (left made : List Value) (left_is : left ≡ reverse values) (made_is : made ≡ []) where
    abbrev pub plain_turns : Env → Turns
    plain_turns scope = record { at = form.at; name = x; body = body; left = left; scope = scope; made = made }

    elements : reverse left ≡ values
    elements = ap reverse left_is ∙ reverse-reverse values

    pub begins_plainly : (scope : Env) → scope ≡ names → cont_at c behind_home ≡ None → AreTurnsOf c t (plain_turns scope)
    begins_plainly scope same nothing = subst (λ env. AreTurnsOf c t (plain_turns env)) (sym same) (record {
      of = acts.0.0;
      result = acts.0.1;
      plain = plain_body nothing;
      fit = subst (λ vs. AllFit (IsFun c) vs acts.0.0) (sym made_is) none;
      bodies = subst (λ vs. Each (IsPointOf (IsFun c) c.forms (told_by c) t) (map (λ v. under (bind x v names) body) vs)) (sym elements) acts.0.2;
    })

    -- ---- else a frame waits behind it

    module _ (cont : Cont) (is : cont_at c behind_home ≡ Some cont) where
      has : HasFrame c behind_home form cont
      has = whole.sound.frames behind_home form cont at.there is

      inside : IsNode c.forms (told_by c) at.context form t
      inside = inverted c.forms (told_by c) at.context node form t at.there at.typed

      held_are : held_types c.forms form (length form.parts) ≡ Some (t ∷ at.held)
      held_are =
          ap (λ b. if b then node_types c.forms (take (length form.parts) form.parts) else option_and_then (λ s. option_map (λ ts. s ∷ ts) (node_types c.forms form.parts)) (type_at c.forms form.ty)) (behind_all (length form.parts))
          ∙ ap (option_and_then (λ s. option_map (λ ts. s ∷ ts) (node_types c.forms form.parts))) inside.type
          ∙ ap (option_map (λ ts. t ∷ ts)) at.types

      keeps : (y : ℕ) → Among y (names_of cont.keeps) → UsedBehind c.forms form [] y
      keeps y = ((keeps_behind c.forms form form.parts (conts_at c.conts node) (whole.sound.named.each node form at.there) (length form.parts) (past_last form.parts) cont is).just y).0

      fits : FitEach (IsFun c) (value.List [] ∷ value.List (reverse values) ∷ []) (t ∷ at.held)
      fits = one_more (subst (Fits (IsFun c) (value.List [])) (sym acts.0.1) (list_fits (IsFun c) [] acts.0.0 none)) (reversed_one (IsFun c) values at.held at.elements)

      found : (kept : List Value) × (lookup_all names (names_of cont.keeps) ≡ Some kept) × FitEach (IsFun c) (value.List [] ∷ value.List (reverse values) ∷ kept) has.info.env
      found = holds_law c whole behind_home form cont has.info at.there is has.is at.context t at.typed names (λ y among. at.fit y (keeps y among)) (value.List [] ∷ value.List (reverse values) ∷ []) (t ∷ at.held) held_are fits

      -- each name that it keeps has a value
      pub all_there : (kept : List Value) × (lookup_all names (names_of cont.keeps) ≡ Some kept)
      all_there = (found.0, found.1)

      module _ (kept : List Value) (kept_are : lookup_all names (names_of cont.keeps) ≡ Some kept) where
        pub begins_turning : IsTurning c place t node form x body cont made left kept
        begins_turning =
            let same : found.0 ≡ kept = same_some (sym found.1 ∙ kept_are) in
            record {
              here = at.here;
              there = at.there;
              kind = at.kind;
              tail = at.tail;
              is = is;
              info = has.info;
              told = has.is;
              result = same_some (sym has.types.result ∙ inside.type);
              fit = subst (λ vs. FitEach (IsFun c) (value.List vs ∷ value.List left ∷ kept) has.info.env) (sym made_is)
                  (subst (λ vs. FitEach (IsFun c) (value.List [] ∷ value.List vs ∷ kept) has.info.env) (sym left_is)
                  (subst (λ vs. FitEach (IsFun c) (value.List [] ∷ value.List (reverse values) ∷ vs) has.info.env) same found.2));
            }

        pub same_turning : (r : Run) → begins r ≡ each (language c) (eval (language c)) form.at (map (λ v. under (bind x v (kept_names c cont kept)) body) (reverse left)) place made r
        same_turning r =
            let own : names ≡ kept_names c cont kept = sym (at.narrow cont is) ∙ kept_again names (names_of cont.keeps) kept kept_are in
            ap (λ env. each (language c) (eval (language c)) form.at (map (λ v. under (bind x v env) body) values) place [] r) own
            ∙ ap (λ vs. each (language c) (eval (language c)) form.at (map (λ v. under (bind x v (kept_names c cont kept)) body) vs) place [] r) (sym elements)
            ∙ ap (λ vs. each (language c) (eval (language c)) form.at (map (λ v. under (bind x v (kept_names c cont kept)) body) (reverse left)) place vs r) (sym made_is)
