-- A node at its next position: it is held before a plain one, or waits for another in a frame.
use Rattle.std.proofs.Common.{◌≡◌, refl, sym, ap, subst, ◌∙◌, inl, ℕ, zero, suc, ◌+◌, true, List, [], ◌∷◌, ◌++◌, Option, Some, None, drop, take, length, slice_get}
use Rattle.std.proofs.lemmas.Bool.{lt-ltb}
use Rattle.std.proofs.lemmas.Option.{none-some, slice_get_within}
use Rattle.std.specs.Option.{option_and_then, option_flatten, option_map}
use Rattle.std.specs.Prelude.{if◌then◌else◌, nat_lt}
use Rattle.lk_ast.specs.declared.place.Loc.{Loc}
use Rattle.lk_ast.specs.declared.place.Loc.TheVariants.{Client}
use Rattle.lk_ast.specs.declared.value.Value.{Value}
use Rattle.lk_evaluation.specs.Evaluation.{eval}
use Rattle.lk_evaluation.specs.Run.{Goes, Out, Run, Stops, and_then}
use Rattle.lk_fits.specs.Values.{FitEach}
use Rattle.lk_ir.specs.Continuing.{conts_at, parts_in}
use Rattle.lk_ir.specs.Environments.{lookup_all}
use Rattle.lk_ir.specs.Law.{IsContAt}
use Rattle.lk_ir.specs.LetNormal.{under}
use Rattle.lk_ir.specs.Tables.{names_of}
use Rattle.lk_ir.specs.Uses as used
use Rattle.lk_ir.specs.Uses.{Among, AreKept, KeepsJust, UsedBehind}
use Rattle.lk_ir.specs.declared.nodes.Cont.{Cont}
use Rattle.lk_ir.specs.declared.nodes.Form.{Form}
use Rattle.lk_moves.proofs.Framed.{moves_law}
use Rattle.lk_moves.specs.Frames.{Part, continued, resumed}
use Rattle.lk_types.proofs.Parts.{same_some}
use Rattle.lk_types.specs.declared.ground.Ground.{Ground}
use Rattle.lk_code.proofs.Holding.{holds_law}
use Rattle.lk_code.proofs.Places.{AreSplit, node_types_are, one_behind, split}
use Rattle.lk_code.proofs.Resuming.{resumes_law}
use Rattle.lk_code.proofs.Waiting.{IsNode, inverted}
use Rattle.lk_code.specs.Acting.{FitNames, IsPointOf}
use Rattle.lk_code.specs.Law.{frame}
use Rattle.lk_code.specs.Meaning.{goes_on, language, rest}
use Rattle.lk_code.specs.Parts.{AreTyped, Info}
use Rattle.lk_code.specs.Sound.{HasFrame, held_types, told_by}
use Rattle.lk_code.specs.Tables.{cont_at, first_frame, type_at}
use Rattle.lk_code.specs.Told.{node_types}
use Rattle.lk_code.specs.TypedLaw.{IsWhole}
use Rattle.lk_code.specs.Values.{IsFun}
use Rattle.lk_code.specs.declared.tables.CodeTables.{CodeTables}
use Rattle.lk_code.specs.declared.tables.Frame.{Frame}
use Rattle.lk_code.specs.declared.tables.Home.{Home}
use Rattle.lk_machine.proofs.Pushing.{comes_to, forward_part, pushed, stays_here, waits_for}
use Rattle.lk_machine.proofs.Rounds.{waiting_pushed}
use Rattle.lk_machine.proofs.Steady.{as_far, from_there, further_behind, keeps_at, matched_at, one_further, plain_at, point_at, split_at}
use Rattle.lk_machine.proofs.Taking.{moved}
use Rattle.lk_machine.specs.Going.{forward, waiting}
use Rattle.lk_machine.specs.Moves.{Leads, Moves}
use Rattle.lk_machine.specs.Stepped.{IsReturning}
use Rattle.lk_machine.specs.Typed.{AreFrames, IsHere, IsNext, IsNextPlain, IsNodeOf, IsPlace}
use Rattle.lk_machine.specs.declared.state.Held.{Held}
use Rattle.lk_machine.specs.declared.state.Next.TheVariants as next
use Rattle.lk_machine.specs.declared.state.Now.TheVariants as now
use Rattle.lk_machine.specs.declared.state.State.{State}

flat : {A : Type 0} (o : Option (Option A)) (x : A) → option_flatten o ≡ Some x → o ≡ Some (Some x)
flat None x is = absurd (none-some x is)
flat (Some o) x is = ap Some is

pub among_at : (xs : List ℕ) (n x : ℕ) → slice_get xs n ≡ Some x → Among x xs
among_at [] n x is = absurd (none-some x is)
among_at (y ∷ xs) zero x is = subst (λ z. Among z (y ∷ xs)) (same_some is) used.here
among_at (y ∷ xs) (suc n) x is = used.later (among_at xs n x is)

pub among_first : (x : ℕ) (xs ys : List ℕ) → Among x xs → Among x (xs ++ ys)
among_first x _ ys (used.here {xs = xs}) = used.here
among_first x _ ys (used.later {xs = xs} among) = used.later (among_first x xs ys among)

there_too : (xs ys : List ℕ) (n x : ℕ) → slice_get xs n ≡ Some x → slice_get (xs ++ ys) n ≡ Some x
there_too [] ys n x is = absurd (none-some x is)
there_too (y ∷ xs) ys zero x is = is
there_too (y ∷ xs) ys (suc n) x is = there_too xs ys n x is

-- ---- what stands at the position

module _ (c : CodeTables) (whole : IsWhole c) (place : Loc) (h : Held) (part : ℕ) (next_is : IsNext c h part) (t : Ground) (node : IsNodeOf c place t h) where
  abbrev n : ℕ
  n = length h.done

  abbrev info : ℕ → Option Info
  info = told_by c

  abbrev conts : List (Option Cont)
  conts = conts_at c.conts h.node

  abbrev parts : List ℕ
  parts = node.form.parts

  abbrev earlier : List ℕ
  earlier = take n parts

  abbrev later : List ℕ
  later = drop (suc n) parts

  pub position_at : slice_get parts n ≡ Some part
  position_at = subst (λ (form : Form). slice_get form.parts n ≡ Some part) (same_some (sym next_is.1 ∙ node.there)) next_is.2

  pub kept_all : AreKept c.forms node.form parts conts
  kept_all = whole.sound.named.each h.node node.form node.there

  abbrev inner : IsNode c.forms info node.context node.form t
  inner = inverted c.forms info node.context h.node node.form t node.there node.typed

  pub s : AreSplit c.forms info node.context earlier part later inner.ts
  s = split c.forms info node.context earlier part later inner.ts (subst (λ ks. AreTyped c.forms info node.context ks inner.ts) (split_at parts n part position_at) inner.parts)

  held_is : node.held ≡ s.before
  held_is = same_some (sym node.types ∙ node_types_are c.forms info node.context earlier s.before s.first)

  -- with the type of this position
  pub types_next : node_types c.forms (take (suc n) parts) ≡ Some (node.held ++ s.here ∷ [])
  types_next =
      ap (node_types c.forms) (one_further parts n part position_at)
      ∙ node_types_are c.forms info node.context (earlier ++ part ∷ []) (s.before ++ s.here ∷ []) (one_behind c.forms info node.context earlier part s.before s.here s.first s.one)
      ∙ ap (λ ts. Some (ts ++ s.here ∷ [])) (sym held_is)

  names_here : FitNames (IsFun c) (UsedBehind c.forms node.form (part ∷ later)) node.context h.scope
  names_here = subst (λ ks. FitNames (IsFun c) (UsedBehind c.forms node.form ks) node.context h.scope) (from_there parts n part position_at) node.names

  pub names_later : FitNames (IsFun c) (UsedBehind c.forms node.form later) node.context h.scope
  names_later x uses u told = names_here x (further_behind c.forms node.form part later x uses) u told

  pub part_typed : IsPointOf (IsFun c) c.forms info s.here (under h.scope part)
  part_typed = record { context = node.context; typed = s.one; names = λ x uses u told. names_here x (inl (used.first uses)) u told }

  pub part_here : IsHere c place part
  part_here = stays_here c whole place h.node part node.form node.there node.here (among_first part parts node.form.tails (among_at parts n part position_at))

  pub position_is : slice_get ((language c).parts (under h.scope h.node)) n ≡ Some (under h.scope part)
  position_is = ap (λ o. slice_get (parts_in c.forms c.conts o h.node h.scope) n) node.there ∙ point_at parts conts h.scope n part position_at node.steady

  pub waits_there : (r : Run) → resumed (language c) (under h.scope h.node) h.done place r ≡ and_then (eval (language c) (under h.scope part) place r) (continued (language c) (Part (under h.scope h.node) h.done place))
  waits_there r = (moves_law (language c)).waits (under h.scope h.node) (under h.scope part) h.done place r position_is

  -- ---- the position has a continuation

  module _ (cont : Cont) (is : cont_at c (record { node = h.node; position = n }) ≡ Some cont) where
    abbrev home : Home
    home = record { node = h.node; position = n }

    abbrev has : HasFrame c home node.form cont
    has = whole.sound.frames home node.form cont node.there is

    keeps : KeepsJust (UsedBehind c.forms node.form later) cont
    keeps = keeps_at c.forms node.form parts conts kept_all n part position_at cont is

    before_last : nat_lt n (length parts) ≡ true
    before_last = lt-ltb n (length parts) (slice_get_within parts n part position_at)

    held_are : held_types c.forms node.form n ≡ Some node.held
    held_are = ap (λ b. if b then node_types c.forms earlier else option_and_then (λ u. option_map (λ us. u ∷ us) (node_types c.forms parts)) (type_at c.forms node.form.ty)) before_last ∙ node.types

    -- the names that it keeps have values, and the frame holds what is told of it
    pub values_kept : (kept : List Value) × (lookup_all h.scope (names_of cont.keeps) ≡ Some kept) × FitEach (IsFun c) (h.done ++ kept) has.info.env
    values_kept =
        holds_law c whole home node.form cont has.info node.there is has.is node.context t node.typed h.scope (λ x among u told. names_later x ((keeps.just x).0 among) u told)
        h.done node.held held_are node.fit

    cont_there : IsContAt c.forms c.conts h.node n cont h.scope
    cont_there = record {
      form = node.form;
      there = node.there;
      earlier = earlier;
      position = part;
      later = later;
      parts = split_at parts n part position_at;
      many = as_far parts n part position_at;
      first = take n conts;
      rest = drop (suc n) conts;
      conts = split_at conts n (Some cont) (flat (slice_get conts n) cont is);
      matched = matched_at c.forms node.form parts conts kept_all n part position_at;
      steady = node.steady;
    }

    module _ (kept : List Value) (kept_is : lookup_all h.scope (names_of cont.keeps) ≡ Some kept) where
      abbrev pub waiting_frame : Frame
      waiting_frame = frame (first_frame c + cont.order) (h.done ++ kept)

      same_frame : forward c waiting_frame ≡ waiting_frame
      same_frame = forward_part c waiting_frame home node.form has.home node.there before_last

      frame_goes : (v : Value) (r : Run) → goes_on c place waiting_frame v r ≡ continued (language c) (Part (under h.scope h.node) h.done place) v r
      frame_goes v r = resumes_law c whole.sound home cont is h.scope h.done kept refl cont_there kept_is place v r

      handed_over : (stack : List Frame) (out : Out Value) → and_then (and_then out (continued (language c) (Part (under h.scope h.node) h.done place))) (rest c (waiting c stack) place) ≡ and_then out (rest c (waiting_frame ∷ waiting c stack) place)
      handed_over stack (Goes v r) = ap (λ out. and_then out (rest c (waiting c stack) place)) (sym (frame_goes v r))
      handed_over stack (Stops stop r) = refl

      -- what is left of the node is the position, and the frame behind it
      pub frame_waits : (stack : List Frame) (r : Run) → and_then (resumed (language c) (under h.scope h.node) h.done place r) (rest c (waiting c stack) place)
          ≡ and_then (eval (language c) (under h.scope part) place r) (rest c (waiting c (stack ++ waiting_frame ∷ [])) place)
      frame_waits stack r =
          ap (λ out. and_then out (rest c (waiting c stack) place)) (waits_there r)
          ∙ handed_over stack (eval (language c) (under h.scope part) place r)
          ∙ ap (λ fs. and_then (eval (language c) (under h.scope part) place r) (rest c fs place)) (sym (waiting_pushed c stack waiting_frame ∙ ap (λ f. f ∷ waiting c stack) same_frame))

      env_fits : FitEach (IsFun c) (forward c waiting_frame).env has.info.env
      env_fits = subst (λ (f : Frame). FitEach (IsFun c) f.env has.info.env) (sym same_frame) (subst (λ values. FitEach (IsFun c) (h.done ++ values) has.info.env) (same_some (sym values_kept.1 ∙ kept_is)) values_kept.2)

      pub frames_wait : (stack : List Frame) (u : Ground) → AreFrames c place (waiting c stack) t u → AreFrames c place (waiting c (stack ++ waiting_frame ∷ [])) s.here u
      frames_wait stack u frames = subst (λ hole. AreFrames c place (waiting c (stack ++ waiting_frame ∷ [])) hole u)
          (waits_for c whole place home node.form cont has.info node.there is has.is node.context part s.here (there_too parts node.form.tails n part position_at) s.one)
          (pushed c whole place home node.form cont has.info node.there is has.is node.here stack waiting_frame refl env_fits t u (comes_to c whole place home node.form cont has.info node.there is has.is node.context t node.typed) frames)

-- ---- machines

module _ (c : CodeTables) (whole : IsWhole c) (old : State) (h : Held) (part : ℕ) (next_is : IsNext c h part) where
  -- it is held before a position that has no continuation, which is plain
  module _ (none : cont_at c (record { node = h.node; position = length h.done }) ≡ None) where
    pub next_plain : IsNextPlain c h
    next_plain = (part, next_is, plain_at c.forms next_is.0 next_is.0.parts (conts_at c.conts h.node) (whole.sound.named.each h.node next_is.0 next_is.1) (length h.done) part next_is.2 none)

    pub hold_kept : IsPlace old.place → Moves c (λ t. IsNodeOf c old.place t h) old (record old { now = now.Hold h }) next.More
    hold_kept is_place t u node frames = (((t, record { place = is_place; next = (node, next_plain); frames = frames }, tt), not_back), refl)
      where
        not_back : old.place ≡ Client → IsReturning (record old { now = now.Hold h }) → ⊥
        not_back client back = let wrong : now.Hold h ≡ now.Give back.0 = back.2 in cc

  -- and waits for another one
  module _ (cont : Cont) (is : cont_at c (record { node = h.node; position = length h.done }) ≡ Some cont) (kept : List Value) (kept_is : lookup_all h.scope (names_of cont.keeps) ≡ Some kept) where
    abbrev pub waits : State
    waits = record old { stack = old.stack ++ frame (first_frame c + cont.order) (h.done ++ kept) ∷ []; now = now.Enter part h.scope }

    pub wait_leads : (t : Ground) → IsNodeOf c old.place t h → old.printed ≡ None → Leads c old (resumed (language c) (under h.scope h.node) h.done old.place) waits next.More
    wait_leads t node quiet = moved c old waits (resumed (language c) (under h.scope h.node) h.done old.place) quiet (frame_waits c whole old.place h part next_is t node cont is kept kept_is old.stack)

    pub wait_kept : IsPlace old.place → Moves c (λ t. IsNodeOf c old.place t h) old waits next.More
    wait_kept is_place t u node frames = (
      (
        (
          (s c whole old.place h part next_is t node).here,
          record {
            place = is_place;
            next = (part_typed c whole old.place h part next_is t node, part_here c whole old.place h part next_is t node);
            frames = frames_wait c whole old.place h part next_is t node cont is kept kept_is old.stack u frames;
          },
          tt,
        ),
        not_back,
      ),
      refl,
    )
      where
        not_back : old.place ≡ Client → IsReturning waits → ⊥
        not_back client back = let wrong : now.Enter part h.scope ≡ now.Give back.0 = back.2 in cc
