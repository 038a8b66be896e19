-- What a frame goes on with behind the value that it waited for: its node behind the position, or the elements that are left of a `for`.
use Rattle.std.proofs.Common.{◌≡◌, refl, sym, ap, subst, ◌∙◌, ℕ, zero, suc, ◌≤◌, List, [], ◌∷◌, ◌++◌, Option, Some, None, add-one, drop, take, length, length-append, map, arith}
use Rattle.std.proofs.lemmas.List.{reverse-reverse}
use Rattle.std.specs.Option.{option_and_then, option_map}
use Rattle.std.specs.Prelude.{if◌then◌else◌, reverse}
use Rattle.lk_ast.specs.declared.place.Loc.{Loc}
use Rattle.lk_ast.specs.declared.value.Value.{Value}
use Rattle.lk_ast.specs.declared.value.Value.TheVariants as value
use Rattle.lk_code.proofs.Waiting.{node_there, types}
use Rattle.lk_code.specs.Acting.{FitNames}
use Rattle.lk_code.specs.Meaning.{at_home, kept_names, language}
use Rattle.lk_code.specs.Parts.{IsTyped}
use Rattle.lk_code.specs.Sound.{IsFrameOf, told_by}
use Rattle.lk_code.specs.Tables.{type_at}
use Rattle.lk_code.specs.Told.{node_types}
use Rattle.lk_code.specs.TypedLaw.{IsNodeAt, IsWhole}
use Rattle.lk_code.specs.Values.{IsFun}
use Rattle.lk_code.specs.Waiting.{GoesOn, IsTurnOf}
use Rattle.lk_code.specs.declared.infos.FrameInfo.{FrameInfo}
use Rattle.lk_code.specs.declared.tables.CodeTables.{CodeTables}
use Rattle.lk_code.specs.declared.tables.Home.{Home}
use Rattle.lk_evaluation.specs.Evaluation.{each, eval, joined}
use Rattle.lk_evaluation.specs.Run.{Run}
use Rattle.lk_fits.proofs.Fitting.{fit_both}
use Rattle.lk_fits.proofs.Lists.{all_fit_both}
use Rattle.lk_fits.proofs.Shapes.{fits_list, list_fits, list_of_fits}
use Rattle.lk_fits.specs.Values.{AllFit, FitEach, Fits, none_left, one_more}
use Rattle.lk_ir.specs.Continuing.{conts_at}
use Rattle.lk_ir.specs.Environments.{Env, bind, bind_each, no_names}
use Rattle.lk_ir.specs.Law.{IsSteady}
use Rattle.lk_ir.specs.LetNormal.{Point, under}
use Rattle.lk_ir.specs.Tables.{names_of}
use Rattle.lk_ir.specs.Uses.{UsedBehind}
use Rattle.lk_ir.specs.declared.nodes.Cont.{Cont}
use Rattle.lk_ir.specs.declared.nodes.Form.{Form}
use Rattle.lk_ir.specs.declared.nodes.Kind.TheVariants as kind
use Rattle.lk_moves.specs.Frames as frames
use Rattle.lk_moves.specs.Frames.{resumed}
use Rattle.lk_operators.specs.Values.{list_in}
use Rattle.lk_types.proofs.Parts.{mapped, same_some}
use Rattle.lk_types.specs.declared.ground.Ground.{Ground}
use Rattle.lk_machine.proofs.Popping.{IsRound, as_turn, home_goes, list_is, listed, round_of, turn_is}
use Rattle.lk_machine.proofs.Rounds.{left_lists, left_twice}
use Rattle.lk_machine.proofs.Steady.{frame_steady}
use Rattle.lk_machine.proofs.Turning.{all_reversed, behind_all, other_list}
use Rattle.lk_machine.specs.Acts.{only_of}
use Rattle.lk_machine.specs.Going.{both_lists, left_round, lists_held}
use Rattle.lk_machine.specs.Moves.{Leads, Resumes, ResumesPart, goes_behind, unstepped}
use Rattle.lk_machine.specs.Typed.{IsNodeOf, IsTurning}
use Rattle.lk_machine.specs.declared.state.Held.{Held}
use Rattle.lk_machine.specs.declared.state.Next.{Next}
use Rattle.lk_machine.specs.declared.state.State.{State}

-- ---- behind a position

taken_within : (n : ℕ) (xs : List Value) → length (take n xs) ≡ n → n ≤ length xs
taken_within zero xs long = omega arith
taken_within (suc n) [] long = absurd (omega (arith, long))
taken_within (suc n) (x ∷ xs) long = let inner : n ≤ length xs = taken_within n xs (omega (arith, long)) in omega (arith, inner)

module _ (c : CodeTables) (whole : IsWhole c) (place : Loc) (h : Home) (cont : Cont) (env : List Value) (v : Value) (t : Ground) (at : ResumesPart c place h cont env v t) where
  node : IsNodeAt c h at.0 cont at.2.3 env
  node = node_there c whole h at.0 cont at.2.3 at.2.1 at.2.2 at.2.4 env place at.1 at.2.5

  pub long_enough : h.position ≤ length env
  long_enough = taken_within h.position env node.long

  abbrev names : Env
  names = kept_names c cont (drop h.position env)

  abbrev done : List Value
  done = take h.position env ++ v ∷ []

  one_further : length done ≡ suc h.position
  one_further = length-append (take h.position env) (v ∷ []) ∙ add-one (length (take h.position env)) ∙ ap suc node.long

  -- the node has one value more
  abbrev pub resumed_node : Held
  resumed_node = record { node = h.node; scope = names; done = done }

  resumes : IsNodeOf c place t resumed_node
  resumes = record {
    here = at.2.0;
    form = at.0;
    there = at.2.1;
    context = node.context;
    typed = subst (IsTyped c.forms (told_by c) node.context h.node) at.2.7 node.typed;
    names = subst (λ n. FitNames (IsFun c) (UsedBehind c.forms at.0 (drop n at.0.parts)) node.context names) (sym one_further) node.names;
    held = node.held ++ at.2.3.hole ∷ [];
    types = subst (λ n. node_types c.forms (take n at.0.parts) ≡ Some (node.held ++ at.2.3.hole ∷ [])) (sym one_further) node.types;
    fit = fit_both (IsFun c) (take h.position env) (v ∷ []) node.held (at.2.3.hole ∷ []) node.fit (one_more at.2.6 none_left);
    steady = subst (λ n. IsSteady (take n (conts_at c.conts h.node)) names) (sym one_further) (frame_steady c whole.sound h at.0 cont at.2.1 at.2.2 (drop h.position env));
  }

  -- as code makes it
  module _ (both : List Value × List Value) (many : List Value) (scope start : Env) (xs : List ℕ) (cut : both ≡ (take h.position env, drop h.position env)) (more : many ≡ both.0 ++ v ∷ []) (empty : start ≡ no_names) (kept : xs ≡ names_of cont.keeps)
      (bound : scope ≡ bind_each start xs both.1) where
    same_node : record { node = h.node; scope = scope; done = many } ≡ resumed_node
    same_node =
        ap (λ vs. record { node = h.node; scope = scope; done = vs }) (more ∙ ap (λ (b : List Value × List Value). b.0 ++ v ∷ []) cut)
        ∙ ap (λ e. record { node = h.node; scope = e; done = done })
        (bound ∙ ap (λ e. bind_each e xs both.1) empty ∙ ap (λ ns. bind_each no_names ns both.1) kept ∙ ap (λ (b : List Value × List Value). bind_each no_names (names_of cont.keeps) b.1) cut)

    pub resumes_so : IsNodeOf c place t (record { node = h.node; scope = scope; done = many })
    resumes_so = subst (IsNodeOf c place t) (sym same_node) resumes

    pub leads_so : (old new : State) (answer : Next) → Leads c old (resumed (language c) (under scope h.node) many place) new answer → Leads c old (resumed (language c) (under names h.node) done place) new answer
    leads_so old new answer = subst (λ (held : Held). Leads c old (resumed (language c) (under held.scope held.node) held.done place) new answer) same_node

-- ---- at the body of a `for`

pub held_is : (env made left kept : List Value) → lists_held env ≡ Some (made, left, kept) → env ≡ value.List made ∷ value.List left ∷ kept
held_is [] made left kept is = cc
held_is (m ∷ []) made left kept is = cc
held_is (m ∷ l ∷ others) made left kept is = by_lists (list_in m) (list_in l) refl refl is
  where
    by_lists : (o p : Option (List Value)) → list_in m ≡ o → list_in l ≡ p → both_lists o p others ≡ Some (made, left, kept) → m ∷ l ∷ others ≡ value.List made ∷ value.List left ∷ kept
    by_lists None p first second is = cc
    by_lists (Some a) None first second is = cc
    by_lists (Some a) (Some b) first second is =
        let same = same_some is in
        ap (λ w. w ∷ l ∷ others) (list_is m a first)
        ∙ ap (λ w. value.List a ∷ w ∷ others) (list_is l b second)
        ∙ ap (λ (parts : List Value × List Value × List Value). value.List parts.0 ∷ value.List parts.1 ∷ parts.2) same

pub one_is : (ks : List ℕ) (k : ℕ) → only_of ks ≡ Some k → ks ≡ k ∷ []
one_is [] k is = cc
one_is (j ∷ []) k is = ap (λ i. i ∷ []) (same_some is)
one_is (j ∷ i ∷ ks) k is = cc

module _ (IsFun : ℕ → Ground → List Ground → Type 0) where
  other_both : (made others left rest kept : List Value) (t : Ground) (ts : List Ground) → Fits IsFun (value.List others) t → ((a : Ground) → AllFit IsFun left a → AllFit IsFun rest a)
      → FitEach IsFun (value.List made ∷ value.List left ∷ kept) (t ∷ ts) → FitEach IsFun (value.List others ∷ value.List rest ∷ kept) (t ∷ ts)
  other_both made others left rest kept t _ fits keeps (one_more one (one_more {t = s} two more)) = one_more fits (one_more (other_list IsFun left rest s keeps two) more)

module _ (c : CodeTables) (whole : IsWhole c) (place : Loc) (node : ℕ) (form : Form) (cont : Cont) (env : List Value) (v : Value) (t : Ground) (at : Resumes c place (record { node = node; position = length form.parts }) form cont (left_round env) v t) where
  abbrev home : Home
  home = record { node = node; position = length form.parts }

  abbrev i : FrameInfo
  i = at.3

  abbrev IsGoing : Option (frames.Frame Point) → Type 0
  IsGoing frame = GoesOn (IsFun c) c.forms (told_by c) c.conts i.hole i.result frame

  -- ---- what is there

  round : IsRound c home form (left_round env)
  round = round_of c place home form cont whole at.1 at.2 i at.4 (behind_all (length form.parts)) (left_round env) at.5

  pub is_for : (x : ℕ) × (form.kind ≡ kind.For x)
  is_for = (round.x, round.for)

  pub has_body : (body : ℕ) × (only_of form.tails ≡ Some body)
  has_body = (round.body, ap only_of round.tail)

  pub has_lists : (parts : List Value × List Value × List Value) × (lists_held env ≡ Some parts)
  has_lists = (
    (round.made, reverse round.left, round.kept),
    ap lists_held (sym (left_twice env) ∙ ap left_round round.held ∙ left_lists round.made round.left round.kept)
        ∙ ap (λ o. both_lists o (list_in (value.List (reverse round.left))) round.kept) (listed round.made)
        ∙ ap (λ o. both_lists (Some round.made) o round.kept) (listed (reverse round.left)),
  )

  turn_of_types : (x body : ℕ) → form.kind ≡ kind.For x → form.tails ≡ body ∷ [] → (made left kept : List Value) → left_round env ≡ value.List made ∷ value.List left ∷ kept → IsGoing (Some (as_turn c place home form cont x body made left kept))
  turn_of_types x body for tail made left kept seen =
      subst IsGoing (ap (at_home c place home form cont) seen ∙ turn_is c place home form cont x body for tail (behind_all (length form.parts)) made left kept)
      (home_goes c place home form cont whole at.1 at.2 i at.4 (left_round env) at.5)

  pub has_values : (values : List Value) × (list_in v ≡ Some values)
  has_values =
      let goes : IsTurnOf (IsFun c) c.forms (told_by c) c.conts i.hole i.result (map (λ w. under (bind round.x w (kept_names c cont round.kept)) round.body) round.left) round.made =
      turn_of_types round.x round.body round.for round.tail round.made round.left round.kept round.held in
      let found = list_of_fits (IsFun c) v goes.of (subst (Fits (IsFun c) v) goes.hole_is at.6) in
      (found.0, found.1)

  -- ---- its first value is of the type that it comes to

  frame_types : IsFrameOf c.forms form (length form.parts) cont i
  frame_types = types c whole home form cont i at.1 at.2 at.4 (left_round env) place

  first_type : (ts : List Ground) × (i.env ≡ i.result ∷ ts)
  first_type =
      let all = mapped (λ ts. i.result ∷ ts) (node_types c.forms form.parts) frame_types.held
      (sym (ap (λ b. if b then node_types c.forms (take (length form.parts) form.parts) else option_and_then (λ s. option_map (λ ts. s ∷ ts) (node_types c.forms form.parts)) (type_at c.forms form.ty)) (behind_all (length form.parts))
      ∙ ap (option_and_then (λ s. option_map (λ ts. s ∷ ts) (node_types c.forms form.parts))) frame_types.result) ∙ frame_types.held_are) in
      (all.0 ++ frame_types.kept, frame_types.env ∙ ap (λ ts. ts ++ frame_types.kept) all.2)

  -- ---- the list of the body behind those made so far

  module _ (x body : ℕ) (values made left kept all : List Value) (for : form.kind ≡ kind.For x) (tail : form.tails ≡ body ∷ []) (value_is : v ≡ value.List values) (held : env ≡ value.List made ∷ value.List left ∷ kept) (all_is : all ≡ made ++ values) where
    seen : left_round env ≡ value.List made ∷ value.List (reverse left) ∷ kept
    seen = ap left_round held ∙ left_lists made left kept

    goes : IsTurnOf (IsFun c) c.forms (told_by c) c.conts i.hole i.result (map (λ w. under (bind x w (kept_names c cont kept)) body) (reverse left)) made
    goes = turn_of_types x body for tail made (reverse left) kept seen

    values_fit : AllFit (IsFun c) values goes.of
    values_fit =
        let found = fits_list (IsFun c) v goes.of (subst (Fits (IsFun c) v) goes.hole_is at.6) in
        subst (λ vs. AllFit (IsFun c) vs goes.of) (same_some (sym (listed found.0) ∙ ap list_in (sym found.1 ∙ value_is) ∙ listed values)) found.2

    all_fits : Fits (IsFun c) (value.List all) i.result
    all_fits = subst (Fits (IsFun c) (value.List all)) (sym goes.result_is) (list_fits (IsFun c) all goes.of (subst (λ vs. AllFit (IsFun c) vs goes.of) (sym all_is) (all_fit_both (IsFun c) made values goes.of goes.fit values_fit)))

    pub turns_again : IsTurning c place t node form x body cont all left kept
    turns_again = record {
      here = at.0;
      there = at.1;
      kind = for;
      tail = tail;
      is = at.2;
      info = i;
      told = at.4;
      result = at.7;
      fit = subst (FitEach (IsFun c) (value.List all ∷ value.List left ∷ kept)) (sym first_type.1)
          (other_both (IsFun c) made all (reverse left) left kept i.result first_type.0 all_fits (λ a fit. subst (λ vs. AllFit (IsFun c) vs a) (reverse-reverse left) (all_reversed (IsFun c) (reverse left) a fit))
          (subst (FitEach (IsFun c) (value.List made ∷ value.List (reverse left) ∷ kept)) first_type.1 (subst (λ vs. FitEach (IsFun c) vs i.env) seen at.5)));
    }

    pub goes_again : (r : Run) → goes_behind c place node form cont (left_round env) v r ≡ each (language c) (eval (language c)) form.at (map (λ w. under (bind x w (kept_names c cont kept)) body) (reverse left)) place all r
    goes_again r =
        let others : List Point = map (λ w. under (bind x w (kept_names c cont kept)) body) (reverse left) in
        ap (λ vs. unstepped (at_home c place home form cont vs) v c r) seen
        ∙ ap (λ o. unstepped o v c r) (turn_is c place home form cont x body for tail (behind_all (length form.parts)) made (reverse left) kept)
        ∙ ap (λ w. joined form.at made (list_in w) (each (language c) (eval (language c)) form.at others place) r) value_is
        ∙ ap (λ o. joined form.at made o (each (language c) (eval (language c)) form.at others place) r) (listed values)
        ∙ ap (λ vs. each (language c) (eval (language c)) form.at others place vs r) (sym all_is)
