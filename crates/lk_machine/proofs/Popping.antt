-- A machine without its next frame: what that frame goes on with, and what the others wait for.
use Rattle.std.proofs.Common.{◌≡◌, refl, sym, ap, subst, ◌∙◌, ℕ, zero, suc, ◌+◌, true, false, List, [], ◌∷◌, ◌++◌, Option, Some, None, drop, take, length, map, slice_get, arith}
use Rattle.std.proofs.lemmas.Bool.Decides.{nat_tests}
use Rattle.std.proofs.lemmas.Option.{none-some}
use Rattle.std.specs.Option.{option_and_then, option_flatten}
use Rattle.std.specs.Prelude.{if◌then◌else◌, nat_lt}
use Rattle.lk_ast.specs.declared.place.Loc.{Loc}
use Rattle.lk_ast.specs.declared.value.Field.{Field}
use Rattle.lk_ast.specs.declared.value.FunValue.{FunValue}
use Rattle.lk_ast.specs.declared.value.Value.{Value, out-Value, roll-Value, roll-out-Value}
use Rattle.lk_ast.specs.declared.value.Value.TheOpen.{Value-F}
use Rattle.lk_ast.specs.declared.value.Value.TheVariants as value
use Rattle.lk_code.proofs.Places.{turned_is}
use Rattle.lk_code.proofs.Resuming.{goes}
use Rattle.lk_code.proofs.Waiting.{frame_goes}
use Rattle.lk_code.specs.Law.{frame}
use Rattle.lk_code.specs.Meaning.{at_home, continues_as, frame_meant, goes_on, kept_names, language, part_meant, rest, turn_meant, turn_of}
use Rattle.lk_code.specs.Running.{is_at}
use Rattle.lk_code.specs.Sound.{HasFrame, IsNumbered, told_by}
use Rattle.lk_code.specs.Tables.{cont_at, first_frame, frame_info, fun_info, home_of}
use Rattle.lk_code.specs.TypedLaw.{IsWhole}
use Rattle.lk_code.specs.Values.{IsFun}
use Rattle.lk_code.specs.Waiting.{GoesOn}
use Rattle.lk_code.specs.declared.infos.FrameInfo.{FrameInfo}
use Rattle.lk_code.specs.declared.infos.FunInfo.{FunInfo}
use Rattle.lk_code.specs.declared.tables.CodeTables.{CodeTables}
use Rattle.lk_code.specs.declared.tables.Frame.{Frame}
use Rattle.lk_code.specs.declared.tables.Home.{Home}
use Rattle.lk_evaluation.specs.Evaluation.{each, eval, handed, joined}
use Rattle.lk_evaluation.specs.Run.{Goes, Run, and_then, step}
use Rattle.lk_fits.specs.Values.{FitEach}
use Rattle.lk_ir.specs.Continuing.{conts_at, going, narrowed, parts_in}
use Rattle.lk_ir.specs.Environments.{Env, bind}
use Rattle.lk_ir.specs.LetNormal.{Point, plain_in, under}
use Rattle.lk_ir.specs.Tables.{form_at}
use Rattle.lk_ir.specs.Uses.{AreKept, IsTurnKept, turned}
use Rattle.lk_ir.specs.declared.nodes.Cont.{Cont}
use Rattle.lk_ir.specs.declared.nodes.Form.{Form}
use Rattle.lk_ir.specs.declared.nodes.Forms.{Forms}
use Rattle.lk_ir.specs.declared.nodes.Kind.TheVariants as kind
use Rattle.lk_moves.proofs.Courses.{takes_from}
use Rattle.lk_moves.proofs.Framed.{steps}
use Rattle.lk_moves.specs.Courses.{Evaluation, Takes, one_step}
use Rattle.lk_moves.specs.Frames as frames
use Rattle.lk_moves.specs.Frames.{continued, handed_by, resumed}
use Rattle.lk_operators.specs.Values.{list_in}
use Rattle.lk_types.proofs.Parts.{same_some}
use Rattle.lk_types.specs.declared.ground.Ground.{Ground}
use Rattle.lk_machine.proofs.Rounds.{forward_number, waiting_length, waiting_pushed}
use Rattle.lk_machine.specs.Going.{forward, waiting}
use Rattle.lk_machine.specs.Moves.{then_frames, unstepped}
use Rattle.lk_machine.specs.Typed.{AreFrames, IsHere}
use Rattle.lk_machine.specs.declared.state.State.{State}

-- ---- the next frame and the others

module _ (c : CodeTables) where
  none_waiting : (stack : List Frame) → waiting c stack ≡ [] → stack ≡ []
  none_waiting stack none = by_length stack (sym (waiting_length c stack) ∙ ap length none)
    where
      by_length : (fs : List Frame) → length fs ≡ 0 → fs ≡ []
      by_length [] is = refl
      by_length (f ∷ fs) is = absurd (let e : ⊥ = omega arith in e)

  -- the first one of those that wait
  some_waiting : (stack : List Frame) → (stack ≡ [] → ⊥) → (f : Frame) × (fs : List Frame) × (waiting c stack ≡ f ∷ fs)
  some_waiting stack some = by_case (waiting c stack) refl
    where
      by_case : (fs : List Frame) → waiting c stack ≡ fs → (f : Frame) × (gs : List Frame) × (waiting c stack ≡ f ∷ gs)
      by_case [] none = absurd (some (none_waiting stack none))
      by_case (f ∷ fs) is = (f, fs, is)

  -- the position of a node that a frame stands for
  pub record IsHomed (f : Frame) : Type 0 where
    pub home : Home
    pub form : Form
    pub cont : Cont
    pub homed : home_of c f.number ≡ Some home
    pub there : form_at c.forms home.node ≡ Some form
    pub is : cont_at c home ≡ Some cont
    pub numbered : f.number ≡ first_frame c + cont.order

  -- A frame that waits at this position for a value of a type, with others behind it that wait for what it comes to.
  pub record IsPopped (place : Loc) (f : Frame) (others : List Frame) (t u : Ground) (h : Home) (form : Form) (cont : Cont) : Type 0 where
    pub numbered : f.number ≡ first_frame c + cont.order
    pub info : FrameInfo
    pub told : frame_info c (first_frame c + cont.order) ≡ Some info
    pub hole : info.hole ≡ t
    pub fit : FitEach (IsFun c) f.env info.env
    pub here : IsHere c place h.node
    pub frames : AreFrames c place others info.result u

  module _ (whole : IsWhole c) (place : Loc) where
    -- what a frame is told to run at is where the function runs that its node stands in
    here_at : (h : Home) (form : Form) (cont : Cont) (i : FrameInfo) → form_at c.forms h.node ≡ Some form → cont_at c h ≡ Some cont → frame_info c (first_frame c + cont.order) ≡ Some i → is_at i.place place ≡ true → IsHere c place h.node
    here_at h form cont i there is told runs other within there_too within_is =
        let has : HasFrame c h form cont = whole.sound.frames h form cont there is in
        let same_form : form ≡ other = same_some (sym there ∙ there_too) in
        let same_fun : has.within ≡ within = same_some (sym has.within_is ∙ ap (λ (one : Form). fun_info c one.within) same_form ∙ within_is) in
        let same_info : i ≡ has.info = same_some (sym told ∙ has.is) in
        subst (λ mark. is_at mark place ≡ true) (ap (λ (one : FrameInfo). one.place) same_info ∙ has.place ∙ ap (λ (one : FunInfo). one.place) same_fun) runs

    pub homed_of : (f g : Frame) (fs : List Frame) (t u : Ground) → AreFrames c place (f ∷ g ∷ fs) t u → IsHomed f
    homed_of f g fs t u all =
        let at : IsNumbered c f.number = whole.sound.homes f.number all.chained.0 all.chained.1 all.chained.3 in
        record {
          home = at.home;
          form = at.form;
          cont = at.cont;
          homed = ap (home_of c) at.numbered ∙ (whole.sound.frames at.home at.form at.cont at.there at.is).home;
          there = at.there;
          is = at.is;
          numbered = at.numbered;
        }

    pub popped_of : (f g : Frame) (fs : List Frame) (t u : Ground) → AreFrames c place (f ∷ g ∷ fs) t u
        → (h : Home) (form : Form) (cont : Cont) → home_of c f.number ≡ Some h → form_at c.forms h.node ≡ Some form → cont_at c h ≡ Some cont → IsPopped place f (g ∷ fs) t u h form cont
    popped_of f g fs t u all h form cont homed there is =
        let at : IsHomed f = homed_of f g fs t u all in
        let same : at.cont ≡ cont = same_some (sym at.is ∙ ap (cont_at c) (same_some (sym at.homed ∙ homed)) ∙ is) in
        let number : f.number ≡ first_frame c + cont.order = at.numbered ∙ ap (λ (one : Cont). first_frame c + one.order) same in
        let told : frame_info c (first_frame c + cont.order) ≡ Some all.chained.0 = sym (ap (frame_info c) number) ∙ all.chained.1 in
        record {
          numbered = number;
          info = all.chained.0;
          told = told;
          hole = all.chained.2;
          fit = all.held.0 all.chained.0 all.chained.1;
          here = here_at h form cont all.chained.0 there is told (all.placed.0 all.chained.0 all.chained.1);
          frames = record { chained = all.chained.4; held = all.held.1; placed = all.placed.1; returns = all.returns };
        }

    -- where another one waits behind it
    module _ (f : Frame) (stack : List Frame) (t u : Ground) (some : stack ≡ [] → ⊥) (all : AreFrames c place (waiting c (stack ++ f ∷ [])) t u) where
      two : (g : Frame) × (gs : List Frame) × (waiting c stack ≡ g ∷ gs)
      two = some_waiting stack some

      both : AreFrames c place (forward c f ∷ two.0 ∷ two.1) t u
      both = subst (λ fs. AreFrames c place (forward c f ∷ fs) t u) two.2 (subst (λ fs. AreFrames c place fs t u) (waiting_pushed c stack f) all)

      pub homed : IsHomed f
      homed =
          let at : IsHomed (forward c f) = homed_of (forward c f) two.0 two.1 t u both in
          record { home = at.home; form = at.form; cont = at.cont; homed = ap (home_of c) (sym (forward_number c f)) ∙ at.homed; there = at.there; is = at.is; numbered = sym (forward_number c f) ∙ at.numbered }

      pub popped : (h : Home) (form : Form) (cont : Cont) → home_of c f.number ≡ Some h → form_at c.forms h.node ≡ Some form → cont_at c h ≡ Some cont → IsPopped place (forward c f) (waiting c stack) t u h form cont
      popped h form cont homed there is =
          subst (λ fs. IsPopped place (forward c f) fs t u h form cont) (sym two.2) (popped_of (forward c f) two.0 two.1 t u both h form cont (ap (home_of c) (forward_number c f) ∙ homed) there is)

-- ---- lists

pub listed : (values : List Value) → ◌≡◌ {A = Option (List Value)} (list_in (value.List values)) (Some values)
listed values = simp (value.outs-List)

no_list : (v w : Value) (values : List Value) → v ≡ w → list_in w ≡ None → list_in v ≡ Some values → ⊥
no_list v w values is none shows = none-some values (sym none ∙ ap list_in (sym is) ∙ shows)

by_level : (x : Value-F Value Field FunValue) (v : Value) (values : List Value) → v ≡ roll-Value x → list_in v ≡ Some values → v ≡ value.List values
by_level (Value-F.List others) v values is shows =
    let same : v ≡ value.List others = is ∙ value.rolls-List others in
    same ∙ ap value.List (same_some (sym (listed others) ∙ ap list_in (sym same) ∙ shows))
by_level (Value-F.Base b) v values is shows = absurd (no_list v (value.Base b) values (is ∙ value.rolls-Base b) (simp (value.outs-Base)) shows)
by_level (Value-F.Fields fs) v values is shows = absurd (no_list v (value.Fields fs) values (is ∙ value.rolls-Fields fs) (simp (value.outs-Fields)) shows)
by_level (Value-F.Tag tag held) v values is shows = absurd (no_list v (value.Tag tag held) values (is ∙ value.rolls-Tag tag held) (simp (value.outs-Tag)) shows)
by_level (Value-F.Fun f) v values is shows = absurd (no_list v (value.Fun f) values (is ∙ value.rolls-Fun f) (simp (value.outs-Fun)) shows)

-- a value that shows a list is it
pub list_is : (v : Value) (values : List Value) → list_in v ≡ Some values → v ≡ value.List values
list_is v values shows = by_level (out-Value v) v values (sym (roll-out-Value v)) shows

-- ---- positions with a continuation aren't plain

position_steps : (f : Forms) (form : Form) (cont : Cont) (ks : List ℕ) (cs : List (Option Cont)) (n : ℕ) → AreKept f form ks cs → option_flatten (slice_get cs n) ≡ Some cont → nat_lt n (length ks) ≡ true → (names : Env)
    → (p : Point) × (slice_get (going ks cs names) n ≡ Some p) × (plain_in f (form_at f p.node) ≡ false)
position_steps f form cont [] cs n kept is below names = absurd (let e : ⊥ = grind (arith, nat_tests) in e)
position_steps f form cont (k ∷ ks) [] n kept is below names = absurd kept
position_steps f form cont (k ∷ ks) (None ∷ cs) zero kept is below names = absurd (none-some cont is)
position_steps f form cont (k ∷ ks) (None ∷ cs) (suc n) kept is below names = position_steps f form cont ks cs n kept.1 is (let e : nat_lt n (length ks) ≡ true = grind (arith, nat_tests) in e) names
position_steps f form cont (k ∷ ks) (Some d ∷ cs) zero kept is below names = (under names k, refl, kept.0)
position_steps f form cont (k ∷ ks) (Some d ∷ cs) (suc n) kept is below names = position_steps f form cont ks cs n kept.2 is (let e : nat_lt n (length ks) ≡ true = grind (arith, nat_tests) in e) (narrowed (Some d) names)

-- behind all positions it is the body of a `for`, which isn't plain
pub record IsTurnBehind (f : Forms) (form : Form) (ks : List ℕ) (n : ℕ) : Type 0 where
  pub body : ℕ
  pub turn : turned form.kind form.tails ≡ Some body
  pub steps : plain_in f (form_at f body) ≡ false
  pub last : n ≡ length ks

module _ (f : Forms) (form : Form) (cont : Cont) where
  turn_there : (o : Option ℕ) → turned form.kind form.tails ≡ o → (cs : List (Option Cont)) → IsTurnKept f form o cs → (n : ℕ) → option_flatten (slice_get cs n) ≡ Some cont → IsTurnBehind f form [] n
  turn_there None turn [] kept n is = absurd (none-some cont is)
  turn_there None turn (d ∷ cs) kept n is = absurd kept
  turn_there (Some body) turn [] kept n is = absurd kept
  turn_there (Some body) turn (None ∷ []) kept zero is = absurd (none-some cont is)
  turn_there (Some body) turn (None ∷ []) kept (suc n) is = absurd (none-some cont is)
  turn_there (Some body) turn (None ∷ d ∷ cs) kept n is = absurd kept
  turn_there (Some body) turn (Some d ∷ []) kept zero is = record { body = body; turn = turn; steps = kept.0; last = refl }
  turn_there (Some body) turn (Some d ∷ []) kept (suc n) is = absurd (none-some cont is)
  turn_there (Some body) turn (Some d ∷ e ∷ cs) kept n is = absurd kept

  further : (k : ℕ) (ks : List ℕ) (n : ℕ) → IsTurnBehind f form ks n → IsTurnBehind f form (k ∷ ks) (suc n)
  further k ks n at = record { body = at.body; turn = at.turn; steps = at.steps; last = ap suc at.last }

  turn_behind : (ks : List ℕ) (cs : List (Option Cont)) → AreKept f form ks cs → (n : ℕ) → option_flatten (slice_get cs n) ≡ Some cont → nat_lt n (length ks) ≡ false → IsTurnBehind f form ks n
  turn_behind [] cs kept n is behind = turn_there (turned form.kind form.tails) refl cs kept n is
  turn_behind (k ∷ ks) [] kept n is behind = absurd kept
  turn_behind (k ∷ ks) (d ∷ cs) kept zero is behind = absurd (let e : ⊥ = grind (arith, nat_tests) in e)
  turn_behind (k ∷ ks) (None ∷ cs) kept (suc n) is behind = further k ks n (turn_behind ks cs kept.1 n is (let e : nat_lt n (length ks) ≡ false = grind (arith, nat_tests) in e))
  turn_behind (k ∷ ks) (Some d ∷ cs) kept (suc n) is behind = further k ks n (turn_behind ks cs kept.2 n is (let e : nat_lt n (length ks) ≡ false = grind (arith, nat_tests) in e))

-- ---- what a frame goes on with

-- the frame of a `for` at its body, by what it holds
pub record IsRound (c : CodeTables) (h : Home) (form : Form) (env : List Value) : Type 0 where
  pub x : ℕ
  pub body : ℕ
  pub for : form.kind ≡ kind.For x
  pub tail : form.tails ≡ body ∷ []
  pub steps : plain_in c.forms (form_at c.forms body) ≡ false
  pub last : h.position ≡ length form.parts
  pub made : List Value
  pub left : List Value
  pub kept : List Value
  pub held : env ≡ value.List made ∷ value.List left ∷ kept

module _ (c : CodeTables) (place : Loc) (h : Home) (form : Form) (cont : Cont) where
  part_home : nat_lt h.position (length form.parts) ≡ true → (env : List Value) → at_home c place h form cont env ≡ Some (part_meant c place h cont env)
  part_home before env = ap (λ b. if b then Some (part_meant c place h cont env) else turn_meant c place form form.kind form.tails cont env) before

  turn_home : nat_lt h.position (length form.parts) ≡ false → (env : List Value) → at_home c place h form cont env ≡ turn_meant c place form form.kind form.tails cont env
  turn_home behind env = ap (λ b. if b then Some (part_meant c place h cont env) else turn_meant c place form form.kind form.tails cont env) behind

  -- what is left of a `for`
  abbrev pub as_turn : ℕ → ℕ → List Value → List Value → List Value → frames.Frame Point
  as_turn x body made left kept = frames.Turn form.at (under (kept_names c cont kept) body) (map (λ w. under (bind x w (kept_names c cont kept)) body) left) place made

  pub turn_is : (x body : ℕ) → form.kind ≡ kind.For x → form.tails ≡ body ∷ [] → nat_lt h.position (length form.parts) ≡ false → (made left kept : List Value)
      → at_home c place h form cont (value.List made ∷ value.List left ∷ kept) ≡ Some (as_turn x body made left kept)
  turn_is x body for tail behind made left kept =
      turn_home behind (value.List made ∷ value.List left ∷ kept)
      ∙ ap (λ k. turn_meant c place form k form.tails cont (value.List made ∷ value.List left ∷ kept)) for
      ∙ ap (λ ns. turn_meant c place form (kind.For x) ns cont (value.List made ∷ value.List left ∷ kept)) tail
      ∙ ap (λ o. turn_of c place form x body (kept_names c cont kept) o (list_in (value.List left))) (listed made)
      ∙ ap (λ o. turn_of c place form x body (kept_names c cont kept) (Some made) o) (listed left)

  module _ (whole : IsWhole c) (there : form_at c.forms h.node ≡ Some form) (is : cont_at c h ≡ Some cont) where
    meant : (env : List Value) → frame_meant c place (frame (first_frame c + cont.order) env) ≡ at_home c place h form cont env
    meant env =
        ap (λ o. option_and_then (λ h. option_and_then (λ form. option_and_then (λ cont. at_home c place h form cont env) (cont_at c h)) (form_at c.forms h.node)) o) (whole.sound.frames h form cont there is).home
        ∙ ap (λ o. option_and_then (λ form. option_and_then (λ cont. at_home c place h form cont env) (cont_at c h)) o) there
        ∙ ap (λ o. option_and_then (λ cont. at_home c place h form cont env) o) is

    abbrev Goes_on : FrameInfo → Option (frames.Frame Point) → Type 0
    Goes_on i frame = GoesOn (IsFun c) c.forms (told_by c) c.conts i.hole i.result frame

    -- by types
    pub home_goes : (i : FrameInfo) → frame_info c (first_frame c + cont.order) ≡ Some i → (env : List Value) → FitEach (IsFun c) env i.env → Goes_on i (at_home c place h form cont env)
    home_goes i told env fit = subst (Goes_on i) (meant env) (frame_goes c whole h form cont i there is told env place fit)

    -- ---- at a position

    -- the value is handed on in a step
    pub part_steps : nat_lt h.position (length form.parts) ≡ true → (env : List Value) → length (take h.position env) ≡ h.position → (v : Value) (r : Run)
        → continues_as c (at_home c place h form cont env) v r ≡ resumed (language c) (under (kept_names c cont (drop h.position env)) h.node) (take h.position env ++ v ∷ []) place (step r)
    part_steps before env long v r =
        let names : Env = kept_names c cont (drop h.position env) in
        let at = position_steps c.forms form cont form.parts (conts_at c.conts h.node) h.position (whole.sound.named.each h.node form there) is before names in
        let found : slice_get ((language c).parts (under names h.node)) (length (take h.position env)) ≡ Some at.0 =
        ap (λ o. slice_get (parts_in c.forms c.conts o h.node names) (length (take h.position env))) there ∙ ap (slice_get (going form.parts (conts_at c.conts h.node) names)) long ∙ at.1 in
        let ran : handed_by (language c) (slice_get ((language c).parts (under names h.node)) (length (take h.position env))) r ≡ step r =
        ap (λ o. handed_by (language c) o r) found ∙ ap (λ b. handed b r) at.2 in
        ap (λ o. continues_as c o v r) (part_home before env) ∙ ap (resumed (language c) (under names h.node) (take h.position env ++ v ∷ []) place) ran

    -- ---- at the body of a `for`

    held_lists : (i : FrameInfo) (x body : ℕ) (env : List Value) → Goes_on i (turn_meant c place form (kind.For x) (body ∷ []) cont env) → (made left kept : List Value) × (env ≡ value.List made ∷ value.List left ∷ kept)
    held_lists i x body [] goes = absurd goes
    held_lists i x body (m ∷ []) goes = absurd goes
    held_lists i x body (m ∷ l ∷ kept) goes = by_lists (list_in m) (list_in l) refl refl goes
      where
        by_lists : (o p : Option (List Value)) → list_in m ≡ o → list_in l ≡ p → Goes_on i (turn_of c place form x body (kept_names c cont kept) o p) → (made left rest : List Value) × (m ∷ l ∷ kept ≡ value.List made ∷ value.List left ∷ rest)
        by_lists None p m_is l_is goes = absurd goes
        by_lists (Some made) None m_is l_is goes = absurd goes
        by_lists (Some made) (Some left) m_is l_is goes = (made, left, kept, ap (λ one. one ∷ l ∷ kept) (list_is m made m_is) ∙ ap (λ one. value.List made ∷ one ∷ kept) (list_is l left l_is))

    -- a frame behind all positions is that of a `for`
    pub round_of : (i : FrameInfo) → frame_info c (first_frame c + cont.order) ≡ Some i → nat_lt h.position (length form.parts) ≡ false → (env : List Value) → FitEach (IsFun c) env i.env → IsRound c h form env
    round_of i told behind env fit =
        let at : IsTurnBehind c.forms form form.parts h.position = turn_behind c.forms form cont form.parts (conts_at c.conts h.node) (whole.sound.named.each h.node form there) h.position is behind in
        let for = turned_is form.kind form.tails at.body at.turn in
        let held = held_lists i for.0 at.body env (subst (λ ns. Goes_on i (turn_meant c place form (kind.For for.0) ns cont env)) for.2
        (subst (λ k. Goes_on i (turn_meant c place form k form.tails cont env)) for.1 (subst (Goes_on i) (turn_home behind env) (home_goes i told env fit)))) in
        record { x = for.0; body = at.body; for = for.1; tail = for.2; steps = at.steps; last = at.last; made = held.0; left = held.1; kept = held.2; held = held.3 }

    -- the list is handed on in a step
    pub turn_steps : nat_lt h.position (length form.parts) ≡ false → (env : List Value) → IsRound c h form env → (v : Value) (r : Run)
        → continues_as c (at_home c place h form cont env) v r ≡ unstepped (at_home c place h form cont env) v c (step r)
    turn_steps behind env at v r =
        let same : at_home c place h form cont env ≡ Some (as_turn at.x at.body at.made at.left at.kept) = ap (at_home c place h form cont) at.held ∙ turn_is at.x at.body at.for at.tail behind at.made at.left at.kept in
        let left : List Point = map (λ w. under (bind at.x w (kept_names c cont at.kept)) at.body) at.left in
        ap (λ o. continues_as c o v r) same
        ∙ ap (λ b. joined form.at at.made (list_in v) (each (language c) (eval (language c)) form.at left place) (handed b r)) at.steps
        ∙ sym (ap (λ o. unstepped o v c (step r)) same)

-- ---- a value that is handed to the next frame

module _ (c : CodeTables) (whole : IsWhole c) (old : State) (stack : List Frame) (f : Frame) (split : old.stack ≡ stack ++ f ∷ []) (h : Home) (form : Form) (cont : Cont)
    (there : form_at c.forms h.node ≡ Some form) (is : cont_at c h ≡ Some cont) (number : f.number ≡ first_frame c + cont.order) where
  abbrev env : List Value
  env = (forward c f).env

  goes_from : (v : Value) (r : Run) → goes_on c old.place (forward c f) v r ≡ continues_as c (at_home c old.place h form cont env) v r
  goes_from v r = ap (λ n. goes_on c old.place (frame n env) v r) (forward_number c f ∙ number) ∙ goes c whole.sound h form cont there is old.place v r env

  -- what the frame goes on with, and then the others
  pub handed_out : (v : Value) (r : Run) → then_frames c old (Goes v) r ≡ and_then (continues_as c (at_home c old.place h form cont env) v r) (rest c (waiting c stack) old.place)
  handed_out v r =
      ap (λ fs. rest c (waiting c fs) old.place v r) split
      ∙ ap (λ fs. rest c fs old.place v r) (waiting_pushed c stack f)
      ∙ ap (λ out. and_then out (rest c (waiting c stack) old.place)) (goes_from v r)

  pub handed_in : (v : Value) (e : Evaluation) → ((r : Run) → continues_as c (at_home c old.place h form cont env) v r ≡ e (step r)) → Takes (then_frames c old (Goes v)) one_step (then_frames c (record old { stack = stack }) e)
  handed_in v e same =
      let mid : State = record old { stack = stack } in
      takes_from (then_frames c old (Goes v)) (λ r. then_frames c mid e (step r)) (then_frames c mid e) one_step
      (λ r. handed_out v r ∙ ap (λ out. and_then out (rest c (waiting c stack) old.place)) (same r)) (steps (language c) (then_frames c mid e))
