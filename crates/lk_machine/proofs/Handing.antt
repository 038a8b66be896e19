-- A value for the next frame: what that frame goes on with, and what leads on from there, is what the value is handed to.
use Rattle.std.proofs.Common.{◌≡◌, refl, sym, ap, subst, ◌∙◌, ◌<◌, ◌≤◌, true, false, List, [], ◌∷◌, ◌++◌, Some, drop, take, length, arith}
use Rattle.std.proofs.lemmas.Bool.Decides.{nat_tests}
use Rattle.std.specs.Prelude.{nat_lt}
use Rattle.lk_ast.specs.declared.value.Value.{Value}
use Rattle.lk_code.proofs.Waiting.{node_there}
use Rattle.lk_code.specs.Meaning.{at_home, continues_as, kept_names, language}
use Rattle.lk_code.specs.Tables.{cont_at, home_of}
use Rattle.lk_code.specs.TypedLaw.{IsNodeAt, IsWhole}
use Rattle.lk_code.specs.Values.{IsFun}
use Rattle.lk_code.specs.declared.tables.CodeTables.{CodeTables}
use Rattle.lk_code.specs.declared.tables.Frame.{Frame}
use Rattle.lk_code.specs.declared.tables.Home.{Home}
use Rattle.lk_evaluation.specs.Run.{step}
use Rattle.lk_fits.specs.Values.{FitEach, Fits}
use Rattle.lk_ir.specs.LetNormal.{under}
use Rattle.lk_ir.specs.Tables.{form_at}
use Rattle.lk_ir.specs.declared.nodes.Cont.{Cont}
use Rattle.lk_ir.specs.declared.nodes.Form.{Form}
use Rattle.lk_moves.specs.Courses.{Evaluation}
use Rattle.lk_moves.specs.Frames.{resumed}
use Rattle.lk_types.proofs.Parts.{same_some}
use Rattle.lk_types.specs.declared.ground.Ground.{Ground}
use Rattle.lk_machine.proofs.Popping.{IsHomed, IsPopped, IsRound, handed_in, homed, part_steps, popped, round_of, turn_steps}
use Rattle.lk_machine.proofs.Pushing.{forward_part, forward_turn}
use Rattle.lk_machine.proofs.Taking.{hands_from}
use Rattle.lk_machine.specs.Going.{forward, left_round, waiting}
use Rattle.lk_machine.specs.Moves.{HandsTo, Leads, Resumes, ResumesPart, goes_behind, unstepped}
use Rattle.lk_machine.specs.Typed.{AreFrames}
use Rattle.lk_machine.specs.declared.state.Next.{Next}
use Rattle.lk_machine.specs.declared.state.State.{State}

module _ (c : CodeTables) (whole : IsWhole c) (old : State) (stack : List Frame) (f : Frame) (split : old.stack ≡ stack ++ f ∷ []) (several : length old.stack ≡ 1 → ⊥) (t u : Ground) (all : AreFrames c old.place (waiting c old.stack) t u) where
  some : stack ≡ [] → ⊥
  some none = several (ap length split ∙ ap (λ fs. length (fs ++ f ∷ [])) none)

  these : AreFrames c old.place (waiting c (stack ++ f ∷ [])) t u
  these = subst (λ fs. AreFrames c old.place (waiting c fs) t u) split all

  -- the next frame is that of a position
  pub has_home : IsHomed c f
  has_home = homed c whole old.place f stack t u some these

  module _ (h : Home) (home : home_of c f.number ≡ Some h) where
    same_home : has_home.home ≡ h
    same_home = same_some (sym has_home.homed ∙ home)

    pub has_form : (form : Form) × (form_at c.forms h.node ≡ Some form)
    has_form = (has_home.form, ap (λ (one : Home). form_at c.forms one.node) (sym same_home) ∙ has_home.there)

    pub has_cont : (cont : Cont) × (cont_at c h ≡ Some cont)
    has_cont = (has_home.cont, ap (cont_at c) (sym same_home) ∙ has_home.is)

  module _ (h : Home) (form : Form) (cont : Cont) (home : home_of c f.number ≡ Some h) (there : form_at c.forms h.node ≡ Some form) (is : cont_at c h ≡ Some cont) where
    pub next : IsPopped c old.place (forward c f) (waiting c stack) t u h form cont
    next = popped c whole old.place f stack t u some these h form cont home there is

    abbrev behind : State
    behind = record old { stack = stack }

    module _ (v : Value) (fits : Fits (IsFun c) v t) (env : List Value) (own : env ≡ f.env) where
      here_fits : Fits (IsFun c) v next.info.hole
      here_fits = subst (Fits (IsFun c) v) (sym next.hole) fits

      -- ---- a position of a node

      module _ (before : h.position < length form.parts) where
        is_before : nat_lt h.position (length form.parts) ≡ true
        is_before = grind (arith, nat_tests)

        as_held : (forward c f).env ≡ env
        as_held = ap (λ (g : Frame). g.env) (forward_part c f h form home there is_before) ∙ sym own

        fit : FitEach (IsFun c) env next.info.env
        fit = subst (λ vs. FitEach (IsFun c) vs next.info.env) as_held next.fit

        pub part_of : ResumesPart c old.place h cont env v next.info.result
        part_of = (form, is_before, (next.here, there, is, next.info, next.told, fit, here_fits, refl))

        node : IsNodeAt c h form cont next.info env
        node = node_there c whole h form cont next.info there is next.told env old.place is_before fit

        abbrev goes_on : Evaluation
        goes_on = resumed (language c) (under (kept_names c cont (drop h.position env)) h.node) (take h.position env ++ v ∷ []) old.place

        pub hands_part : (new : State) (answer : Next) → Leads c behind goes_on new answer → HandsTo c old v new answer
        hands_part new answer leads = hands_from c old behind new v goes_on refl
            (handed_in c whole old stack f split h form cont there is (sym (same_forward) ∙ next.numbered) v goes_on
            (λ r. ap (λ vs. continues_as c (at_home c old.place h form cont vs) v r) as_held ∙ part_steps c old.place h form cont whole there is is_before env node.long v r)) answer leads
          where
            same_forward : (forward c f).number ≡ f.number
            same_forward = ap (λ (g : Frame). g.number) (forward_part c f h form home there is_before)

      -- ---- the body of a `for`

      module _ (past : length form.parts ≤ h.position) where
        not_before : nat_lt h.position (length form.parts) ≡ false
        not_before = grind (arith, nat_tests)

        as_seen : (forward c f).env ≡ left_round env
        as_seen = ap (λ (g : Frame). g.env) (forward_turn c f h form home there not_before) ∙ ap left_round (sym own)

        turn_fit : FitEach (IsFun c) (left_round env) next.info.env
        turn_fit = subst (λ vs. FitEach (IsFun c) vs next.info.env) as_seen next.fit

        round : IsRound c h form (left_round env)
        round = round_of c old.place h form cont whole there is next.info next.told not_before (left_round env) turn_fit

        abbrev at_body : Home
        at_body = record { node = h.node; position = length form.parts }

        pub turn_of : Resumes c old.place at_body form cont (left_round env) v next.info.result
        turn_of = (next.here, there, subst (λ n. cont_at c (record { node = h.node; position = n }) ≡ Some cont) round.last is, next.info, next.told, turn_fit, here_fits, refl)

        abbrev turns_on : Evaluation
        turns_on = goes_behind c old.place h.node form cont (left_round env) v

        pub hands_turn : (new : State) (answer : Next) → Leads c behind turns_on new answer → HandsTo c old v new answer
        hands_turn new answer leads = hands_from c old behind new v turns_on refl
            (handed_in c whole old stack f split h form cont there is (sym (same_forward) ∙ next.numbered) v turns_on
            (λ r. ap (λ vs. continues_as c (at_home c old.place h form cont vs) v r) as_seen
            ∙ turn_steps c old.place h form cont whole there is not_before (left_round env) round v r
            ∙ ap (λ n. unstepped (at_home c old.place (record { node = h.node; position = n }) form cont (left_round env)) v c (step r)) round.last)) answer leads
          where
            same_forward : (forward c f).number ≡ f.number
            same_forward = ap (λ (g : Frame). g.number) (forward_turn c f h form home there not_before)
