-- Frames that wait, when one more waits before them.
use Rattle.std.proofs.Common.{◌≡◌, refl, sym, ap, subst, ◌∙◌, ℕ, ◌+◌, ◌≤◌, true, false, List, [], ◌∷◌, ◌++◌, Some, length, slice_get, arith}
use Rattle.std.specs.Option.{option_and_then}
use Rattle.std.specs.Prelude.{if◌then◌else◌, nat_lt}
use Rattle.lk_ast.specs.declared.place.Loc.{Loc}
use Rattle.lk_ast.specs.declared.place.Loc.TheVariants.{Any}
use Rattle.lk_fits.specs.Values.{FitEach}
use Rattle.lk_ir.specs.Tables.{form_at}
use Rattle.lk_ir.specs.Uses.{Among}
use Rattle.lk_ir.specs.declared.nodes.Cont.{Cont}
use Rattle.lk_ir.specs.declared.nodes.Form.{Form}
use Rattle.lk_types.proofs.Parts.{same_some}
use Rattle.lk_types.specs.declared.ground.Ground.{Ground}
use Rattle.lk_code.proofs.Places.{node_type_is}
use Rattle.lk_code.proofs.Waiting.{inverted, types}
use Rattle.lk_code.specs.Chains.{AreChained}
use Rattle.lk_code.specs.Parts.{Context, IsTyped}
use Rattle.lk_code.specs.Running.{is_at}
use Rattle.lk_code.specs.Sound.{HasFrame, IsFrameOf, told_by}
use Rattle.lk_code.specs.Tables.{cont_at, first_frame, frame_info, fun_info, home_of, node_type}
use Rattle.lk_code.specs.TypedLaw.{IsWhole}
use Rattle.lk_code.specs.Values.{IsFun}
use Rattle.lk_code.specs.declared.infos.FrameInfo.{FrameInfo}
use Rattle.lk_code.specs.declared.tables.CodeTables.{CodeTables}
use Rattle.lk_code.specs.declared.tables.Frame.{Frame}
use Rattle.lk_code.specs.declared.tables.Home.{Home}
use Rattle.lk_machine.proofs.Rounds.{forward_number, waiting_pushed}
use Rattle.lk_machine.specs.Going.{forward, is_behind, is_turn, is_turn_at, left_round, waiting}
use Rattle.lk_machine.specs.Typed.{AreFrames, IsHere}

-- ---- frames as others see them

module _ (c : CodeTables) where
  module _ (f : Frame) (h : Home) (form : Form) (home : home_of c f.number ≡ Some h) (there : form_at c.forms h.node ≡ Some form) where
    turn_is : is_turn c f ≡ is_behind c h (Some form)
    turn_is = ap (is_turn_at c) home ∙ ap (is_behind c h) there

    -- at a position they are as the machine holds them
    pub forward_part : nat_lt h.position (length form.parts) ≡ true → forward c f ≡ f
    forward_part before = ap (λ b. if b then record f { env = left_round f.env } else f) (turn_is ∙ ap (λ b. if b then false else true) before)

    pub forward_turn : nat_lt h.position (length form.parts) ≡ false → forward c f ≡ record f { env = left_round f.env }
    forward_turn behind = ap (λ b. if b then record f { env = left_round f.env } else f) (turn_is ∙ ap (λ b. if b then false else true) behind)

-- ---- one more frame

-- The frame has this number of a continuation, runs at the place, and holds values of the types told of it.
pub record IsFrame (c : CodeTables) (place : Loc) (f : Frame) (i : FrameInfo) : Type 0 where
  pub is : frame_info c f.number ≡ Some i
  pub above : first_frame c ≤ f.number
  pub placed : is_at i.place place ≡ true
  pub fit : FitEach (IsFun c) f.env i.env

pub one_before : (c : CodeTables) (place : Loc) (f : Frame) (i : FrameInfo) (t u : Ground) → IsFrame c place f i → i.result ≡ t → (fs : List Frame) → AreFrames c place fs t u → AreFrames c place (f ∷ fs) i.hole u
one_before c place f i t u one result [] frames = absurd frames.chained
one_before c place f i t u one result (g ∷ fs) frames = record {
  chained = (i, one.is, refl, one.above, subst (AreChained c (g ∷ fs)) (sym result) frames.chained);
  held = (λ j is. subst (λ (k : FrameInfo). FitEach (IsFun c) f.env k.env) (same_some (sym one.is ∙ is)) one.fit, frames.held);
  placed = (λ j is. subst (λ (k : FrameInfo). is_at k.place place ≡ true) (same_some (sym one.is ∙ is)) one.placed, frames.placed);
  returns = frames.returns;
}

-- what a node's parts and tails are stands where it does
pub stays_here : (c : CodeTables) → IsWhole c → (place : Loc) (n k : ℕ) (form : Form) → form_at c.forms n ≡ Some form → IsHere c place n → Among k (form.parts ++ form.tails) → IsHere c place k
stays_here c whole place n k form there here among child i at told =
    here form i there (subst (λ w. fun_info c w ≡ Some i) (whole.sound.forms.within.children n form k child there among at) told)

-- ---- the frame of a continuation

module _ (c : CodeTables) (whole : IsWhole c) (place : Loc) (h : Home) (form : Form) (cont : Cont) (i : FrameInfo) (there : form_at c.forms h.node ≡ Some form) (is : cont_at c h ≡ Some cont)
    (info_is : frame_info c (first_frame c + cont.order) ≡ Some i) where
  has : HasFrame c h form cont
  has = whole.sound.frames h form cont there is

  told : has.info ≡ i
  told = same_some (sym has.is ∙ info_is)

  frame_types : IsFrameOf c.forms form h.position cont i
  frame_types = types c whole h form cont i there is info_is [] Any

  -- it comes to a value of the node's type
  pub comes_to : (context : Context) (t : Ground) → IsTyped c.forms (told_by c) context h.node t → i.result ≡ t
  comes_to context t typed = same_some (sym frame_types.result ∙ (inverted c.forms (told_by c) context h.node form t there typed).type)

  -- and waits for one of the type of the child there
  pub waits_for : (context : Context) (child : ℕ) (s : Ground) → slice_get (form.parts ++ form.tails) h.position ≡ Some child → IsTyped c.forms (told_by c) context child s → i.hole ≡ s
  waits_for context child s at typed = same_some (sym frame_types.hole ∙ ap (option_and_then (node_type c.forms)) at ∙ node_type_is c.forms (told_by c) context child s typed)

  pub runs_here : IsHere c place h.node → is_at i.place place ≡ true
  runs_here here = subst (λ p. is_at p place ≡ true) (sym has.place ∙ ap (λ (k : FrameInfo). k.place) told) (here form has.within there has.within_is)

  numbered : (n : ℕ) → n ≡ first_frame c + cont.order → first_frame c ≤ n
  numbered n number = omega arith

  -- The frame of a continuation waits before others for the type of its hole, where these wait for the type of its result.
  pub pushed : IsHere c place h.node → (stack : List Frame) (f : Frame) → f.number ≡ first_frame c + cont.order → FitEach (IsFun c) (forward c f).env i.env
      → (t u : Ground) → i.result ≡ t → AreFrames c place (waiting c stack) t u → AreFrames c place (waiting c (stack ++ f ∷ [])) i.hole u
  pushed here stack f number fit t u result frames =
      subst (λ fs. AreFrames c place fs i.hole u) (sym (waiting_pushed c stack f)) (one_before c place (forward c f) i t u one result (waiting c stack) frames)
    where
      same : (forward c f).number ≡ first_frame c + cont.order
      same = forward_number c f ∙ number

      one : IsFrame c place (forward c f) i
      one = record { is = ap (frame_info c) same ∙ info_is; above = numbered (forward c f).number same; placed = runs_here here; fit = fit }
