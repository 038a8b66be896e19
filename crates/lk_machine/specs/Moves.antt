-- What is left to do behind the step that a machine has taken.
use Rattle.std.specs.Prelude.{◌≡◌, ◌⊎◌, ◌+◌, ℕ, true, List, [], ◌∷◌, Option, Some, None, length, nat_lt}
use Rattle.lk_ast.specs.declared.event.Event.TheVariants as event
use Rattle.lk_ast.specs.declared.place.Loc.{Loc}
use Rattle.lk_ast.specs.declared.value.Value.{Value}
use Rattle.lk_ast.specs.declared.place.Loc.TheVariants.{Client, Server}
use Rattle.lk_code.specs.Acting.{ActsWell}
use Rattle.lk_code.specs.Meaning.{at_home, does, language, rest}
use Rattle.lk_code.specs.Meaning.{nothing as absent}
use Rattle.lk_code.specs.Tables.{cont_at, first_frame, frame_info}
use Rattle.lk_code.specs.Sound.{told_by}
use Rattle.lk_code.specs.TypedLaw.{Reaches}
use Rattle.lk_code.specs.Values.{IsFun}
use Rattle.lk_code.specs.declared.infos.FrameInfo.{FrameInfo}
use Rattle.lk_code.specs.declared.tables.CodeTables.{CodeTables}
use Rattle.lk_code.specs.declared.tables.Frame.{Frame}
use Rattle.lk_code.specs.declared.tables.Home.{Home}
use Rattle.lk_evaluation.specs.Evaluation.{Act, Each, Tail, each, eval, joined, perform}
use Rattle.lk_evaluation.specs.Run.{Entry, Goes, Stops, Trapped, Within, and_then}
use Rattle.lk_ir.specs.LetNormal.{Point, reach}
use Rattle.lk_ir.specs.Tables.{form_at}
use Rattle.lk_ir.specs.declared.nodes.Cont.{Cont}
use Rattle.lk_ir.specs.declared.nodes.Form.{Form}
use Rattle.lk_fits.specs.Values.{FitEach, Fits}
use Rattle.lk_moves.specs.Courses.{Course, Evaluation, Takes, entering, followed, nothing, one_step}
use Rattle.lk_moves.specs.Frames as frames
use Rattle.lk_operators.specs.Values.{list_in}
use Rattle.lk_types.specs.Each.{Each as EachOf}
use Rattle.lk_types.specs.declared.ground.Ground.{Ground}
use Rattle.lk_machine.specs.Going.{doing, given, waiting}
use Rattle.lk_machine.specs.Stepped.{IsStep}
use Rattle.lk_machine.specs.Typed.{AreFrames, IsForOf, IsHere, IsPlace, Leaves}
use Rattle.lk_machine.specs.declared.act.Act as acts
use Rattle.lk_machine.specs.declared.act.Act.TheVariants as act
use Rattle.lk_machine.specs.declared.state.Next.{Next}
use Rattle.lk_machine.specs.declared.state.Next.TheVariants as next
use Rattle.lk_machine.specs.declared.state.Now.TheVariants as now
use Rattle.lk_machine.specs.declared.state.State.{State}

-- a machine at one of the two places, which has printed nothing in this step
abbrev pub IsReady : State → Type 0
IsReady m = IsPlace m.place × (m.printed ≡ None)

-- A machine that has a value goes on with it, or ends with it, and prints nothing.
abbrev pub GoesWith : State → Value → State → Next → Type 0
GoesWith old v new next.More = new ≡ record old { now = now.Give v }
GoesWith old v new (next.Ended w) = (new ≡ old) × (w ≡ v)
GoesWith old v new other = ⊥

abbrev pub printing : Option (List ℕ) → List Entry
printing None = []
printing (Some bytes) = record { number = 0; event = event.Print bytes; crossing = Within } ∷ []

-- no step; a text may be printed
abbrev pub still : Option (List ℕ) → Course
still printed = record { fuel = 0; steps = 0; log = printing printed; answers = [] }

-- what a waiting part does behind the step that hands the value on
abbrev pub unstepped : Option (frames.Frame Point) → Value → CodeTables → Evaluation
unstepped (Some (frames.Turn at body left place made)) v c = λ r. joined at made (list_in v) (each (language c) (eval (language c)) at left place) r
unstepped other v c = absent c

module _ (c : CodeTables) where
  -- an evaluation and then the frames of a machine
  abbrev pub then_frames : State → Evaluation → Evaluation
  then_frames m e = λ r. and_then (e r) (rest c (waiting c m.stack) m.place)

  -- What was to do, and then the frames of the old machine, is what the new one has to do, by the answer. It ends at the client alone.
  abbrev pub Leads : State → Evaluation → State → Next → Type 0
  Leads old e new next.More = Takes (then_frames old e) (still new.printed) (doing c new)
  Leads old e new (next.Ended v) = (old.place ≡ Client) × Takes (then_frames old e) (still new.printed) (Goes v)
  Leads old e new (next.Trapped trap) = Takes (then_frames old e) nothing (Stops (Trapped trap))
  Leads old e new (next.CallOut label args) = ⊥
  Leads old e new (next.Db label args) = (old.place ≡ Server) × Takes (then_frames old e) nothing (λ r. and_then (does c label args Server r) (given c new))

  -- what an act does at a place
  abbrev pub performed : Loc → Act Point → Evaluation
  performed place a = perform (language c) (eval (language c)) place a

  -- an act goes on with nodes of functions that run at the place, where it goes on with nodes
  abbrev pub StaysHere : Loc → Act Point → Type 0
  StaysHere place (Tail p) = IsHere c place p.node
  StaysHere place (Each at points) = EachOf (λ (p : Point). IsHere c place p.node) points
  StaysHere place other = Unit {0}

  -- an act of a type, at a place
  abbrev pub ActsAt : Loc → Act Point → Ground → Type 0
  ActsAt place a t = ActsWell (IsFun c) c.forms (told_by c) t a × StaysHere place a

  -- and the node of an act that goes over elements, or the label of one that reads or changes tables
  abbrev pub IsTold : Loc → ℕ → Form → acts.Act → Ground → Type 0
  IsTold place node form (act.Each x body values names) t = IsForOf c place t node form x body values names
  IsTold place node form (act.Reach block label args) t = Reaches c label t (reach form.at block (Some args) args)
  IsTold place node form other t = Unit {0}

  -- what is to do is of a type that the frames of the machine wait for, which is ready for it
  abbrev pub MayMove : (Ground → Type 0) → State → Type 0
  MayMove IsOfType m = (t : Ground) × (u : Ground) × IsOfType t × AreFrames c m.place (waiting c m.stack) t u × IsReady m

  -- so that the machine is left well, where it was
  abbrev pub Moves : (Ground → Type 0) → State → State → Next → Type 0
  Moves IsOfType old new answer = (t u : Ground) → IsOfType t → AreFrames c old.place (waiting c old.stack) t u → Leaves c new u answer × (new.place ≡ old.place)

  -- The same behind the entering of a plain node, which is a step.
  abbrev pub EntersTo : State → Evaluation → State → Next → Type 0
  EntersTo old e new answer = (rest_of : Evaluation) × Takes e entering rest_of × Leads old rest_of new answer

  -- ---- a value for the next frame

  -- What the frame of a `for` at its body does with the list of a body, behind the step that hands it on.
  abbrev pub goes_behind : Loc → ℕ → Form → Cont → List Value → Value → Evaluation
  goes_behind place node form cont env v = unstepped (at_home c place (record { node = node; position = length form.parts }) form cont env) v c

  -- The frame of this continuation at its home holds these values, waits for a value of the type of this one, and comes to one of the type.
  abbrev pub Resumes : Loc → Home → Form → Cont → List Value → Value → Ground → Type 0
  Resumes place h form cont env v t = IsHere c place h.node × (form_at c.forms h.node ≡ Some form) × (cont_at c h ≡ Some cont)
      × (i : FrameInfo) × (frame_info c (first_frame c + cont.order) ≡ Some i) × FitEach (IsFun c) env i.env × Fits (IsFun c) v i.hole × (i.result ≡ t)

  -- so where it waits at a position
  abbrev pub ResumesPart : Loc → Home → Cont → List Value → Value → Ground → Type 0
  ResumesPart place h cont env v t = (form : Form) × (nat_lt h.position (length form.parts) ≡ true) × Resumes place h form cont env v t

  -- A value is handed on in a step, or is what the label comes to whose return alone waits.
  abbrev pub HandsTo : State → Value → State → Next → Type 0
  HandsTo old v new (next.Ended w) = ((w ≡ v) × (f : Frame) × (old.stack ≡ f ∷ [])) ⊎ ((old.place ≡ Client) × (d : Course) × IsStep new.printed d × Takes (then_frames old (Goes v)) d (Goes w))
  HandsTo old v new next.More = Takes (then_frames old (Goes v)) (followed one_step (still new.printed)) (doing c new)
  HandsTo old v new (next.Trapped trap) = Takes (then_frames old (Goes v)) one_step (Stops (Trapped trap))
  HandsTo old v new (next.CallOut label args) = ⊥
  HandsTo old v new (next.Db label args) = (old.place ≡ Server) × Takes (then_frames old (Goes v)) one_step (λ r. and_then (does c label args Server r) (given c new))
