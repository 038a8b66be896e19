-- The evaluation of a point that has a type is sound, by induction on its depth; and so is that of a session.
use Rattle.std.proofs.Common.{◌≡◌, sym, ℕ, zero, suc, [], ◌∷◌, append-nil}
use Rattle.std.specs.Prelude.{None}
use Rattle.lk_ast.specs.Functions.{functions_of, is_main}
use Rattle.lk_ast.specs.declared.declaration.Program.{Program}
use Rattle.lk_ast.specs.declared.place.Loc.{Loc}
use Rattle.lk_ast.specs.declared.place.Loc.TheVariants.{Client}
use Rattle.lk_ast.specs.declared.value.Value.{Value}
use Rattle.lk_evaluation.proofs.Grows.{grows_to}
use Rattle.lk_evaluation.specs.Evaluation.{eval_to, eval, node}
use Rattle.lk_evaluation.specs.Run.{Run, Out, enter_with}
use Rattle.lk_evaluation.specs.Source.{Point, source}
use Rattle.lk_operators.specs.Values.{text}
use Rattle.lk_types.specs.Rows.{EffectSet}
use Rattle.lk_types.specs.declared.ground.Ground.{Ground}
use Rattle.lk_types.specs.declared.ground.Ground.TheVariants as known
use Rattle.lk_typing.specs.Types.{function_of}
use Rattle.lk_sound.specs.Acts.{IsNode}
use Rattle.lk_sound.specs.Instances.{Instances}
use Rattle.lk_sound.specs.Law.{AreAnswered, PointLaw, SessionLaw}
use Rattle.lk_sound.specs.Outcomes.{Happens, IsOutcome}
use Rattle.lk_sound.specs.Points.{IsPoint}
use Rattle.lk_sound.specs.Values.{Fits, none_left, one_more}
use Rattle.lk_sound.proofs.Bodies.{HasFineBody, listed_body}
use Rattle.lk_sound.proofs.Calls.{function_entered}
use Rattle.lk_sound.proofs.Happening.{after_itself}
use Rattle.lk_types.proofs.Members.{found_in}
use Rattle.lk_sound.proofs.Nodes.{node_law}
use Rattle.lk_sound.proofs.Performing.{Sound, node_sound}
use Rattle.lk_sound.proofs.Shapes.{text_fits}

-- each point that has a type does what a point of its type does
abbrev pub NodeLaw : Program → Instances → Type 0
NodeLaw p i = (effects : EffectSet) (t : Ground) (point : Point) → IsPoint p i effects t point → IsNode p i effects t point

entered : (p : Program) (i : Instances) (P : Value → Type 0) (effects : EffectSet) (fuel : ℕ) (r : Run) (next : Run → Out Value) → r.returns ≡ None
    → ((s : Run) → Happens p i effects r s → AreAnswered p (next s) → IsOutcome p i effects P r (next s)) → AreAnswered p (enter_with fuel r next) → IsOutcome p i effects P r (enter_with fuel r next)
entered p i P effects zero r next whole go answered = (tt, after_itself p i effects r whole)
entered p i P effects (suc left) r next whole go answered = go _ (record { whole = whole; more = []; log = sym (append-nil r.log); allowed = tt }) answered

module _ (p : Program) (i : Instances) (nodes : NodeLaw p i) where
  sound_to : (depth : ℕ) → Sound p i (eval_to depth (source p))
  unfolding eval_to
  sound_to zero effects t point is place r whole answered = (tt, after_itself p i effects r whole)
  sound_to (suc depth) effects t point is place r whole answered =
      entered p i (λ v. Fits p i v t) effects r.fuel r (node (source p) (eval_to depth (source p)) point place) whole
      (λ s h. node_sound p i (eval_to depth (source p)) (sound_to depth) (grows_to (source p) depth) effects r t point (nodes effects t point is) place s h)
      answered

  pub point_sound : (effects : EffectSet) (t : Ground) (point : Point) → IsPoint p i effects t point → (place : Loc) (r : Run) → r.returns ≡ None → AreAnswered p (eval (source p) point place r)
      → IsOutcome p i effects (λ v. Fits p i v t) r (eval (source p) point place r)
  point_sound effects t point is place r whole answered = sound_to r.fuel effects t point is place r whole answered

-- ---- the laws

pub point_law : PointLaw
point_law p apart i closed effects t point is place r whole answered = point_sound p i (node_law p i apart closed) effects t point is place r whole answered

pub session_law : SessionLaw
session_law p apart shaped arg r whole answered =
    let i : Instances = shaped.instances in
    let declared = (found_in is_main (functions_of p) shaped.main shaped.is).0 in
    let has : HasFineBody p i shaped.main (function_of (known.Text ∷ []) shaped.effects shaped.answer) =
    listed_body p i apart.bound shaped.closed shaped.main (function_of (known.Text ∷ []) shaped.effects shaped.answer) declared shaped.listed in
    let into = function_entered p i apart.bound shaped.main shaped.effects (known.Text ∷ []) shaped.answer has (text arg ∷ []) (one_more (text_fits p i arg) none_left) in
    point_sound p i (node_law p i apart shaped.closed) shaped.effects shaped.answer _ into.0 Client r whole answered
