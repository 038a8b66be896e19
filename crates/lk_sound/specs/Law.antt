-- The laws of sound evaluation (Milner, A theory of type polymorphism in programming, 1978; Wright and Felleisen, A syntactic
-- approach to type soundness, 1994): what has a type comes to a value of that type, with no other effects than its own, and
-- never lacks a rule.
use Rattle.std.specs.Prelude.{◌≡◌, ℕ, false, List, [], ◌∷◌, None, Some, slice_get}
use Rattle.lk_ast.specs.Functions.{functions_of, main_of}
use Rattle.lk_ast.specs.Plain.{holds_function}
use Rattle.lk_ast.specs.declared.declaration.FunDef.{FunDef}
use Rattle.lk_ast.specs.declared.declaration.Program.{Program}
use Rattle.lk_ast.specs.declared.place.Loc.{Loc}
use Rattle.lk_ast.specs.declared.value.Value.{Value}
use Rattle.lk_bag.specs.Blocks.{AreBlocksApart}
use Rattle.lk_evaluation.specs.Evaluation.{eval}
use Rattle.lk_evaluation.specs.Laws.{run_of}
use Rattle.lk_evaluation.specs.Run.{Run, Entry, Out}
use Rattle.lk_evaluation.specs.Source.{Point, source, session}
use Rattle.lk_index.specs.Places.{ArePlaced}
use Rattle.lk_names.specs.Programs.{IsBound}
use Rattle.lk_ground_types.specs.Shapes.{has_function}
use Rattle.lk_types.specs.Each.{Each}
use Rattle.lk_types.specs.Grounding.{Grounding}
use Rattle.lk_types.specs.Rows.{EffectSet}
use Rattle.lk_types.specs.Schemes.{IsInstance}
use Rattle.lk_types.specs.declared.ground.Ground.{Ground}
use Rattle.lk_types.specs.declared.ground.Ground.TheVariants as known
use Rattle.lk_types.specs.declared.scheme.Scheme.{Scheme}
use Rattle.lk_typing.specs.Programs.{IsTypedBy, IsWellTyped}
use Rattle.lk_typing.specs.Types.{function_of}
use Rattle.lk_sound.specs.Functions.{HasFunctionType}
use Rattle.lk_sound.specs.Instances.{Instances, AreClosed, IsShaped}
use Rattle.lk_sound.specs.Outcomes.{IsOutcome}
use Rattle.lk_sound.specs.Points.{IsPoint}
use Rattle.lk_sound.specs.Tables.{IsAnswered}
use Rattle.lk_sound.specs.Values.{Fits}

-- each reading in the log of an outcome was answered by its bag over some tables that fit
abbrev pub AreAnswered : Program → {A : Type 0} → Out A → Type 0
AreAnswered p out = Each (λ (entry : Entry). IsAnswered p entry.event) (run_of out).log

-- The program's names are bound, its functions and lambdas begin at places of their own, and so do its queries, readings and
-- changes of tables.
pub record AreBoundAndApart (p : Program) : Type 0 where
  pub bound : IsBound p
  pub placed : ArePlaced p
  pub blocks : AreBlocksApart p

-- the evaluation of a point that has a type, at any place, after a run of a whole evaluation
abbrev pub PointLaw : Type 0
PointLaw = (p : Program) → AreBoundAndApart p → (i : Instances) → AreClosed p i
    → (effects : EffectSet) (t : Ground) (point : Point) → IsPoint p i effects t point
    → (place : Loc) (r : Run) → r.returns ≡ None → AreAnswered p (eval (source p) point place r)
    → IsOutcome p i effects (λ v. Fits p i v t) r (eval (source p) point place r)

-- the evaluation of a session
abbrev pub SessionLaw : Type 0
SessionLaw = (p : Program) → AreBoundAndApart p → (shaped : IsShaped p)
    → (arg : List ℕ) (r : Run) → r.returns ≡ None → AreAnswered p (session p shaped.main arg r)
    → IsOutcome p shaped.instances shaped.effects (λ v. Fits p shaped.instances v shaped.answer) r (session p shaped.main arg r)

-- in a value of a type without functions stands none
abbrev pub PlainLaw : Type 0
PlainLaw = (p : Program) (i : Instances) (t : Ground) (v : Value) → Fits p i v t → has_function t ≡ false → holds_function v ≡ false

-- the function in which a session begins, which takes a text, has these effects and this answer
abbrev pub IsSessionOf : Program → FunDef → EffectSet → Ground → Type 0
IsSessionOf p main effects answer = (main_of p ≡ Some main) × HasFunctionType p main (function_of (known.Text ∷ []) effects answer)

-- a session of a well typed program has effects and an answer
abbrev pub MainLaw : Type 0
MainLaw = (p : Program) → IsWellTyped p → (main : FunDef) → main_of p ≡ Some main
    → (effects : EffectSet) × (answer : Ground) × IsSessionOf p main effects answer

-- a function has each type that is an instance of its scheme
abbrev pub InstanceLaw : Type 0
InstanceLaw = (p : Program) (schemes : List Scheme) → IsTypedBy p schemes
    → (i : ℕ) (f : FunDef) (scheme : Scheme) (σ : Grounding) (t : Ground)
    → slice_get (functions_of p) i ≡ Some f → slice_get schemes i ≡ Some scheme → IsInstance σ scheme t → HasFunctionType p f t
