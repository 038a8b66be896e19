-- What a point with a type does: it has a value of the type, goes on with points that have it, or does what its effects allow.
use Rattle.std.specs.Prelude.{◌≡◌, true, List, [], ◌∷◌}
use Rattle.lk_ast.specs.declared.declaration.Program.{Program}
use Rattle.lk_ast.specs.Rows.{rows_value}
use Rattle.lk_ast.specs.declared.event.Event.TheVariants.{Read}
use Rattle.lk_ast.specs.declared.table.Row.{Row}
use Rattle.lk_ast.specs.declared.value.Value.{Value}
use Rattle.lk_evaluation.specs.Evaluation.{Act, Give, Tail, Goto, Uses, Each as EachOf, Fails, Lacks, Primitive, Printing, Reading, Writing}
use Rattle.lk_evaluation.specs.Source.{Point, source}
use Rattle.lk_types.specs.Each.{Each}
use Rattle.lk_types.specs.Rows.{EffectSet}
use Rattle.lk_types.specs.declared.ground.Ground.{Ground}
use Rattle.lk_types.specs.declared.ground.Ground.TheVariants as known
use Rattle.lk_types.specs.declared.ty.Effect.TheVariants as effect
use Rattle.lk_typing.specs.Types.{unit}
use Rattle.lk_sound.specs.Captures.{Captures}
use Rattle.lk_sound.specs.Instances.{Instances}
use Rattle.lk_sound.specs.Points.{IsPoint}
use Rattle.lk_sound.specs.Tables.{IsAnswered, IsReading, IsWriting}
use Rattle.lk_sound.specs.Values.{Fits, FitEach}

-- Printing gives the unit value, a reading a list, of which each answer is one, and a writing the unit value.
abbrev pub IsUse : Program → Instances → EffectSet → Ground → Primitive → Type 0
IsUse p i effects t (Printing bytes) = (effects effect.Print ≡ true) × (t ≡ unit)
IsUse p i effects t (Reading site args) = (effects effect.Scan ≡ true) × IsReading p site args × Captures p i site args × ((answer : List Row) → IsAnswered p (Read (record { site = site; args = args; answer = answer })) → Fits p i (rows_value answer) t)
IsUse p i effects t (Writing site args) = (effects effect.Write ≡ true) × IsWriting p site args × Captures p i site args × (t ≡ unit)

abbrev pub IsAct : Program → Instances → EffectSet → Ground → Act Point → Type 0
IsAct p i effects t (Give v) = Fits p i v t
IsAct p i effects t (Tail point) = IsPoint p i effects t point
IsAct p i effects t (Goto mark f args body) = IsPoint p i effects t body
IsAct p i effects t (Uses mark primitive) = IsUse p i effects t primitive
IsAct p i effects t (EachOf at bodies) = (a : Ground) × (t ≡ known.List a) × Each (IsPoint p i effects t) bodies
IsAct p i effects t (Fails trap) = effects effect.Trap ≡ true
IsAct p i effects t (Lacks at) = ⊥

-- the first point has the first type, and so on
pub data ArePoints (p : Program) (i : Instances) (effects : EffectSet) : List Point → List Ground → Type 0 where
  none : ArePoints p i effects [] []
  more : {point : Point} {points : List Point} {t : Ground} {ts : List Ground} → IsPoint p i effects t point → ArePoints p i effects points ts → ArePoints p i effects (point ∷ points) (t ∷ ts)

-- the parts of a point have types, and with values of these it does what a point of its type does
pub record IsNode (p : Program) (i : Instances) (effects : EffectSet) (t : Ground) (point : Point) : Type 0 where
  pub types : List Ground
  pub parts : ArePoints p i effects ((source p).parts point) types
  pub acts : (values : List Value) → FitEach p i values types → IsAct p i effects t ((source p).act point values)
