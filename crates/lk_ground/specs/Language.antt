-- What ground programs mean: located evaluation of their instances. It goes as that of the program, but for what a use of a
-- function calls, which is an instance, and for function values, which are labels.
use Rattle.std.specs.Prelude.{ℕ, ◌+◌, Bool, false, ◌&&◌, ◌==◌, List, [], ◌∷◌, ◌++◌, Option, Some, None, map, slice_get, if◌then◌else◌}
use Rattle.lk_ast.specs.Layers.{Layer, layer}
use Rattle.lk_ast.specs.declared.declaration.FunDef.{FunDef}
use Rattle.lk_ast.specs.declared.expression.Node.TheOpen.{Node-F}
use Rattle.lk_ast.specs.declared.place.Loc.TheVariants.{Client}
use Rattle.lk_ast.specs.declared.place.Span.{Span}
use Rattle.lk_ast.specs.declared.value.FunValue.{FunValue}
use Rattle.lk_ast.specs.declared.value.Value.{Value}
use Rattle.lk_ast.specs.declared.value.Value.TheVariants as value
use Rattle.lk_evaluation.specs.Evaluation.{Act, Give, Tail, Goto, Uses, Each, Fails, Lacks, Language, eval}
use Rattle.lk_evaluation.specs.Run.{Run, Out}
use Rattle.lk_evaluation.specs.Source as source
use Rattle.lk_evaluation.specs.Source.{given, under}
use Rattle.lk_evaluation.specs.Syntax.{parts_of, is_plain}
use Rattle.lk_index.specs.Free.{captured}
use Rattle.lk_index.specs.Places.{lambda_at}
use Rattle.lk_locals.specs.Names.{Names, no_names, lookup_all, bind_each, bind_all}
use Rattle.lk_operators.specs.Values.{text, fun_in}
use Rattle.lk_ground.specs.Sites.{PlacedUse, uses_in, labelled_in}
use Rattle.lk_ground.specs.declared.program.GroundFun.{GroundFun}
use Rattle.lk_ground.specs.declared.program.GroundProgram.{GroundProgram}

abbrev pub function_of : GroundFun → FunDef
function_of f = f.function.now

-- ---- what uses call

-- the number beside the first use at this place
abbrev pub at_place : List PlacedUse → List ℕ → ℕ → Option ℕ
at_place [] numbers site = None
at_place (u ∷ uses) [] site = None
at_place (u ∷ uses) (n ∷ numbers) site = if u.site == site then Some n else at_place uses numbers site

-- the instance that the use at this place calls, in an instance
abbrev pub called_in : Option GroundFun → ℕ → Option ℕ
called_in None site = None
called_in (Some f) site = at_place (uses_in (function_of f).body) f.calls site

-- an instance of the program by its number
abbrev pub instance : GroundProgram → ℕ → Option GroundFun
instance p i = slice_get p.funs i

-- ---- labels

-- what has a label: an instance, or what begins at a place in its body
pub data Labelled : Type 0 where
  Whole : (owner : ℕ) → Labelled
  Site : (owner site : ℕ) → Labelled

abbrev pub labelled_of : ℕ → GroundFun → List Labelled
labelled_of i f = Whole i ∷ map (Site i) (labelled_in (function_of f).body)

abbrev pub labelled_from : ℕ → List GroundFun → List Labelled
labelled_from i [] = []
labelled_from i (f ∷ fs) = labelled_of i f ++ labelled_from (1 + i) fs

-- what is labelled from 1 on; 0 is `print`
abbrev pub labels : GroundProgram → List Labelled
labels p = labelled_from 0 p.funs

abbrev pub is_same : Labelled → Labelled → Bool
is_same (Whole a) (Whole b) = a == b
is_same (Site a s) (Site b t) = a == b && s == t
is_same _ _ = false

-- the number of the first of these that is this one
abbrev pub place_among : ℕ → List Labelled → Labelled → Option ℕ
place_among n [] what = None
place_among n (l ∷ ls) what = if is_same l what then Some n else place_among (1 + n) ls what

abbrev pub label_of : GroundProgram → Labelled → Option ℕ
label_of p what = place_among 1 (labels p) what

-- what has this label
abbrev pub found_from : ℕ → List Labelled → ℕ → Option Labelled
found_from n [] label = None
found_from n (l ∷ ls) label = if n == label then Some l else found_from (1 + n) ls label

abbrev pub labelled : GroundProgram → ℕ → Option Labelled
labelled p label = found_from 1 (labels p) label

-- ---- points and acts

-- a point of the program, in an instance
pub record Point : Type 0 where
  pub owner : ℕ
  pub point : source.Point

abbrev pub within : ℕ → source.Point → Point
within owner point = record { owner = owner; point = point }

-- an act of the program, in an instance
abbrev pub act_within : ℕ → Act source.Point → Act Point
act_within owner (Give v) = Give v
act_within owner (Tail point) = Tail (within owner point)
act_within owner (Goto mark f args body) = Goto mark f args (within owner body)
act_within owner (Uses mark primitive) = Uses mark primitive
act_within owner (Each at bodies) = Each at (map (within owner) bodies)
act_within owner (Fails trap) = Fails trap
act_within owner (Lacks at) = Lacks at

-- a function value by its label
abbrev pub made : Span → List Value → Option ℕ → Act Point
made at values None = Lacks at
made at values (Some label) = Give (value.Fun (record { site = label; env = values }))

abbrev pub function_value : GroundProgram → Span → Option ℕ → Act Point
function_value p at None = Lacks at
function_value p at (Some i) = made at [] (label_of p (Whole i))

abbrev pub closure : GroundProgram → Span → ℕ → Option (List Value) → Act Point
closure p at owner None = Lacks at
closure p at owner (Some values) = made at values (label_of p (Site owner at.start))

-- a call of an instance
abbrev pub call_instance : Span → ℕ → List Value → Option ℕ → Option GroundFun → Act Point
call_instance at i args None f = Lacks at
call_instance at i args (Some label) None = Lacks at
call_instance at i args (Some label) (Some f) = act_within i (source.goto at (function_of f).place (record { site = label; env = [] }) args (function_of f).body (bind_all no_names (function_of f).params args))

abbrev pub call : GroundProgram → Span → List Value → Option ℕ → Act Point
call p at args None = Lacks at
call p at args (Some i) = call_instance at i args (label_of p (Whole i)) (instance p i)

-- a call of what has the label of a function value
abbrev pub call_labelled : GroundProgram → Span → FunValue → List Value → Option Labelled → Act Point
call_labelled p at f args None = Lacks at
call_labelled p at f args (Some (Whole i)) = call p at args (Some i)
call_labelled p at f args (Some (Site i site)) = act_within i (source.enter_lambda at f args (lambda_at p.program.now site))

abbrev pub apply : GroundProgram → Span → Option FunValue → List Value → Act Point
apply p at None args = Lacks at
apply p at (Some f) args = call_labelled p at f args (labelled p f.site)

abbrev pub apply_first : GroundProgram → Span → List Value → Act Point
apply_first p at [] = Lacks at
apply_first p at (v ∷ args) = apply p at (fun_in v) args

-- what a node does with the values of its parts, in an instance
abbrev pub act : GroundProgram → ℕ → Span → Layer → Names → List Value → Act Point
act p i at (Node-F.Function g) names values = function_value p at (called_in (instance p i) at.start)
act p i at (Node-F.Lambda lambda) names values = closure p at i (lookup_all names (captured lambda))
act p i at (Node-F.Call function args) names values = call p at values (called_in (instance p i) at.start)
act p i at (Node-F.Apply f args) names values = apply_first p at values
act p i at other names values = act_within i (source.act p.program.now at other names values)

abbrev pub ground : GroundProgram → Language
ground p = record {
  Point = Point;
  parts = λ at. map (λ e. within at.owner (under at.point.names e)) (parts_of (layer at.point.expr));
  plain = λ at. is_plain (layer at.point.expr);
  act = λ at values. act p at.owner at.point.expr.span (layer at.point.expr) at.point.names values;
}

-- A session is the evaluation of the body of the first instance at the client, its parameter bound to the session's argument.
abbrev pub session : GroundProgram → FunDef → List ℕ → Run → Out Value
session p main arg r = eval (ground p) (within 0 (under (bind_each no_names (map (λ x. x.text) main.params) (text arg ∷ [])) main.body)) Client r
