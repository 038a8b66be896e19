-- The machine's acts, and those of nodes that they stand for.
use Rattle.std.specs.Prelude.{◌≡◌, ℕ, List, [], ◌∷◌, Option, Some, None, map}
use Rattle.lk_ast.specs.declared.place.Loc.TheVariants.{Client}
use Rattle.lk_ast.specs.declared.place.Span.{Span}
use Rattle.lk_ast.specs.declared.value.Value.{Value}
use Rattle.lk_evaluation.specs.Evaluation as spec
use Rattle.lk_ir.specs.Environments.{Env, bind, bind_each, no_names}
use Rattle.lk_ir.specs.LetNormal.{Point, reach, under}
use Rattle.lk_ir.specs.Tables.{body_at}
use Rattle.lk_ir.specs.declared.nodes.Body.{Body}
use Rattle.lk_ir.specs.declared.nodes.Form.{Form}
use Rattle.lk_ir.specs.declared.nodes.Forms.{Forms}
use Rattle.lk_ir.specs.declared.nodes.Kept.{Kept}
use Rattle.lk_ir.specs.declared.nodes.Kind.TheVariants as kind
use Rattle.lk_machine.specs.declared.act.Act.{Act}
use Rattle.lk_machine.specs.declared.act.Node.{Node}
use Rattle.lk_machine.specs.declared.act.Act.TheVariants.{Give, Tail, Goto, Print, Each, Reach, Fails, Lacks}

-- a call of what has this label, by its body, with values that it keeps and values that are passed
abbrev pub called : ℕ → Body → List Value → List Value → spec.Act Point
called label b env args = spec.Goto b.place (record { site = label; env = env }) args (under (bind_each (bind_each no_names b.names env) b.params args) b.root)

-- a body under a name for each of these values
abbrev pub each_of : Span → ℕ → ℕ → List Value → Env → spec.Act Point
each_of at x body values names = spec.Each at (map (λ v. under (bind x v names) body) values)

-- The act of this node under these names. The machine notes labels where an evaluation has bodies and places in the text.
abbrev pub IsAct : Forms → Form → Env → Act → spec.Act Point → Type 0
IsAct f form names (Give v) a = a ≡ spec.Give v
IsAct f form names (Tail n scope) a = a ≡ spec.Tail (under scope n)
IsAct f form names (Goto label body env args) a = (body_at f label ≡ Some body.now) × (a ≡ called label body.now env args)
IsAct f form names (Print bytes) a = a ≡ spec.Uses Client (spec.Printing bytes)
IsAct f form names (Each x body values scope) a = (form.kind ≡ kind.For x) × (form.tails ≡ body ∷ []) × (scope ≡ names) × (a ≡ each_of form.at x body values names)
IsAct f form names (Reach block label args) a = (kept : List Kept) × (form.kind ≡ kind.Reach block label kept) × (a ≡ reach form.at block (Some args) args)
IsAct f form names (Fails trap) a = a ≡ spec.Fails trap
IsAct f form names Lacks a = a ≡ spec.Lacks form.at

-- the one item of a list
abbrev pub only_of : {A : Type 0} → List A → Option A
only_of (x ∷ []) = Some x
only_of _ = None

-- the two items of a list
abbrev pub two_of : {A : Type 0} → List A → Option (A × A)
two_of (x ∷ y ∷ []) = Some (x, y)
two_of _ = None

-- the first value of a list, and the others
abbrev pub first_of : List Value → Option (Value × List Value)
first_of [] = None
first_of (v ∷ values) = Some (v, values)

abbrev pub IsActOf : Node → Env → Act → spec.Act Point → Type 0
IsActOf node names a = IsAct node.forms.now node.form.now names a
