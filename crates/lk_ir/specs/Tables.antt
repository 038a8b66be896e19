-- Look-ups in a table of nodes.
use Rattle.std.specs.Prelude.{ℕ, ◌<◌, List, Option, Some, None, IsSome, length, map, slice_get}
use Rattle.lk_ast.specs.declared.place.Loc.{Loc}
use Rattle.lk_ir.specs.declared.nodes.Body.{Body}
use Rattle.lk_ir.specs.declared.nodes.Form.{Form}
use Rattle.lk_ir.specs.declared.nodes.Forms.{Forms}
use Rattle.lk_ir.specs.declared.nodes.Kept.{Kept}
use Rattle.lk_ir.specs.declared.nodes.LabelForm.{LabelForm}

-- the node with this number
abbrev pub form_at : Forms → ℕ → Option Form
form_at f n = slice_get f.nodes n

-- what has this label
abbrev pub label_at : Forms → ℕ → Option LabelForm
label_at f label = slice_get f.labels label

abbrev pub body_of : Option LabelForm → Option Body
body_of None = None
body_of (Some l) = l.body

abbrev pub body_at : Forms → ℕ → Option Body
body_at f label = body_of (label_at f label)

-- the label of an instance
abbrev pub whole_at : Forms → ℕ → Option ℕ
whole_at f i = slice_get f.wholes i

abbrev pub names_of : List Kept → List ℕ
names_of kept = map (λ (k : Kept). k.name) kept

abbrev pub mark_of : Option Body → Option Loc
mark_of None = None
mark_of (Some body) = Some body.place

abbrev pub place_by : Forms → Option ℕ → Option Loc
place_by f None = None
place_by f (Some label) = mark_of (body_at f label)

-- where the body of an instance runs
abbrev pub place_of : Forms → ℕ → Option Loc
place_of f i = place_by f (whole_at f i)

-- a number of 32 bits counts the instances
abbrev pub most_instances : ℕ
most_instances = 4294967296

-- the instances can be counted, and each has a body
pub record HasBodies (f : Forms) : Type 0 where
  pub counted : length f.wholes < most_instances
  pub bodies : (i : ℕ) → i < length f.wholes → IsSome (place_of f i)
