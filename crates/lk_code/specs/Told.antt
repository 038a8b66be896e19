-- What a program with continuations tells of its labels: a function by its own type and those of what it keeps, what reads or changes
-- tables by what it takes and gives.
use Rattle.std.specs.Option.{option_and_then, option_map, unwrap_or}
use Rattle.std.specs.Prelude.{ℕ, List, [], ◌∷◌, Option, Some, None, map, slice_get}
use Rattle.lk_ir.specs.Tables.{form_at, label_at}
use Rattle.lk_ir.specs.declared.ir.CpsProgram.{CpsProgram}
use Rattle.lk_ir.specs.declared.nodes.Block.{Block}
use Rattle.lk_ir.specs.declared.nodes.Block.TheVariants as block
use Rattle.lk_ir.specs.declared.nodes.Body.{Body}
use Rattle.lk_ir.specs.declared.nodes.Form.{Form}
use Rattle.lk_ir.specs.declared.nodes.Forms.{Forms}
use Rattle.lk_ir.specs.declared.nodes.Kept.{Kept}
use Rattle.lk_ir.specs.declared.nodes.Kind.{Kind}
use Rattle.lk_ir.specs.declared.nodes.Kind.TheVariants as kind
use Rattle.lk_ir.specs.declared.nodes.LabelForm.{LabelForm}
use Rattle.lk_types.specs.declared.ground.Ground.{Ground, out-Ground}
use Rattle.lk_types.specs.declared.ground.Ground.TheOpen.{Ground-F}
use Rattle.lk_types.specs.declared.ground.Ground.TheVariants as known
use Rattle.lk_types.specs.declared.ground.GroundField.{GroundField}
use Rattle.lk_types.specs.declared.ty.Effect.{Effect}
use Rattle.lk_types.specs.declared.ty.Effect.TheVariants as effect
use Rattle.lk_typing.specs.Types.{unit}
use Rattle.lk_code.specs.Parts.{Info}
use Rattle.lk_code.specs.Tables.{node_type, type_at}

-- ---- several types

abbrev pub all_of : {A : Type 0} → List (Option A) → Option (List A)
all_of [] = Some []
all_of (o ∷ os) = option_and_then (λ x. option_map (λ xs. x ∷ xs) (all_of os)) o

abbrev pub types_at : Forms → List ℕ → Option (List Ground)
types_at f tys = all_of (map (type_at f) tys)

abbrev pub kept_types : Forms → List Kept → Option (List Ground)
kept_types f kept = types_at f (map (λ (k : Kept). k.ty) kept)

abbrev pub node_types : Forms → List ℕ → Option (List Ground)
node_types f ns = all_of (map (node_type f) ns)

-- ---- labels

abbrev pub printer : Info
printer = record { params = known.Text ∷ []; effects = effect.Print ∷ []; result = unit; env = [] }

-- a function of this type that keeps values of these
abbrev pub of_type : Ground-F Ground GroundField → List Ground → Option Info
of_type (Ground-F.Fun params effects result) env = Some (record { params = params; effects = effects; result = result; env = env })
of_type other env = None

abbrev pub of_function : Option Ground → Option (List Ground) → Option Info
of_function (Some t) (Some env) = of_type (out-Ground t) env
of_function t env = None

abbrev pub effect_of : Block → Effect
effect_of block.Query = effect.Scan
effect_of block.TableRead = effect.Scan
effect_of other = effect.Write

-- an insertion takes the value of its part, all else what it captured
abbrev pub taken : Forms → Block → List Kept → List ℕ → Option (List Ground)
taken f block.Insert kept parts = node_types f parts
taken f other kept parts = kept_types f kept

abbrev pub of_block : Block → Option (List Ground) → Option Ground → Option Info
of_block b (Some params) (Some result) = Some (record { params = params; effects = effect_of b ∷ []; result = result; env = [] })
of_block b params result = None

abbrev pub of_node : Forms → Option Ground → List ℕ → Kind → Option Info
of_node f result parts (kind.Reach b label kept) = of_block b (taken f b kept parts) result
of_node f result parts other = None

-- by the types of what is kept, the number of the own type, the node and the body; `print` has neither of these
abbrev pub told : Forms → List ℕ → ℕ → Option ℕ → Option Body → Option Info
told f env ty n (Some b) = of_function (type_at f ty) (types_at f env)
told f env ty (Some n) None = option_and_then (λ (form : Form). of_node f (type_at f ty) form.parts form.kind) (form_at f n)
told f env ty None None = Some printer

-- the numbers of the types of what has this label keeps
abbrev pub env_of : CpsProgram → ℕ → List ℕ
env_of p label = unwrap_or (slice_get p.envs label) []

abbrev pub info_in : CpsProgram → ℕ → Option Info
info_in p label = option_and_then (λ (l : LabelForm). told p.forms (env_of p label) l.ty l.node l.body) (label_at p.forms label)
