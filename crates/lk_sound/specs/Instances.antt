-- Closed sets of instances: functions of a program at ground types, with typed bodies, so that each function that such a body uses
-- is in the set, at its type. What stands in queries, updates and deletions is flat (Wong, Normal forms and conservative extension
-- properties for query languages over collection types, 1996), and what it calls are helpers, of which each calls only such as
-- stand before it in the text.
use Rattle.std.specs.Prelude.{◌≡◌, ℕ, ◌+◌, ◌<◌, true, false, List, [], ◌∷◌, Some, bytes_eq, if◌then◌else◌}
use Rattle.lk_ast.specs.Functions.{functions_of, function_named, main_of}
use Rattle.lk_ast.specs.declared.declaration.FunDef.{FunDef}
use Rattle.lk_ast.specs.declared.declaration.Program.{Program}
use Rattle.lk_ground_types.specs.Shapes.{has_function, is_flat, is_query_type}
use Rattle.lk_types.specs.Each.{Each, OneOf}
use Rattle.lk_types.specs.Rows.{Label, EffectSet}
use Rattle.lk_types.specs.declared.ground.Ground.{Ground}
use Rattle.lk_types.specs.declared.ground.Ground.TheVariants as known
use Rattle.lk_typing.specs.Types.{function_of}
use Rattle.lk_sound.specs.Functions.{HasFunctionType}
use Rattle.lk_sound.specs.Nodes.{Use, Part, Block, TypedNode, may_compare, nodes_of}

-- what sessions use outside of queries, updates and deletions, with the nodes of the bodies of these, and what is used inside
pub record Instances : Type 0 where
  pub mains : List Use
  pub nodes : List TypedNode
  pub helpers : List Use

abbrev pub IsListed : List Use → Use → Type 0
IsListed list u = OneOf (λ other. other ≡ u) list

-- ---- order in the text

-- how many functions stand before the first of that name
abbrev pub number_in : List FunDef → Label → ℕ
number_in [] g = 0
number_in (f ∷ fs) g = if bytes_eq f.name.text g then 0 else 1 + number_in fs g

abbrev pub number_of : Program → Label → ℕ
number_of p g = number_in (functions_of p) g

-- ---- bodies

-- it may stand in a query, an update or a deletion
pub record IsFlatPart (helpers : List Use) (part : Part) : Type 0 where
  pub type : is_query_type part.type ≡ true
  pub compares : may_compare part.compares ≡ true
  pub calls : (u : Use) → part.use_of ≡ Some u → IsListed helpers u

-- the same in a helper, which calls only what stands before it
pub record IsHelperNode (p : Program) (helpers : List Use) (caller : Use) (node : TypedNode) : Type 0 where
  pub flat : IsFlatPart helpers node.part
  pub before : (u : Use) → node.part.use_of ≡ Some u → number_of p u.name < number_of p caller.name

-- its parts are flat, and so is what it captures
pub record IsFlatBlock (helpers : List Use) (block : Block) : Type 0 where
  pub parts : Each (IsFlatPart helpers) block.parts
  pub captured : Each (λ t. is_flat t ≡ true) block.captured

-- it is one of the nodes of these bodies, it uses an instance, and if it is a query, an update or a deletion, it is a flat one
pub record IsFine (i : Instances) (node : TypedNode) : Type 0 where
  pub listed : OneOf (λ other. other ≡ node) i.nodes
  pub calls : (u : Use) → node.part.inside ≡ false → node.part.use_of ≡ Some u → IsListed i.mains u
  pub flat : (block : Block) → node.block ≡ Some block → IsFlatBlock i.helpers block

-- the function of that name has the type, with such nodes in its body
pub record HasBody (p : Program) (P : TypedNode → Type 0) (u : Use) : Type 0 where
  pub function : FunDef
  pub named : function_named p u.name ≡ Some function
  pub has : HasFunctionType p function u.type
  pub nodes : Each P (nodes_of false has.typed.body)

pub record AreClosed (p : Program) (i : Instances) : Type 0 where
  pub mains : Each (HasBody p (IsFine i)) i.mains
  pub helpers : Each (λ u. HasBody p (IsHelperNode p i.helpers u) u) i.helpers

-- ---- programs

-- A program whose sessions use the instances of a closed set, `main` among them; in its answer stands no function.
pub record IsShaped (p : Program) : Type 0 where
  pub instances : Instances
  pub closed : AreClosed p instances
  pub main : FunDef
  pub is : main_of p ≡ Some main
  pub effects : EffectSet
  pub answer : Ground
  pub listed : IsListed instances.mains (record { name = main.name.text; type = function_of (known.Text ∷ []) effects answer })
  pub plain : has_function answer ≡ false
