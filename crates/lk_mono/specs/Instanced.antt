-- What a ground program has of its instances: they are a closed set, `main` among them, and it has of each its function, the types
-- of the nodes of its body in text order, and for each use in it the place of what it calls.
use Rattle.std.specs.Prelude.{◌≡◌, Bool, true, false, List, [], ◌∷◌, ◌++◌, Some}
use Rattle.lk_ast.specs.Functions.{function_named}
use Rattle.lk_ast.specs.declared.declaration.FunDef.{FunDef}
use Rattle.lk_ast.specs.declared.declaration.Program.{Program}
use Rattle.lk_ground.specs.Language.{function_of}
use Rattle.lk_ground.specs.declared.program.GroundFun.{GroundFun}
use Rattle.lk_ground.specs.declared.program.GroundProgram.{GroundProgram}
use Rattle.lk_mono.specs.Grounded.{AreCalled}
use Rattle.lk_mono.specs.Held.{types_in}
use Rattle.lk_sound.specs.Functions.{HasFunctionType}
use Rattle.lk_sound.specs.Instances.{Instances, IsFine, IsHelperNode, IsShaped}
use Rattle.lk_sound.specs.Nodes.{TypedNode, Use, nodes_of}
use Rattle.lk_types.specs.Each.{Each}

-- the function has a body with such nodes, of which this is told
pub record IsInstanceOf (p : Program) (i : Instances) (in_helper : Bool) (P : TypedNode → Type 0) (function : FunDef) (f : GroundFun) (u : Use) : Type 0 where
  pub named : function_named p u.name ≡ Some function
  pub has : HasFunctionType p function u.type
  pub type : f.ty ≡ u.type
  pub nodes : Each P (nodes_of false has.typed.body)
  pub types : f.types ≡ types_in (nodes_of false has.typed.body)
  pub calls : AreCalled i.mains i.helpers in_helper (nodes_of false has.typed.body) f.calls

-- the same one by one
pub data AreInstancesOf (p : Program) (i : Instances) (in_helper : Bool) (P : Use → TypedNode → Type 0) : List GroundFun → List Use → Type 0 where
  none : AreInstancesOf p i in_helper P [] []
  more : {f : GroundFun} {fs : List GroundFun} {u : Use} {us : List Use} → IsInstanceOf p i in_helper (P u) (function_of f) f u → AreInstancesOf p i in_helper P fs us → AreInstancesOf p i in_helper P (f ∷ fs) (u ∷ us)

-- the nodes of the bodies of instances, one body after another
abbrev pub nodes_in : {p : Program} {i : Instances} {in_helper : Bool} {P : Use → TypedNode → Type 0} {fs : List GroundFun} {us : List Use} → AreInstancesOf p i in_helper P fs us → List TypedNode
nodes_in none = []
nodes_in (more is others) = nodes_of false is.has.typed.body ++ nodes_in others

-- the lists of the closed set that the program's sessions use are those of the ground program, one by one
pub record HasInstances (p : Program) (g : GroundProgram) : Type 0 where
  pub shaped : IsShaped p
  pub mains : AreInstancesOf p shaped.instances false (λ u. IsFine shaped.instances) g.funs shaped.instances.mains
  pub nodes : shaped.instances.nodes ≡ nodes_in mains
  pub helpers : AreInstancesOf p shaped.instances true (λ u. IsHelperNode p shaped.instances.helpers u) g.helpers shaped.instances.helpers
