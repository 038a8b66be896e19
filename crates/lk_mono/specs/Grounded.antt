-- Ground programs of typed programs: which instances they have, with the types of their nodes and what their uses call.
use Rattle.std.specs.Prelude.{◌≡◌, ℕ, Bool, true, false, ◌||◌, List, [], ◌∷◌, Some, None, slice_get, if◌then◌else◌}
use Rattle.lk_ast.specs.Functions.{function_named}
use Rattle.lk_ast.specs.declared.declaration.Program.{Program}
use Rattle.lk_ground.specs.Language.{function_of}
use Rattle.lk_ground.specs.declared.program.GroundFun.{GroundFun}
use Rattle.lk_ground.specs.declared.program.GroundProgram.{GroundProgram}
use Rattle.lk_mono.specs.Held.{types_in}
use Rattle.lk_mono.specs.Instances.{Body, AreInstances, uses_of}
use Rattle.lk_mono.specs.Shapes.{AreShaped}
use Rattle.lk_sound.specs.Nodes.{Use, TypedNode}
use Rattle.lk_types.specs.declared.scheme.Scheme.{Scheme}
use Rattle.lk_types.specs.declared.ty.Ty.{Ty}

-- For each use among the nodes, in text order, the place of its instance in the list in which it stands: that of the helpers
-- in a query, an update or a deletion and in a helper, and else the other.
pub data AreCalled (mains helpers : List Use) (in_helper : Bool) : List TypedNode → List ℕ → Type 0 where
  none : AreCalled mains helpers in_helper [] []
  other : {node : TypedNode} {nodes : List TypedNode} {places : List ℕ} → node.part.use_of ≡ None → AreCalled mains helpers in_helper nodes places → AreCalled mains helpers in_helper (node ∷ nodes) places
  called : {node : TypedNode} {nodes : List TypedNode} {place : ℕ} {places : List ℕ} {u : Use} → node.part.use_of ≡ Some u
      → slice_get (if in_helper || node.part.inside then helpers else mains) place ≡ Some u
      → AreCalled mains helpers in_helper nodes places → AreCalled mains helpers in_helper (node ∷ nodes) (place ∷ places)

-- the same of several instances
pub data AreAllCalled (mains helpers : List Use) (in_helper : Bool) : List Body → List (List ℕ) → Type 0 where
  none : AreAllCalled mains helpers in_helper [] []
  more : {body : Body} {bodies : List Body} {places : List ℕ} {all : List (List ℕ)} → AreCalled mains helpers in_helper body.nodes places → AreAllCalled mains helpers in_helper bodies all → AreAllCalled mains helpers in_helper (body ∷ bodies) (places ∷ all)

-- a function of the ground program is that instance, with the types of its nodes and the places of what its uses call
pub record IsInstance (p : Program) (mains helpers : List Use) (in_helper : Bool) (f : GroundFun) (body : Body) : Type 0 where
  pub function : function_named p body.use_of.name ≡ Some (function_of f)
  pub name : (function_of f).name.text ≡ body.use_of.name
  pub type : f.ty ≡ body.use_of.type
  pub types : f.types ≡ types_in body.nodes
  pub calls : AreCalled mains helpers in_helper body.nodes f.calls

pub data Are (p : Program) (mains helpers : List Use) (in_helper : Bool) : List GroundFun → List Body → Type 0 where
  none : Are p mains helpers in_helper [] []
  more : {f : GroundFun} {fs : List GroundFun} {body : Body} {bodies : List Body} → IsInstance p mains helpers in_helper f body → Are p mains helpers in_helper fs bodies → Are p mains helpers in_helper (f ∷ fs) (body ∷ bodies)

-- the ground program of a program with these principal schemes and types
pub record IsGrounded (p : Program) (schemes : List Scheme) (types : List Ty) (g : GroundProgram) : Type 0 where
  pub mains : List Body
  pub helpers : List Body
  pub program : g.program.now ≡ p
  pub instances : AreInstances p schemes types mains helpers
  pub shaped : AreShaped mains helpers
  pub funs : Are p (uses_of mains) (uses_of helpers) false g.funs mains
  pub others : Are p (uses_of mains) (uses_of helpers) true g.helpers helpers
