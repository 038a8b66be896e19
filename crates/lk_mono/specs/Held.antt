-- The instances that the code has, beside those of the definition.
use Rattle.std.specs.Prelude.{◌≡◌, ℕ, ◌+◌, List, [], ◌∷◌, Some, None, length, map}
use Rattle.lk_ast.specs.Functions.{functions_of, function_named}
use Rattle.lk_infer.specs.Inferred.{HasTypes}
use Rattle.lk_mono.specs.Instances.{AreDistinct, Body, IsBody, first_large, most_instances}
use Rattle.lk_mono.specs.Looks.{TheFound, as_uses}
use Rattle.lk_mono.specs.Members.{as_member, members_of}
use Rattle.lk_mono.specs.Queues.{as_list}
use Rattle.lk_mono.specs.declared.body.Body.{Body as TheBody}
use Rattle.lk_mono.specs.declared.body.Source.{Source}
use Rattle.lk_mono.specs.declared.queue.Queue.{Queue}
use Rattle.lk_names.specs.Programs.{IsBound}
use Rattle.lk_sound.specs.Nodes.{Use, TypedNode}
use Rattle.lk_outline.specs.Shown.{shown}
use Rattle.lk_outline.specs.Typed.{effects_in, typed_nodes}
use Rattle.lk_principal.specs.Law.{IsInstanceOf}
use Rattle.lk_types.specs.Each.{Each}
use Rattle.lk_types.specs.declared.ground.Ground.{Ground, out-Ground}

abbrev pub types_in : List TypedNode → List Ground
types_in nodes = map (λ node. node.part.type) nodes

-- a program with bound names, with what is inferred of it
pub record IsSource (source : Source) : Type 0 where
  pub bound : IsBound source.program.now
  pub typed : HasTypes source.program.now source.typed.now.schemes source.typed.now.types
  pub members : map as_member source.members.now ≡ members_of (functions_of source.program.now) source.typed.now.schemes source.typed.now.types

-- the uses among nodes, in text order, as they are found
pub data AreSited : List TypedNode → List TheFound → Type 0 where
  none : AreSited [] []
  other : {node : TypedNode} {nodes : List TypedNode} {found : List TheFound} → node.part.use_of ≡ None → AreSited nodes found → AreSited (node ∷ nodes) found
  use_at : {node : TypedNode} {nodes : List TypedNode} {u : Use} {f : TheFound} {found : List TheFound} → node.part.use_of ≡ Some u
      → f.inside ≡ node.part.inside → f.name ≡ u.name → f.type ≡ u.type
      → AreSited nodes found → AreSited (node ∷ nodes) (f ∷ found)

-- an instance of the program
pub record IsHeld (source : Source) (held : TheBody) (body : Body) : Type 0 where
  pub instance : IsBody source.program.now source.typed.now.schemes source.typed.now.types body.use_of body.nodes
  pub function : function_named source.program.now body.use_of.name ≡ Some held.member.now.function.now
  pub name : held.member.now.function.now.name.text ≡ body.use_of.name
  pub types : held.types ≡ types_in body.nodes
  pub nodes : body.nodes ≡ typed_nodes (effects_in (out-Ground body.use_of.type)) held.types (shown held.member.now.sites)
  pub uses : AreSited body.nodes (as_uses held.uses)
  pub fits : first_large body.nodes ≡ None

pub data AreHeld (source : Source) : List TheBody → List Body → Type 0 where
  none : AreHeld source [] []
  more : {held : TheBody} {helds : List TheBody} {body : Body} {bodies : List Body} → IsHeld source held body → AreHeld source helds bodies → AreHeld source (held ∷ helds) (body ∷ bodies)

-- a list of instances of the program, with its room
pub record IsSound (source : Source) (others : ℕ) (queue : Queue) : Type 0 where
  pub room : others + (length queue.listed + queue.room) ≡ most_instances
  pub instances : Each (λ u. IsInstanceOf source.program.now source.typed.now.schemes u.name u.type) (as_list queue.listed)
  pub distinct : AreDistinct (as_list queue.listed)
