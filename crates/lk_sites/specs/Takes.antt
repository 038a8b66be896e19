-- What a walk takes for nodes in text order: the type of each, and for each use the helper that it calls.
use Rattle.std.specs.Prelude.{◌≡◌, ℕ, List, [], ◌∷◌, Some, None, slice_get}
use Rattle.lk_sites.specs.Pending.{Pending, pending}
use Rattle.lk_sound.specs.Nodes.{Use, TypedNode}
use Rattle.lk_types.specs.declared.ground.Ground.{Ground}

pub data Takes (helpers : List Use) : List TypedNode → Pending → Pending → Type 0 where
  none : {p : Pending} → Takes helpers [] p p
  other : {node : TypedNode} {nodes : List TypedNode} {types : List Ground} {calls : List ℕ} {q : Pending} → node.part.use_of ≡ None
      → Takes helpers nodes (pending types calls) q → Takes helpers (node ∷ nodes) (pending (node.part.type ∷ types) calls) q
  called : {node : TypedNode} {nodes : List TypedNode} {types : List Ground} {calls : List ℕ} {q : Pending} {u : Use} {h : ℕ} → node.part.use_of ≡ Some u → slice_get helpers h ≡ Some u
      → Takes helpers nodes (pending types calls) q → Takes helpers (node ∷ nodes) (pending (node.part.type ∷ types) (h ∷ calls)) q
