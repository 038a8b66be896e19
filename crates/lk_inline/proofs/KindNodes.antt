-- The types of the nodes that are still to come stand in order.
use Rattle.std.proofs.Common.{List, [], ◌∷◌}
use Rattle.lk_inline.specs.KindsOfTypes.{IsInOrder}
use Rattle.lk_sites.specs.Pending.{Pending}
use Rattle.lk_sites.specs.Takes.{Takes, called, other}
use Rattle.lk_sound.specs.Nodes.{TypedNode, Use}
use Rattle.lk_types.specs.Each.{Each}

-- the columns of lists at these nodes stand in byte order
abbrev pub AreOrderedNodes : List TypedNode → Type 0
AreOrderedNodes nodes = Each (λ (node : TypedNode). IsInOrder node.part.type) nodes

-- nodes have the types that are taken for them
pub taken_in_order : (helpers : List Use) (nodes : List TypedNode) (p q : Pending) → Takes helpers nodes p q → Each IsInOrder p.types → AreOrderedNodes nodes
taken_in_order helpers [] p q takes order = tt
taken_in_order helpers (node ∷ nodes) _ q (other is rest) order = (order.0, taken_in_order helpers nodes _ q rest order.1)
taken_in_order helpers (node ∷ nodes) _ q (called is at rest) order = (order.0, taken_in_order helpers nodes _ q rest order.1)
