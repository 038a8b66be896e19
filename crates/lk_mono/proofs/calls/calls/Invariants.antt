use Rattle.std.proofs.Common.{List, drop}
use Rattle.lk_mono.proofs.CallLists.{Ahead}
use Rattle.lk_mono.specs.Held.{AreSited}
use Rattle.lk_mono.specs.Listed.{IsListedAt}
use Rattle.lk_mono.specs.Looks.{as_uses}
use Rattle.lk_mono.specs.Queues.{as_list}
use Rattle.lk_sound.specs.Nodes.{TypedNode}
use Rattle.lk_types.specs.Each.{Each}
use Rattle.lk_mono.proofs.calls.calls.Given as goal

abbrev pub invariant-loop-found : goal.invariant-loop-found
invariant-loop-found l = (nodes : List TypedNode) → AreSited nodes (as_uses l.uses) → Each (IsListedAt (as_list l.mains) (as_list l.helpers) l.in_helper) nodes
    → Ahead (as_list l.mains) (as_list l.helpers) l.in_helper nodes l.places (as_uses (drop l.found-index l.uses))
