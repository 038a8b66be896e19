-- What is taken for nodes one after another.
use Rattle.std.proofs.Common.{List, [], ◌∷◌, ◌++◌}
use Rattle.lk_sites.specs.Pending.{Pending, pending}
use Rattle.lk_sites.specs.Takes.{Takes, none, other, called}
use Rattle.lk_sound.specs.Nodes.{Use, TypedNode}

-- first for these, then for those
pub takes_split : (helpers : List Use) (xs ys : List TypedNode) (p r : Pending) → Takes helpers (xs ++ ys) p r → (q : Pending) × Takes helpers xs p q × Takes helpers ys q r
takes_split helpers [] ys p r takes = (p, none, takes)
takes_split helpers (x ∷ xs) ys _ r (other {types = types} {calls = calls} is takes) = let rest = takes_split helpers xs ys (pending types calls) r takes in (rest.0, other is rest.1, rest.2)
takes_split helpers (x ∷ xs) ys _ r (called {types = types} {calls = calls} is at takes) = let rest = takes_split helpers xs ys (pending types calls) r takes in (rest.0, called is at rest.1, rest.2)
