use Rattle.std.specs.Prelude.{◌≡◌, ◌+◌, ◌-◌, ℕ, length, slice_index_or as get_or, None}
use Rattle.lk_unify.proofs.named_nodes.put_place.Given as goal

abbrev pub invariant-reaching : goal.invariant-reaching
invariant-reaching l = (i : ℕ) → get_or l.places.items i None ≡ get_or l.fn.places.items i None

abbrev pub decreases-reaching : goal.decreases-reaching
decreases-reaching l = l.number + 1 - length l.places.items
