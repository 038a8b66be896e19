use Rattle.std.proofs.Common.{◌≡◌, ℕ, List, take}
use Rattle.lk_sem.proofs.PlacesFound.{found_or}
use Rattle.lk_sem.proofs.catalog.places_by_name.Given as goal

abbrev pub invariant-loop-place : goal.invariant-loop-place
invariant-loop-place l = (name : List ℕ) → found_or (take l.place l.defs) l.defs l.places name ≡ found_or l.defs l.defs l.initial.places name
