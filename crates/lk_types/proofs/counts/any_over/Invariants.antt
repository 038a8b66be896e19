use Rattle.std.proofs.Common.{◌≡◌, drop}
use Rattle.std.specs.List.{list_any}
use Rattle.lk_types.specs.Counts.{is_over}
use Rattle.lk_types.proofs.counts.any_over.Given as goal

abbrev pub invariant-loop-place : goal.invariant-loop-place
invariant-loop-place l = list_any (is_over l.counts) (drop l.place-index l.places) ≡ list_any (is_over l.counts) l.places
