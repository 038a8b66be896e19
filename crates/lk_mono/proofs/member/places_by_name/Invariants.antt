use Rattle.std.proofs.Common.{◌≡◌, take}
use Rattle.lk_types.specs.Rows.{Label}
use Rattle.lk_mono.proofs.Lookups.{found_or}
use Rattle.lk_mono.proofs.member.places_by_name.Given as goal

abbrev pub invariant-loop-place : goal.invariant-loop-place
invariant-loop-place l = (name : Label) → found_or (take l.place l.members) l.members l.places name ≡ found_or l.members l.members l.initial.places name
