use Rattle.std.proofs.Common.{◌≡◌, take, false}
use Rattle.lk_types.specs.Each.{Each}
use Rattle.lk_arena.proofs.by_label.lacks_all.Given as goal
use Rattle.lk_arena.specs.Lookups.{is_noted}

abbrev pub invariant-loop-other : goal.invariant-loop-other
invariant-loop-other l = Each (λ f. is_noted l.labels f.label ≡ false) (take l.other-index l.others)
