use Rattle.std.proofs.Common.{◌≡◌, take, None}
use Rattle.lk_types.specs.Each.{Each}
use Rattle.lk_arena.proofs.by_label.Finder.lack.Given as goal
use Rattle.lk_arena.specs.Shapes.{found_at}

abbrev pub invariant-loop-other : goal.invariant-loop-other
invariant-loop-other l = Each (λ f. found_at l.self f.label ≡ None) (take l.other-index l.others)
