use Rattle.std.proofs.Common.{◌≡◌, ◌&&◌, ◌++◌, not, map}
use Rattle.std.specs.BTreeSet.{contains}
use Rattle.std.specs.List.{filter}
use Rattle.std.specs.Ordering.{nat_cmp}
use Rattle.lk_types.specs.declared.scheme.Lack.{Lack}
use Rattle.lk_infer.specs.LacksInOrder.{has_lack, lack_of}
use Rattle.lk_infer.proofs.lacks.Shown.without.Given as goal

abbrev pub invariant-loop-pair : goal.invariant-loop-pair
invariant-loop-pair l =
    l.lacks ++ filter (λ (lack : Lack). contains nat_cmp l.rows lack.var && not (has_lack l.others lack)) (map lack_of l.pair-iterator)
    ≡ filter (λ (lack : Lack). contains nat_cmp l.rows lack.var && not (has_lack l.others lack)) l.fn.self
