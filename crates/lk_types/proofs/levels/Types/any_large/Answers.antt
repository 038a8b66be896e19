use Rattle.std.proofs.Common.{ap, length, subst, ◌∙◌, ◌≡◌}
use Rattle.std.specs.List.{list_any}
use Rattle.std.specs.Prelude.{nat_lt}
use Rattle.lk_types.proofs.Counted.{answer_same}
use Rattle.lk_types.proofs.levels.Types.any_large.Goals as goal
use Rattle.lk_types.specs.Counts.{AreCounts}
use Rattle.lk_types.specs.Levels.{built}
use Rattle.lk_types.specs.Sizes.{most_nodes, nodes}

pub returns : goal.returns
returns c =
    c.any_over.ensures
    ∙ answer_same c.self.inside.levels.items c.self.inside.roots.items _ _ _ c.self.invariant (subst (λ ls. (length c.in_ok-counts.counts.items ≡ length ls) × AreCounts c.in_ok-counts.counts.items (built ls)) c.as_slice.ensures.value c.in_ok-counts.ensures) c.as_slice-2.ensures.value c.as_slice-3.ensures.value
    ∙ ap (list_any (λ t. nat_lt most_nodes (nodes t))) c.self.view_is
