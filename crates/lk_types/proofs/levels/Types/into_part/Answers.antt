use Rattle.std.proofs.Common.{ap, drop, refl, take, ◌∙◌}
use Rattle.lk_types.proofs.Kept.{part_types}
use Rattle.lk_types.proofs.levels.Types.into_part.Goals as goal

pub returns : goal.returns
returns c =
    c.of.ensures
    ∙ part_types c.self.inside.levels.items _ c.self.inside.roots.items _ _ c.args.from c.args.count refl c.as_slice.ensures.value (c.in_ok-kept.ensures.items ∙ c.some_numbers-numbers.ensures)
    ∙ ap (λ ts. take c.args.count (drop c.args.from ts)) c.self.view_is
