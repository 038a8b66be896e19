use Rattle.std.proofs.Common.{ap, drop, subst, take, ◌∙◌, ◌≡◌}
use Rattle.std.specs.Prelude.{IfOk}
use Rattle.lk_types.proofs.Kept.{part_table, part_types}
use Rattle.lk_types.proofs.levels.Types.part.Goals as goal

pub thinned-requires : goal.thinned-requires
thinned-requires c = part_table c.self.inside.levels.items _ c.self.inside.roots.items _ _ c.args.from c.args.count c.as_slice-2.ensures.value c.as_slice.ensures.value c.some_numbers-roots.ensures c.self.invariant

pub returns : goal.returns
returns c =
    let types = part_types c.self.inside.levels.items _ c.self.inside.roots.items _ _ c.args.from c.args.count c.as_slice-2.ensures.value c.as_slice.ensures.value c.some_numbers-roots.ensures ∙ ap (λ ts. take c.args.count (drop c.args.from ts)) c.self.view_is in
    subst (λ ts. IfOk c.thinned.result (λ part. part ≡ ts)) types c.thinned.ensures
