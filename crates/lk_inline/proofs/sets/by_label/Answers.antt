use Rattle.std.proofs.Common.{ap, ap₂, ◌∙◌}
use Rattle.std.specs.FinMap as finite
use Rattle.std.specs.Iterator.Adapters.{rev_source}
use Rattle.std.specs.Slice.Iter.{iter_rest}
use Rattle.lk_inline.proofs.SetMaps.{put_all, put_last, put_onto_none}
use Rattle.lk_inline.proofs.sets.by_label.Goals as goal

pub loop-item-init : goal.loop-item-init
loop-item-init c =
    ap₂ put_all (ap (λ it. iter_rest (rev_source it)) c.into_iter-item-iterator.ensures.into_iter_gives ∙ ap iter_rest c.rev-item-items.ensures.source ∙ c.iter.ensures.rest) c.new-parts.ensures
    ∙ put_onto_none c.args.items.now

pub loop-item-preserved : goal.loop-item-preserved
loop-item-preserved c =
    ap (put_all (iter_rest (rev_source c.next.new.self))) (c.in_ok-insert.ensures ∙ ap (λ label. finite.insert c.loop-item.parts label c.in-Some.item.now.part) c.as_str.ensures)
    ∙ put_last _ (iter_rest (rev_source c.next.new.self)) c.in-Some.item.now c.loop-item.parts c.in-Some.ensures.steps
    ∙ c.loop-item.invariant
