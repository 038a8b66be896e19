use Rattle.std.proofs.Common.{ap, ap₂, ◌∙◌}
use Rattle.std.specs.FinMap as finite
use Rattle.std.specs.Iterator.Adapters.{rev_source}
use Rattle.std.specs.Slice.Iter.{iter_rest}
use Rattle.lk_bag.proofs.ColumnMaps.{put_all, put_last, put_onto_none}
use Rattle.lk_bag.proofs.tables.kinds_of.Goals as goal

pub loop-column-init : goal.loop-column-init
loop-column-init c =
    ap₂ put_all (ap (λ it. iter_rest (rev_source it)) c.into_iter-column-iterator.ensures.into_iter_gives ∙ ap iter_rest c.rev-column-items.ensures.source ∙ c.iter.ensures.rest) c.new-kinds.ensures
    ∙ put_onto_none c.args.columns.now

pub loop-column-preserved : goal.loop-column-preserved
loop-column-preserved c =
    ap (put_all (iter_rest (rev_source c.next.new.self))) (c.in_ok-insert.ensures ∙ ap (λ label. finite.insert c.loop-column.kinds label c.in-Some.column.now.kind) c.as_str.ensures)
    ∙ put_last _ (iter_rest (rev_source c.next.new.self)) c.in-Some.column.now c.loop-column.kinds c.in-Some.ensures.steps
    ∙ c.loop-column.invariant
