use Rattle.std.proofs.Common.{◌∙◌, sym, ap, is_some, rules}
use Rattle.std.specs.Iterator.Adapters.{rev_source}
use Rattle.std.specs.Slice.Iter.{iter_rest}
use Rattle.lk_equations.proofs.Columns.{none_seen, one_more_text, twice_there}
use Rattle.lk_equations.proofs.proper.make_row.Goals as goal

pub loop-column-init : goal.loop-column-init
loop-column-init c = none_seen _ _ _ c.new-row.ensures.empty (search rules)

pub returns-then-is_some : goal.returns-then-is_some
returns-then-is_some c =
    twice_there (iter_rest (rev_source c.next.new.self)) c.in-Some.column.now c.as_str.result.now c.as_str.ensures c.loop-column.invariant c.in-Some.ensures.steps
    (sym (ap is_some c.in_ok-twice.ensures.old) ∙ sym c.if-is_some.ensures)

pub loop-column-preserved : goal.loop-column-preserved
loop-column-preserved c =
    one_more_text (iter_rest (rev_source c.next.new.self)) c.in-Some.column.now c.as_str.result.now c.as_str.ensures c.loop-column.invariant c.in-Some.ensures.steps
    (sym (ap is_some c.in_ok-twice.ensures.old) ∙ sym c.if-is_some.ensures) c.in_ok-twice.ensures.updates
