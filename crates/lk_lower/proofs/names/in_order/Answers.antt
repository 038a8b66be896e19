use Rattle.std.proofs.Common.{ap, sym, subst, ◌∙◌}
use Rattle.std.specs.Cmp.Lexicographic.{slice_cmp}
use Rattle.std.specs.List.Sorted.{IsStrictlySortedBy}
use Rattle.std.specs.Ordering.{nat_cmp}
use Rattle.lk_index.specs.Free.{texts}
use Rattle.lk_lower.proofs.Naming.{collected_rise}
use Rattle.lk_lower.proofs.names.in_order.Goals as goal

pub returns : goal.returns
returns c = subst (IsStrictlySortedBy (slice_cmp nat_cmp)) (sym (c.in_ok-copies.ensures ∙ ap texts (c.as_slice.ensures ∙ c.in_ok-items.ensures))) (collected_rise c.args.names.now c.in_ok-set.set c.in_ok-set.ensures)
