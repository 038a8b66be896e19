use Rattle.std.proofs.Common.{map, subst, sym}
use Rattle.std.specs.Prelude.{sum}
use Rattle.lk_types.proofs.Counted.{row_counted}
use Rattle.lk_types.proofs.counts.count_row.Goals as goal
use Rattle.lk_types.specs.Counts.{part_nodes, IsCount}
use Rattle.lk_types.specs.declared.ty.Variable.TheVariants as variable

pub returns : goal.returns
returns c = λ ts are.
    subst (IsCount c.both.result) (sym (row_counted ts c.args.row.now)) (c.both.ensures _ _ (subst (λ fs. IsCount c.count_fields.result (sum (map (part_nodes ts) fs))) c.as_slice.ensures (c.count_fields.ensures ts are)) (c.count_tail.ensures variable.Row))
