use Rattle.lk_lower.proofs.TypesOnce.{none_hinted}
use Rattle.lk_lower.proofs.type_table.TypeTable.new.Goals as goal

pub invariant_of-result : goal.invariant_of-result
invariant_of-result c = none_hinted _ _ c.new.ensures
