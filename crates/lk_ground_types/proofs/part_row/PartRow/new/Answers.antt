use Rattle.lk_ground_types.proofs.StringRows.{none_in}
use Rattle.lk_ground_types.proofs.part_row.PartRow.new.Goals as goal

pub returns : goal.returns
returns c = none_in _ c.new.ensures.empty
