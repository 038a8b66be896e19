use Rattle.std.proofs.Common.{◌∙◌, ap, sym}
use Rattle.std.specs.FinMap as fin
use Rattle.lk_ground_types.proofs.StringRows.{get_is, take_is}
use Rattle.lk_ground_types.proofs.part_row.PartRow.take.Goals as goal

pub returns-clause-taken : goal.returns-clause-taken
returns-clause-taken c = c.remove.ensures.value ∙ sym (get_is c.self.inside.parts c.args.label.now) ∙ ap (λ row. fin.get row c.args.label.now) c.self.view_is

pub returns-clause-left : goal.returns-clause-left
returns-clause-left c = take_is c.self.inside.parts c.remove.new.self c.args.label.now c.remove.ensures.updates ∙ ap (λ row. fin.remove row c.args.label.now) c.self.view_is
