use Rattle.std.proofs.Common.{◌∙◌, ap₂, string_bytes}
use Rattle.std.specs.FinMap as fin
use Rattle.lk_ground_types.proofs.StringRows.{put_is}
use Rattle.lk_ground_types.proofs.part_row.PartRow.put.Goals as goal

pub returns : goal.returns
returns c =
    put_is c.self.inside.parts c.insert.new.self (string_bytes c.in_ok-label.label) c.args.part c.in_ok-insert.ensures.updates
    ∙ ap₂ (λ row label. fin.insert row label c.args.part) c.self.view_is c.in_ok-label.ensures.ok
