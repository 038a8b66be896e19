use Rattle.std.proofs.Common.{◌∙◌, sym}
use Rattle.serde_json.specs.View.{view}
use Rattle.lk_tables.proofs.Members.{is_row_with}
use Rattle.lk_tables.proofs.checks.is_row.Goals as goal

pub returns-then-has_members : goal.returns-then-has_members
returns-then-has_members c = c.has_cells.ensures ∙ sym (is_row_with c.args.columns.now (view c.args.row.now) (sym c.has_members.ensures ∙ c.if-has_members.true))
