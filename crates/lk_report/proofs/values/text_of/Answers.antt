use Rattle.lk_ast.proofs.PlainLevels.{of_base}
use Rattle.lk_ast.specs.declared.table.Base.TheVariants as base
use Rattle.lk_report.proofs.values.text_of.Goals as goal

pub value_text-requires : goal.value_text-requires
value_text-requires c = record { plain = of_base (base.Text c.in_ok-copy.field-0) }
