use Rattle.std.proofs.Common.{sym, ◌∙◌}
use Rattle.lk_lower.proofs.TypesOnce.{new_here}
use Rattle.lk_lower.proofs.type_table.find.Goals as goal

pub returns-in-None-clause-new : goal.returns-in-None-clause-new
returns-in-None-clause-new c = new_here c.args.types.now c.args.numbers.now c.args.ty.now c.args.hint c.requires.table c.requires.hint (sym (c.copied.ensures ∙ c.get.ensures.value) ∙ c.in-None.is)
