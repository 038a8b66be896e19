use Rattle.std.proofs.Common.{◌≡◌}
use Rattle.lk_compile.specs.Blocks.{AreRunSoFar}
use Rattle.lk_compile.proofs.blocks.all_blocks.Given as goal

abbrev pub invariant-loop-info : goal.invariant-loop-info
invariant-loop-info l = AreRunSoFar l.fn.tables.forms.tables l.fn.defs l.fn.queries l.fn.tables.funs l.label l.blocks l.left × (l.label ≡ l.info-index)
