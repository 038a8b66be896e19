use Rattle.std.proofs.Common.{◌≡◌, ◌++◌, take}
use Rattle.std.specs.Prelude.{codes}
use Rattle.lk_sql.specs.Text.{from_text}
use Rattle.lk_sqltext.proofs.Lists.{front, behind}
use Rattle.lk_sqltext.proofs.selects.write_generators.Given as goal

abbrev pub invariant-loop-from : goal.invariant-loop-from
invariant-loop-from l = l.text ≡ (l.fn.text ++ front from_text l.fn.froms) ++ behind (codes ", ") from_text (take l.from-index l.rest)
