use Rattle.std.proofs.Common.{◌≡◌, ◌++◌, take}
use Rattle.std.specs.Prelude.{codes}
use Rattle.lk_sql.specs.Text.{key_text}
use Rattle.lk_sqltext.proofs.Lists.{front, behind}
use Rattle.lk_sqltext.proofs.queries.write_each_key.Given as goal

abbrev pub invariant-loop-key : goal.invariant-loop-key
invariant-loop-key l = l.text ≡ (l.fn.text ++ front key_text l.fn.keys) ++ behind (codes ", ") key_text (take l.key-index l.rest)
