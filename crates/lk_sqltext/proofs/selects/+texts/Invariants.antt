use Rattle.std.proofs.Common.{◌≡◌, ◌++◌, take}
use Rattle.std.specs.Prelude.{codes}
use Rattle.lk_sql.specs.Text.{output_text, scalar_text, select_text}
use Rattle.lk_sqltext.proofs.Lists.{front, behind}
use Rattle.lk_sqltext.proofs.selects.+texts.Given as goal

abbrev pub invariant-write_operands-loop-operand : goal.invariant-write_operands-loop-operand
invariant-write_operands-loop-operand l = l.text ≡ (l.fn.text ++ front scalar_text l.fn.operands) ++ behind l.between scalar_text (take l.operand-index l.rest)

abbrev pub invariant-write_selects-loop-select : goal.invariant-write_selects-loop-select
invariant-write_selects-loop-select l = l.text ≡ (l.fn.text ++ front select_text l.fn.selects) ++ behind (codes " UNION ALL ") select_text (take l.select-index l.rest)

abbrev pub invariant-write_outs-loop-out : goal.invariant-write_outs-loop-out
invariant-write_outs-loop-out l = l.text ≡ (l.fn.text ++ front output_text l.fn.outs) ++ behind (codes ", ") output_text (take l.out-index l.rest)
