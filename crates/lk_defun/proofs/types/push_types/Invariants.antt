use Rattle.std.proofs.Common.{◌≡◌, ◌++◌, Some, map, take}
use Rattle.lk_code.specs.Tables.{type_at}
use Rattle.lk_defun.proofs.types.push_types.Given as goal

abbrev pub invariant-loop-number : goal.invariant-loop-number
invariant-loop-number l = map Some l.types ≡ map Some l.initial.types ++ map (type_at l.forms) (take l.number-index l.numbers)
