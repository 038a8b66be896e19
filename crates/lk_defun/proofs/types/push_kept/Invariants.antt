use Rattle.std.proofs.Common.{◌≡◌, ◌++◌, Some, map, take}
use Rattle.lk_code.specs.Tables.{type_at}
use Rattle.lk_ir.specs.declared.nodes.Kept.{Kept}
use Rattle.lk_defun.proofs.types.push_kept.Given as goal

abbrev pub invariant-loop-k : goal.invariant-loop-k
invariant-loop-k l = map Some l.types ≡ map Some l.initial.types ++ map (type_at l.forms) (map (λ (k : Kept). k.ty) (take l.k-index l.kept))
