use Rattle.std.proofs.Common.{◌≡◌, ◌++◌, Some, List, map, subst, take_all}
use Rattle.lk_ir.specs.declared.nodes.Kept.{Kept}
use Rattle.lk_code.specs.Tables.{type_at}
use Rattle.lk_defun.proofs.Added.{added}
use Rattle.lk_defun.proofs.types.push_kept.Goals as goal

pub returns : goal.returns
returns c = added c.args.types.now c.loop-k.types (map (type_at c.args.forms.now) (map (λ (k : Kept). k.ty) c.args.kept.now))
    (subst (λ (xs : List Kept). map Some c.loop-k.types ≡ map Some c.args.types.now ++ map (type_at c.args.forms.now) (map (λ (k : Kept). k.ty) xs)) (take_all c.loop-k.k-index c.args.kept.now c.loop-k-test.false) c.loop-k.invariant)
