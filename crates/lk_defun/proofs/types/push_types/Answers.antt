use Rattle.std.proofs.Common.{◌≡◌, ◌++◌, Some, List, ℕ, map, subst, take_all}
use Rattle.lk_code.specs.Tables.{type_at}
use Rattle.lk_defun.proofs.Added.{added}
use Rattle.lk_defun.proofs.types.push_types.Goals as goal

pub returns : goal.returns
returns c = added c.args.types.now c.loop-number.types (map (type_at c.args.forms.now) c.args.numbers.now)
    (subst (λ (xs : List ℕ). map Some c.loop-number.types ≡ map Some c.args.types.now ++ map (type_at c.args.forms.now) xs) (take_all c.loop-number.number-index c.args.numbers.now c.loop-number-test.false) c.loop-number.invariant)
