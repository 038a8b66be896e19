use Rattle.std.proofs.Common.{◌≡◌, ◌≤◌, ◌++◌, length, min, arith, ap, sym}
use Rattle.lk_infer.proofs.Declared.{none_behind}
use Rattle.lk_infer.proofs.declare.declare.Goals as goal

pub last_first-init : goal.last_first-init
last_first-init c =
    let least = c.min-count.ensures in
    (omega arith, omega arith, sym (ap (λ es. es ++ c.args.earlier.now) (none_behind c.functions_in-functions.result.now c.args.schemes.now c.min-count.result c.min-count.ensures)))
