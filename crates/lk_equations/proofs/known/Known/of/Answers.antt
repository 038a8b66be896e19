use Rattle.std.proofs.Common.{subst, sym}
use Rattle.lk_equations.specs.Numbered.{HasNumbers}
use Rattle.lk_equations.proofs.known.Known.of.Goals as goal

pub invariant_of-result : goal.invariant_of-result
invariant_of-result c = subst (λ names. HasNumbers names c.args.scheme) (sym c.in_ok-shared.ensures) (record { numbers = c.in_ok-names.ensures.numbers; count_is = c.in_ok-names.ensures.count })
