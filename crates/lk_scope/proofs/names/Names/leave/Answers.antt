use Rattle.std.proofs.Common.{◌∙◌, sym, ap}
use Rattle.std.specs.FinSet as set
use Rattle.lk_scope.specs.Leaving.{without}
use Rattle.lk_scope.proofs.InScope.{without-last}
use Rattle.lk_scope.proofs.names.Names.leave.Goals as goal

pub loop-name-preserved : goal.loop-name-preserved
loop-name-preserved c =
    ap (without c.pop.new.self) (c.remove.ensures ∙ ap (set.remove c.loop-name.self) c.as_str.ensures)
    ∙ sym (without-last c.pop.new.self c.in-Some.name c.loop-name.self)
    ∙ ap (λ left. without left c.loop-name.self) (sym c.in-Some.ensures)
    ∙ c.loop-name.invariant
