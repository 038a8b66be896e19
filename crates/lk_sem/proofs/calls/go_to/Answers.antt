use Rattle.std.proofs.Common.{sym, ◌∙◌}
use Rattle.lk_sem.proofs.Going.{went}
use Rattle.lk_sem.proofs.calls.go_to.Goals as goal

pub returns-in-Some : goal.returns-in-Some
returns-in-Some c = λ f. (f, _, went _ _ f _ _ _ _ (sym c.in-Some.is ∙ c.in_ok-scope.ensures))
