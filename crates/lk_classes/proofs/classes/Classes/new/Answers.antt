use Rattle.std.proofs.Common.{sym, ap, subst, ◌∙◌}
use Rattle.lk_classes.specs.Forest.{IsForest, names_of}
use Rattle.lk_classes.proofs.Trees.{is_forest, names_of-forest, none}
use Rattle.lk_classes.proofs.classes.Classes.new.Goals as goal

pub invariant_of-result : goal.invariant_of-result
invariant_of-result c = subst (λ ms. IsForest ms (names_of ms)) (sym c.new.ensures.items) (is_forest none)

pub returns : goal.returns
returns c = ap names_of c.new.ensures.items ∙ names_of-forest none
