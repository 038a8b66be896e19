use Rattle.std.proofs.Common.{◌≡◌, Some, subst}
use Rattle.std.specs.Prelude.{IfOk}
use Rattle.lk_ground_types.specs.Bound.{grounding_in}
use Rattle.lk_ground_types.specs.Grounds.{at}
use Rattle.lk_ground_types.specs.Least.{AreSameAt, IsLeastBut}
use Rattle.lk_types.specs.Grounding.{Grounding, under}
use Rattle.lk_types.specs.Variables.{variables_of}
use Rattle.lk_mono.proofs.look.bindings_of.Goals as goal

pub returns-clause-least : goal.returns-clause-least
returns-clause-least c = subst (λ t. IfOk c.of.result (λ bindings. IsLeastBut (variables_of t) (grounding_in c.args.grounds.now bindings))) c.in_ok-tree.ensures c.of.ensures.least

pub returns-clause-same : goal.returns-clause-same
returns-clause-same c =
    subst (λ t. IfOk c.of.result (λ bindings. (σ : Grounding) → under σ t ≡ Some (at c.args.grounds.now c.args.number) → AreSameAt (variables_of t) (grounding_in c.args.grounds.now bindings) σ)) c.in_ok-tree.ensures c.of.ensures.same
