use Rattle.std.proofs.Common.{◌≡◌, List, ◌∙◌, subst}
use Rattle.std.proofs.lemmas.Result.{IfOk-weaker}
use Rattle.lk_types.specs.Each.{Each, OneOf}
use Rattle.lk_types.specs.declared.ty.Variable.{Variable}
use Rattle.lk_unify.proofs.DistinctVariables.{has_all, has_only}
use Rattle.lk_unify.proofs.variables.distinct_variables.Goals as goal

pub returns-clause-all : goal.returns-clause-all
returns-clause-all c =
    IfOk-weaker c.items_of.result _ _
    (λ items are. subst (λ (all : List Variable). Each (λ x. OneOf (λ y. y ≡ x) items) all) (c.as_slice.ensures ∙ c.in_ok-variables.ensures)
    (has_all c.as_slice.result.now c.in_ok-set.set c.in_ok-set.ensures items are))
    c.items_of.ensures

pub returns-clause-only : goal.returns-clause-only
returns-clause-only c =
    IfOk-weaker c.items_of.result _ _
    (λ items are. subst (λ (all : List Variable). Each (λ x. OneOf (λ y. y ≡ x) all) items) (c.as_slice.ensures ∙ c.in_ok-variables.ensures)
    (has_only c.as_slice.result.now c.in_ok-set.set c.in_ok-set.ensures items are))
    c.items_of.ensures
