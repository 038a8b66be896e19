use Rattle.std.proofs.Common.{◌≡◌, length, List, sym, ◌∙◌, ap, subst, rules}
use Rattle.std.proofs.lemmas.List.{length-replicate}
use Rattle.std.specs.Prelude.{replicate}
use Rattle.std.proofs.lemmas.Result.{IfOk-weaker}
use Rattle.lk_types.specs.declared.equation.Equation.{Equation}
use Rattle.lk_unify.proofs.FineFirsts.{if_none, if_some}
use Rattle.lk_unify.proofs.SmallSides.{all_small, always, first_too_large, AllMatter}
use Rattle.lk_unify.proofs.small.first_too_large.Goals as goal
use Rattle.lk_unify.specs.declared.constraint.Sizing.{Sizing}
use Rattle.lk_unify.specs.declared.constraint.Sizing.TheVariants.{Always}

as_many : (es : List Equation) (ss : List Sizing) → ss ≡ replicate (length es) Always → length ss ≡ length es
as_many es ss is = ap length is ∙ length-replicate (length es) Always

all_matter : (es : List Equation) (ss : List Sizing) → ss ≡ replicate (length es) Always → AllMatter ss
all_matter es ss is = subst AllMatter (sym is) (always (length es))

pub first_beyond-requires-clause-sizings : goal.first_beyond-requires-clause-sizings
first_beyond-requires-clause-sizings c =
    let filled : c.in_ok-sizings.sizings.items ≡ replicate (length c.args.equations.now) Always = c.in_ok-sizings.ensures.items_if_clones_equal (λ y h. search rules) in
    as_many c.args.equations.now c.as_slice.result.now (c.as_slice.ensures.value ∙ filled)

pub returns-clause-small : goal.returns-clause-small
returns-clause-small c =
    let filled : c.in_ok-sizings.sizings.items ≡ replicate (length c.args.equations.now) Always = c.in_ok-sizings.ensures.items_if_clones_equal (λ y h. search rules) in
    let are : c.as_slice.result.now ≡ replicate (length c.args.equations.now) Always = c.as_slice.ensures.value ∙ filled in
    IfOk-weaker c.first_beyond.result _ _
    (if_none
    (all_small c.args.equations.now c.as_slice.result.now (as_many c.args.equations.now c.as_slice.result.now are) (all_matter c.args.equations.now c.as_slice.result.now are) c.requires.solution))
    c.first_beyond.ensures.few

pub returns-clause-first : goal.returns-clause-first
returns-clause-first c =
    let filled : c.in_ok-sizings.sizings.items ≡ replicate (length c.args.equations.now) Always = c.in_ok-sizings.ensures.items_if_clones_equal (λ y h. search rules) in
    let are : c.as_slice.result.now ≡ replicate (length c.args.equations.now) Always = c.as_slice.ensures.value ∙ filled in
    IfOk-weaker c.first_beyond.result _ _
    (if_some
    (first_too_large c.args.equations.now c.as_slice.result.now (as_many c.args.equations.now c.as_slice.result.now are) (all_matter c.args.equations.now c.as_slice.result.now are) c.requires.solution))
    c.first_beyond.ensures.first
