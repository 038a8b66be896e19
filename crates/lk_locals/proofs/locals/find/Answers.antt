use Rattle.std.proofs.Common.{◌∙◌, ap}
use Rattle.std.specs.Iterator.Adapters.{rev_source}
use Rattle.std.specs.Slice.Iter.{iter_rest}
use Rattle.lk_locals.specs.Names.{lookup}
use Rattle.lk_locals.proofs.Over.{none_left, none_there, value_there}
use Rattle.lk_locals.proofs.locals.find.Goals as goal

pub returns-in-Some-get : goal.returns-in-Some-get
returns-in-Some-get c =
    value_there _ (iter_rest (rev_source c.next.new.self)) _ _ c.in-Some-get.value.now c.in-Some.ensures.steps (c.in-Some-get.ensures ∙ ap (λ layer. lookup layer c.args.name.now) c.get.ensures)
    ∙ c.loop-layer.invariant

pub loop-layer-preserved : goal.loop-layer-preserved
loop-layer-preserved c = none_there _ _ _ _ c.in-Some.ensures.steps (c.in_default.ensures ∙ ap (λ layer. lookup layer c.args.name.now) c.get.ensures) ∙ c.loop-layer.invariant

pub returns : goal.returns
returns c = none_left _ _ c.in-None.ensures.steps.0 ∙ c.loop-layer.invariant
