use Rattle.std.proofs.Common.{◌∙◌, ap, ◌++◌, ◌∷◌, []}
use Rattle.lk_locals.specs.Layers.{layered}
use Rattle.lk_locals.specs.Names.{bind}
use Rattle.lk_locals.proofs.Over.{layered-last, over-bind}
use Rattle.lk_locals.proofs.locals.Locals.bind.Goals as goal

pub returns : goal.returns
returns c =
    ap layered (c.in_ok-new-2.ensures ∙ c.in_ok-push.ensures.ok ∙ ap (λ layer. c.own_layer.new.layers ++ layer ∷ []) (c.in_ok-new.ensures ∙ c.in_ok-insert.ensures))
    ∙ layered-last c.own_layer.new.layers (bind c.args.name.now c.args.value c.in_ok-layer.layer)
    ∙ over-bind (layered c.own_layer.new.layers) c.in_ok-layer.layer c.args.name.now c.args.value
    ∙ ap (bind c.args.name.now c.args.value) (c.in_ok-layer.ensures ∙ ap layered c.in_ok-layers.ensures ∙ c.self.view_is)
