use Rattle.std.proofs.Common.{◌∙◌, sym, ap, ap₂, ◌++◌, ◌∷◌, []}
use Rattle.lk_locals.specs.Layers.{layered, over}
use Rattle.lk_locals.proofs.Over.{over-none}
use Rattle.lk_locals.proofs.locals.own_layer.Goals as goal

pub returns-in_default : goal.returns-in_default
returns-in_default c =
    ap₂ (λ layers own. over (layered layers) own) c.in_default.ensures.1 c.new.ensures ∙ over-none (layered []) ∙ ap layered (sym c.in_default.ensures.0)

pub returns-in_ok-push-in-Err : goal.returns-in_ok-push-in-Err
returns-in_ok-push-in-Err c =
    ap (over (layered c.push.new.self)) c.new-in-Err.ensures
    ∙ over-none (layered c.push.new.self)
    ∙ ap layered (c.in_ok-push-in-Err.ensures.ok ∙ ap (λ layer. c.pop.new.self ++ layer ∷ []) c.in-Err.ensures.err ∙ sym c.in-Some.ensures)
