use Rattle.std.proofs.Common.{ap, sym, ◌∙◌, ◌∷◌}
use Rattle.lk_outline.specs.Outline.{with_names}
use Rattle.lk_outline.proofs.Put.{names_last}
use Rattle.lk_outline.proofs.noting.push_names.Goals as goal

pub loop-name-preserved : goal.loop-name-preserved
loop-name-preserved c =
    ap (with_names c.in-Some.front.now c.args.binder) (c.in_ok-push.ensures ∙ ap (λ text. (text, c.args.binder) ∷ c.loop-name.scope) c.as_str.ensures)
    ∙ sym (names_last c.in-Some.front.now c.in-Some.name.now c.args.binder c.loop-name.scope)
    ∙ ap (λ words. with_names words c.args.binder c.loop-name.scope) (sym c.in-Some.ensures.cases.0)
    ∙ c.loop-name.invariant
