use Rattle.std.proofs.Common.{ap, subst, sym, ◌∙◌, ◌++◌, ◌∷◌, List, Option, []}
use Rattle.lk_cps.proofs.Keeping.{a_turn, no_turn}
use Rattle.lk_cps.proofs.positions.look_behind.Goals as goal
use Rattle.lk_cps.specs.Steps.{HasLooked}
use Rattle.lk_ir.specs.declared.nodes.Cont.{Cont}

pub returns-in_ok-push-in-Some : goal.returns-in_ok-push-in-Some
returns-in_ok-push-in-Some c =
    subst (λ (of : List (Option Cont)). HasLooked c.args.forms.now c.args.form.now [] (record { of = of; live = c.args.live })) (sym (c.in_ok-push-in-Some.ensures.ok ∙ ap (λ (xs : List (Option Cont)). xs ++ c.in_ok-cont-in-Some.cont ∷ []) c.new-of.ensures))
    (a_turn c.args.forms.now c.args.form.now c.in-Some.body c.in_ok-cont-in-Some.cont c.args.live c.requires c.in-Some.ensures c.in_ok-cont-in-Some.ensures)

pub returns-in-None : goal.returns-in-None
returns-in-None c = subst (λ (of : List (Option Cont)). HasLooked c.args.forms.now c.args.form.now [] (record { of = of; live = c.args.live })) (sym c.new-of.ensures) (no_turn c.args.forms.now c.args.form.now c.args.live c.requires c.in-None.ensures)
