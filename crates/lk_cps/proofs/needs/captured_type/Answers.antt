use Rattle.std.proofs.Common.{ap, ◌∙◌}
use Rattle.std.proofs.lemmas.Result.{IfOk-weaker}
use Rattle.lk_cps.proofs.Slots.{no_body, type_under}
use Rattle.lk_cps.proofs.needs.captured_type.Goals as goal
use Rattle.lk_ir.specs.Tables.{body_at}
use Rattle.lk_ir.specs.declared.nodes.Forms.{Forms}

pub returns-in-Some : goal.returns-in-Some
returns-in-Some c =
    IfOk-weaker c.type_of.result _ _
    (λ ty is. type_under c.args.table.now c.args.label c.args.name ty c.in-Some.body.now (c.in-Some.ensures ∙ ap (λ (f : Forms). body_at f c.args.label) c.forms.ensures) is)
    c.type_of.ensures

pub returns-in-None : goal.returns-in-None
returns-in-None c = no_body c.args.table.now c.args.label c.args.name 0 (c.in-None.ensures ∙ ap (λ (f : Forms). body_at f c.args.label) c.forms.ensures)
