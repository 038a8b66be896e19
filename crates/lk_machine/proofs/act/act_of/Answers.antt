use Rattle.std.proofs.Common.{sym, subst}
use Rattle.lk_ir.specs.LetNormal.{act}
use Rattle.lk_machine.specs.Acts.{IsActOf}
use Rattle.lk_machine.proofs.act.act_of.Goals as goal

pub returns-in-Print : goal.returns-in-Print
returns-in-Print c =
    subst (λ k. IsActOf c.args.node c.args.scope c.print.result (act c.args.node.forms.now c.args.node.form.now.at k c.args.node.form.now.tails c.args.scope c.args.values)) (sym c.in-Print.is)
    (c.print.ensures c.args.node.form.now.tails c.args.scope)
