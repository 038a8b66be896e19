use Rattle.std.proofs.Common.{ap, ◌∙◌}
use Rattle.lk_types.specs.declared.ty.Ty.TheVariants as ty
use Rattle.lk_typing.specs.Equations.{own}
use Rattle.lk_typing.specs.Walk.{Told}
use Rattle.lk_equations.specs.Forms.{query_told}
use Rattle.lk_equations.proofs.forms.query_own.Goals as goal

pub returns : goal.returns
returns c =
    let said : Told = query_told c.args.keys.now c.args.effects.now (ty.Var c.args.body) c.args.next in
    ap (λ (t : Told). own c.of.result t.equations t.next) c.in_ok-told.ensures ∙ ap (λ t. own t said.equations said.next) c.of.ensures
