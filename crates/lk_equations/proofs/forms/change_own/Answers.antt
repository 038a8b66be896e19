use Rattle.std.proofs.Common.{sym, ap, ◌∙◌}
use Rattle.std.proofs.lemmas.Result.{IfOk-weaker}
use Rattle.std.specs.Option.{option_map}
use Rattle.lk_typing.specs.Types.{labelled}
use Rattle.lk_typing.specs.Typing.{labels_of}
use Rattle.lk_types.specs.declared.ty.Ty.TheVariants as ty
use Rattle.lk_equations.specs.Forms.{sets_own}
use Rattle.lk_equations.proofs.Changes.{sets_own_is}
use Rattle.lk_equations.proofs.forms.change_own.Goals as goal

pub returns-in_ok-row_of-in-Some-default-empty : goal.returns-in_ok-row_of-in-Some-default-empty
returns-in_ok-row_of-in-Some-default-empty c = IfOk-weaker c.sets_own.result _ _ (λ own is. is
    ∙ ap (λ row. sets_own c.args.effects.now row (ty.Var c.args.cond) c.in-Some-default-empty.fields c.args.next) c.in_ok-row_of-in-Some-default-empty.ensures
    ∙ sets_own_is _ _ _ (labelled (labels_of c.args.sets.now) c.args.types.now) c.in-Some-default-empty.fields c.in-Some-default-empty.field-0-1.now _ c.in-Some-default-empty.len_below
    (ap (option_map (λ f. (f.0, f.1.now))) (sym c.in-Some-default-empty.is) ∙ c.in_ok-fields.ensures))
    c.sets_own.ensures
