use Rattle.std.proofs.lemmas.Result.{IfOk-weaker}
use Rattle.lk_mono.proofs.Numbering.{called_there}
use Rattle.lk_mono.proofs.look.call_type.Goals as goal

pub returns-clause-is : goal.returns-clause-is
returns-clause-is c = IfOk-weaker c.add.result _ _ (λ number made types is. called_there c.args.grounds.now c.argument_types.new.grounds c.number_at.new.grounds c.add.new.self c.args.setting.numbers.now c.args.args.now c.in_ok-params.params c.in_ok-effects.effects c.args.site.now.number c.in_ok-answer.answer _
    c.requires c.argument_types.ensures.more c.number_at.ensures.more c.in_ok-params.ensures.are c.in_ok-params.ensures.within c.in_ok-answer.ensures.is made types _ is.made (c.in_ok-effects.ensures types is))
    c.add.ensures.made
