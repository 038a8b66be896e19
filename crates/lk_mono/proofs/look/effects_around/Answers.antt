use Rattle.std.proofs.Common.{ap, sym, ◌∙◌}
use Rattle.std.proofs.lemmas.Option.{slice_get_past}
use Rattle.lk_mono.proofs.Looking.{effects_past}
use Rattle.lk_outline.specs.Shown.{shown_around}
use Rattle.lk_outline.specs.Typed.{effects_around}
use Rattle.lk_mono.proofs.look.effects_around.Goals as goal

pub returns-in-None : goal.returns-in-None
returns-in-None c ts is =
    effects_past c.args.grounds.now c.args.setting.numbers.now ts is.made c.args.setting.own.now c.new.result c.in-Lambda.number (slice_get_past c.args.setting.numbers.now c.in-Lambda.number c.in-None.ensures.lookup.3) c.new.ensures
    ∙ ap (λ a. effects_around c.args.setting.own.now ts (shown_around a)) (sym c.in-Lambda.is)
