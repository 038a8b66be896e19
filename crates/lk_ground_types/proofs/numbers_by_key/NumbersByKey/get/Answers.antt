use Rattle.std.proofs.Common.{sym, ap, ◌∙◌}
use Rattle.std.specs.FinMap as fin
use Rattle.lk_ground_types.proofs.KeysMade.{get_is}
use Rattle.lk_ground_types.proofs.numbers_by_key.NumbersByKey.get.Goals as goal

pub returns : goal.returns
returns c = c.copied.ensures ∙ c.get.ensures.value ∙ sym (get_is c.self.inside.numbers c.args.key.now) ∙ ap (λ numbers. fin.get numbers c.args.key.now) c.self.view_is
