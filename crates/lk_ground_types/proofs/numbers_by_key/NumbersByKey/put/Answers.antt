use Rattle.std.proofs.Common.{◌∙◌, ap₂}
use Rattle.std.specs.FinMap as fin
use Rattle.lk_ground_types.proofs.KeysMade.{put_is}
use Rattle.lk_ground_types.proofs.numbers_by_key.NumbersByKey.put.Goals as goal

pub returns-clause-put : goal.returns-clause-put
returns-clause-put c =
    put_is c.self.inside.numbers.entries c.insert.new.self.entries c.into_vec.result c.args.number c.in_ok-insert.ensures.was_ordered c.in_ok-insert.ensures.ordered c.in_ok-insert.ensures.entries
    ∙ ap₂ (λ numbers key. fin.insert numbers key c.args.number) c.self.view_is c.into_vec.ensures
