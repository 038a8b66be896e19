use Rattle.std.proofs.Common.{ap, sym, ◌∙◌, take}
use Rattle.std.proofs.lemmas.List.{take-map}
use Rattle.lk_types.specs.Levels.{at, built, types_at}
use Rattle.lk_types.proofs.levels.Types.truncate.Goals as goal

pub returns : goal.returns
returns c =
    ap (types_at c.self.inside.levels.items) c.truncate.ensures.items
    ∙ sym (take-map (at (built c.self.inside.levels.items)) c.args.count c.self.inside.roots.items)
    ∙ ap (take c.args.count) c.self.view_is
