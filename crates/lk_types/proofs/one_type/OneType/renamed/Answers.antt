use Rattle.std.proofs.Common.{ap, sym, subst, ◌∙◌}
use Rattle.lk_types.proofs.Renaming.{still_thin, type_renamed}
use Rattle.lk_types.specs.Levels.{at, built}
use Rattle.lk_types.specs.Names.{place_in}
use Rattle.lk_types.specs.OneTypes.{IsThin}
use Rattle.lk_types.specs.Renamed.{renamed}
use Rattle.lk_types.proofs.one_type.OneType.renamed.Goals as goal

pub invariant_of-result : goal.invariant_of-result
invariant_of-result c =
    subst (λ levels. IsThin levels c.self.inside.root) (sym c.in_ok-made.ensures)
    (still_thin (place_in c.args.first c.args.names.now) c.self.inside.levels.items c.self.inside.root c.self.invariant)

pub returns : goal.returns
returns c =
    ap (λ levels. at (built levels) c.self.inside.root) c.in_ok-made.ensures
    ∙ type_renamed (place_in c.args.first c.args.names.now) c.self.inside.levels.items c.self.inside.root
    ∙ ap (renamed (place_in c.args.first c.args.names.now)) c.self.view_is
