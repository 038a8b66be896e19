use Rattle.std.proofs.Common.{◌∙◌, ap}
use Rattle.lk_ground_types.proofs.Entering.{entry_read, type_read}
use Rattle.lk_ground_types.proofs.EntriesMade.{fits_counted}
use Rattle.lk_ground_types.specs.Sizes.{fits}
use Rattle.lk_ground_types.proofs.grounds.Grounds.fits.Goals as goal

pub returns : goal.returns
returns c =
    let there = entry_read c.self.inside.entries.items _ c.args.number c.index.result.now c.self.view_is c.requires c.index.ensures in
    fits_counted _ c.index.result.now.ty (c.self.invariant.each c.args.number c.index.result.now there).nodes
    ∙ ap fits (type_read c.self.inside.entries.items _ c.args.number c.index.result.now c.self.view_is there)
