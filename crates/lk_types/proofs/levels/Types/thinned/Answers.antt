use Rattle.std.proofs.Common.{◌∙◌}
use Rattle.lk_types.proofs.Kept.{copied_table, copied_types, places_within}
use Rattle.lk_types.proofs.levels.Types.thinned.Goals as goal

pub kept_levels-requires : goal.kept_levels-requires
kept_levels-requires c = places_within c.args.levels.now c.args.roots.now c.requires c.in_ok-places.places.items.items c.in_ok-places.ensures

pub of-requires : goal.of-requires
of-requires c = copied_table c.args.levels.now _ c.args.roots.now c.in_ok-places.places.items.items _ c.requires c.in_ok-places.ensures c.in_ok-kept.ensures c.in_ok-moved.ensures

pub returns : goal.returns
returns c = c.of.ensures ∙ copied_types c.args.levels.now _ c.args.roots.now c.in_ok-places.places.items.items _ c.requires c.in_ok-places.ensures c.in_ok-kept.ensures c.in_ok-moved.ensures
