use Rattle.std.proofs.Common.{[], ◌∷◌, refl}
use Rattle.lk_types.proofs.Kept.{one_thin, one_type, places_within}
use Rattle.lk_types.proofs.one_type.OneType.of.Goals as goal

pub below-requires : goal.below-requires
below-requires c = record { below = c.requires.0; roots_below = (c.requires.1, tt) }

pub kept_levels-requires : goal.kept_levels-requires
kept_levels-requires c =
    places_within c.args.levels.now (c.args.root ∷ []) (record { below = c.requires.0; roots_below = (c.requires.1, tt) }) c.in_ok-places.places.items.items c.in_ok-places.ensures

pub invariant_of-result : goal.invariant_of-result
invariant_of-result c =
    one_thin c.args.levels.now _ c.args.root _ _ c.in_ok-places.places.items.items (record { below = c.requires.0; roots_below = (c.requires.1, tt) }) refl c.in_ok-places.ensures c.in_ok-kept.ensures c.in_ok-number.ensures

pub returns : goal.returns
returns c =
    one_type c.args.levels.now _ c.args.root _ _ c.in_ok-places.places.items.items (record { below = c.requires.0; roots_below = (c.requires.1, tt) }) refl c.in_ok-places.ensures c.in_ok-kept.ensures c.in_ok-number.ensures
