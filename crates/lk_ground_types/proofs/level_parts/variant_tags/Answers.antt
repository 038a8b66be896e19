use Rattle.std.proofs.Common.{sym}
use Rattle.lk_ground_types.proofs.LevelForms.{no_tags_in, variant_below_of, variant_made_of}
use Rattle.lk_ground_types.proofs.level_parts.variant_tags.Goals as goal

pub returns-clause-tags : goal.returns-clause-tags
returns-clause-tags c = variant_made_of c.args.grounds.now c.args.number c.in_ok-level.field-0.now _ c.in_ok-level.ensures.made c.level_variant.ensures

pub returns-clause-within : goal.returns-clause-within
returns-clause-within c = variant_below_of c.args.grounds.now c.args.number c.in_ok-level.field-0.now c.in_ok-level.ensures.below c.in_ok-level.ensures.within _ c.level_variant.ensures

pub returns-in_err-level-clause-tags : goal.returns-in_err-level-clause-tags
returns-in_err-level-clause-tags c = rw c.from_residual.ensures (sym (no_tags_in c.args.grounds.now c.args.number c.in_err-level.ensures.none))
