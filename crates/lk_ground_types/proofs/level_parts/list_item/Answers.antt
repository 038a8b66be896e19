use Rattle.std.proofs.Common.{sym}
use Rattle.lk_ground_types.proofs.LevelForms.{item_below_of, item_made_of, no_item}
use Rattle.lk_ground_types.proofs.level_parts.list_item.Goals as goal

pub returns-clause-item : goal.returns-clause-item
returns-clause-item c = item_made_of c.args.grounds.now c.args.number c.in_ok-level.field-0.now _ c.in_ok-level.ensures.made c.level_item.ensures

pub returns-clause-within : goal.returns-clause-within
returns-clause-within c = item_below_of c.args.grounds.now c.args.number c.in_ok-level.field-0.now c.in_ok-level.ensures.below c.in_ok-level.ensures.within _ c.level_item.ensures

pub returns-in_err-level-clause-item : goal.returns-in_err-level-clause-item
returns-in_err-level-clause-item c = rw c.from_residual.ensures (sym (no_item c.args.grounds.now c.args.number c.in_err-level.ensures.none))
