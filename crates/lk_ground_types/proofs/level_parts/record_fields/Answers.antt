use Rattle.std.proofs.Common.{sym}
use Rattle.lk_ground_types.proofs.LevelForms.{no_fields_in, record_below_of, record_made_of}
use Rattle.lk_ground_types.proofs.level_parts.record_fields.Goals as goal

pub returns-clause-fields : goal.returns-clause-fields
returns-clause-fields c = record_made_of c.args.grounds.now c.args.number c.in_ok-level.field-0.now _ c.in_ok-level.ensures.made c.level_record.ensures

pub returns-clause-within : goal.returns-clause-within
returns-clause-within c = record_below_of c.args.grounds.now c.args.number c.in_ok-level.field-0.now c.in_ok-level.ensures.below c.in_ok-level.ensures.within _ c.level_record.ensures

pub returns-in_err-level-clause-fields : goal.returns-in_err-level-clause-fields
returns-in_err-level-clause-fields c = rw c.from_residual.ensures (sym (no_fields_in c.args.grounds.now c.args.number c.in_err-level.ensures.none))
