use Rattle.std.proofs.Common.{sym}
use Rattle.lk_ground_types.proofs.LevelForms.{function_below_of, function_made_of, no_function_in}
use Rattle.lk_ground_types.proofs.level_parts.function_parts.Goals as goal

pub returns-clause-function : goal.returns-clause-function
returns-clause-function c = function_made_of c.args.grounds.now c.args.number c.in_ok-level.field-0.now _ c.in_ok-level.ensures.made c.level_function.ensures

pub returns-clause-within : goal.returns-clause-within
returns-clause-within c = function_below_of c.args.grounds.now c.args.number c.in_ok-level.field-0.now c.in_ok-level.ensures.below c.in_ok-level.ensures.within _ c.level_function.ensures

pub returns-in_err-level-clause-function : goal.returns-in_err-level-clause-function
returns-in_err-level-clause-function c = rw c.from_residual.ensures (sym (no_function_in c.args.grounds.now c.args.number c.in_err-level.ensures.none))
