use Rattle.lk_types.specs.declared.ty.TyField.{TyField}
use Rattle.lk_infer.specs.Lacks.{shown}
use Rattle.lk_infer.proofs.LackSets.{step}
use Rattle.lk_infer.proofs.lacks.+shown.Goals as goal

pub insert_all-loop-ty-preserved : goal.insert_all-loop-ty-preserved
insert_all-loop-ty-preserved t c = step shown c.loop-ty.found c.args.types.now c.loop-ty.ty-index c.ty-item.result c.loop-ty-test.true c.ty-item.is c.in_ok-insert_shown.ensures c.loop-ty.invariant

pub insert_fields-loop-field-preserved : goal.insert_fields-loop-field-preserved
insert_fields-loop-field-preserved t c = step (λ (f : TyField). shown f.ty) c.loop-field.found c.args.fields.now c.loop-field.field-index c.field-item.result c.loop-field-test.true c.field-item.is c.in_ok-insert_shown.ensures c.loop-field.invariant
