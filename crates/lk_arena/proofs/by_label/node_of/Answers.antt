use Rattle.std.proofs.Common.{◌≡◌, true, false, refl}
use Rattle.lk_arena.proofs.RowAlgebra.{found_now, found_later}
use Rattle.lk_arena.proofs.by_label.node_of.Goals as goal

pub returns-then-equals : goal.returns-then-equals
returns-then-equals c =
    found_now c.args.fields.now c.loop-field.field-index c.field-item.result c.args.label.now c.loop-field-test.true c.field-item.is c.loop-field.invariant (c.if-equals.ensures.same.0 refl)

pub loop-field-preserved : goal.loop-field-preserved
loop-field-preserved c =
    found_later c.args.fields.now c.loop-field.field-index c.field-item.result c.args.label.now c.loop-field-test.true c.field-item.is c.loop-field.invariant (λ e. let f : false ≡ true = c.if-equals.ensures.same.1 e in cc)
