use Rattle.lk_operators.proofs.Passing.{all_pass_lengths}
use Rattle.lk_operators.proofs.order.+same.Goals as goal

pub same_fields-returns-then-xs-ys : goal.same_fields-returns-then-xs-ys
same_fields-returns-then-xs-ys t c = all_pass_lengths _ _ _ c.if-xs-ys.true

pub same_values-returns-then-xs-ys : goal.same_values-returns-then-xs-ys
same_values-returns-then-xs-ys t c = all_pass_lengths _ _ _ c.if-xs-ys.true
