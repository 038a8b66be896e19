use Rattle.std.proofs.Common.{◌≡◌, ap, sym, subst, ◌∙◌, map}
use Rattle.std.specs.Prelude.{IfOk}
use Rattle.lk_ground_types.proofs.RisingFields.{rising_parts}
use Rattle.lk_ground_types.specs.Becoming.{bound_row, fields_put, part_at}
use Rattle.lk_ground_types.specs.Grounds.{parts_in}
use Rattle.lk_ground_types.proofs.all_types.row_made.Goals as goal

pub returns-then-is_in_order : goal.returns-then-is_in_order
returns-then-is_in_order c =
    let numbers = c.args.numbers.now in
    let fields = c.args.row.now.fields in
    let holds = c.if-is_in_order.true in
    subst (λ ps. IfOk c.parts_at.result (λ parts. parts ≡ ps))
    (ap (map (part_at numbers)) c.as_slice.ensures
    ∙ rising_parts numbers fields (c.is_in_order.ensures.rising holds)
    ∙ ap (λ tail. parts_in (fields_put numbers fields (bound_row c.args.bindings.now tail))) (sym (c.is_in_order.ensures.closed holds)))
    c.parts_at.ensures
