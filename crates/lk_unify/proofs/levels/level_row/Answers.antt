use Rattle.std.proofs.Common.{◌≡◌, ◌-◌, ◌+◌, ap, arith, subst, sym, ◌∙◌}
use Rattle.std.specs.Prelude.{IfOk}
use Rattle.lk_arena.specs.Shapes.{shape_at}
use Rattle.lk_unify.proofs.PlacedRows.{chain_none, chain_over, down_more, down_over, row_nodes}
use Rattle.lk_unify.proofs.levels.level_row.Goals as goal

pub put_fields-requires-clause-nodes : goal.put_fields-requires-clause-nodes
put_fields-requires-clause-nodes c =
    let is = ap (shape_at c.args.arena.now.shapes) (sym c.class_of.ensures) ∙ sym c.shape_of.ensures ∙ c.in-Row.is in
    rw c.as_slice.ensures (row_nodes c.args.arena.now c.loop-link.end c.in-Row.own c.in-Row.tail c.requires.nodes.arena c.loop-link.invariant.within is).1

pub loop-link-preserved : goal.loop-link-preserved
loop-link-preserved c =
    let is = ap (shape_at c.args.arena.now.shapes) (sym c.class_of.ensures) ∙ sym c.shape_of.ensures ∙ c.in-Row.is in
    let below = c.loop-link-test.true in
    rw (c.in_ok-put_fields-in-Row.ensures, c.as_slice.ensures)
    (down_more c.args.arena.now c.args.places.now c.args.fuel c.args.node c.loop-link.row c.loop-link.end (c.args.fuel - c.loop-link._link) c.loop-link.invariant
    (c.args.fuel - (c.loop-link._link + 1)) c.in-Row.own c.in-Row.tail (omega arith) is
    (row_nodes c.args.arena.now c.loop-link.end c.in-Row.own c.in-Row.tail c.requires.nodes.arena c.loop-link.invariant.within is).0)

pub returns-in_default : goal.returns-in_default
returns-in_default c =
    let at = ap (shape_at c.args.arena.now.shapes) (sym c.class_of.ensures) ∙ sym c.shape_of.ensures in
    let left = c.args.fuel - c.loop-link._link in
    subst (λ m. IfOk c.ended_row.result (λ row. row ≡ m))
    (down_over c.args.arena.now c.args.places.now c.args.fuel c.args.node c.loop-link.row c.loop-link.end left c.loop-link.invariant c.args.numbers.now
    (chain_over c.args.arena.now left c.loop-link.end (λ fs t is. c.in_default.not-Row fs t (sym at ∙ is))))
    c.ended_row.ensures

pub returns : goal.returns
returns c =
    let over = c.loop-link-test.false in
    let left = c.args.fuel - c.loop-link._link in
    subst (λ m. IfOk c.ended_row-2.result (λ row. row ≡ m))
    (down_over c.args.arena.now c.args.places.now c.args.fuel c.args.node c.loop-link.row c.loop-link.end left c.loop-link.invariant c.args.numbers.now
    (chain_none c.args.arena.now left c.loop-link.end (omega arith)))
    c.ended_row-2.ensures
