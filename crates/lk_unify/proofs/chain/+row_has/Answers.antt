use Rattle.std.proofs.Common.{sym, ◌∙◌, ap}
use Rattle.std.specs.Prelude.{is_some}
use Rattle.lk_unify.proofs.ReadRows.{effect_own, effect_below, effect_none}
use Rattle.lk_unify.proofs.chain.+row_has.Goals as goal
use Rattle.lk_arena.specs.Shapes.{shape_at, found_at}

pub returns-then-is_some : goal.returns-then-is_some
returns-then-is_some t c u own =
    let is = ap (shape_at c.args.arena.now.shapes) (sym c.class_of.ensures) ∙ sym c.shape_of.ensures ∙ c.in-Row.is in
    let has = ap is_some (ap (λ fs. found_at fs c.args.label.now) (sym c.as_slice.ensures) ∙ sym c.node_of.ensures) ∙ sym c.is_some.ensures ∙ c.if-is_some.true in
    effect_own c.args.arena.now c.args.numbers.now c.args.fuel c.args.node c.requires u own c.in-Row.own c.in-Row.tail c.args.label.now is has

pub returns-else-is_some : goal.returns-else-is_some
returns-else-is_some t c u own =
    let is = ap (shape_at c.args.arena.now.shapes) (sym c.class_of.ensures) ∙ sym c.shape_of.ensures ∙ c.in-Row.is in
    let lacks = ap is_some (ap (λ fs. found_at fs c.args.label.now) (sym c.as_slice.ensures) ∙ sym c.node_of.ensures) ∙ sym c.is_some.ensures ∙ c.if-is_some.false in
    c.row_has.ensures u own ∙ effect_below c.args.arena.now c.args.numbers.now c.args.fuel c.args.node c.requires u own c.in-Row.own c.in-Row.tail c.args.label.now is lacks

pub returns-in_default : goal.returns-in_default
returns-in_default t c u own =
    let at = ap (shape_at c.args.arena.now.shapes) (sym c.class_of.ensures) ∙ sym c.shape_of.ensures in
    effect_none c.args.arena.now c.args.numbers.now c.args.fuel c.args.node c.requires u own c.args.label.now (λ fs t is. c.in_default.not-Row fs t (sym at ∙ is))
