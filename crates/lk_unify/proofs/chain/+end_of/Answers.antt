use Rattle.std.proofs.Common.{sym, ◌∙◌, ap}
use Rattle.lk_unify.proofs.ReadRows.{effects_end}
use Rattle.lk_unify.proofs.chain.+end_of.Goals as goal
use Rattle.lk_arena.specs.Shapes.{shape_at}

pub returns-in-Row : goal.returns-in-Row
returns-in-Row t c u own =
    let is = ap (shape_at c.args.arena.now.shapes) (sym c.class_of-class.ensures) ∙ sym c.shape_of.ensures ∙ c.in-Row.is in
    c.end_of.ensures u own ∙ effects_end c.args.arena.now c.args.numbers.now c.args.fuel c.args.node c.requires u own c.in-Row.field-0 c.in-Row.tail is
