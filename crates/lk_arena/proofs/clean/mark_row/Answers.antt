use Rattle.std.proofs.Common.{refl, sym, ◌∙◌, ap, subst}
use Rattle.lk_classes.specs.Classes.{class_at}
use Rattle.lk_arena.proofs.Ways.{marks_more, way_above}
use Rattle.lk_arena.proofs.clean.mark_row.Goals as goal
use Rattle.lk_arena.specs.Shapes.{IsDistinct, fields_in}
use Rattle.lk_arena.specs.Ways.{HasDistinctWay, LacksAlong}

pub returns : goal.returns
returns c =
    let ss = c.args.arena.now.shapes in
    let cs = c.args.arena.now.classes in
    let is = sym c.shape_of.ensures ∙ c.in-Row.is in
    let own = c.in-Row.own in
    let distinct = subst (λ s. IsDistinct (fields_in s)) is (c.requires.arena.distinct c.args.node c.requires.node.0) in
    let below = rw c.class_of-below.ensures at c.has_way.ensures c.if-not-has_way.false in
    let labels = c.in_ok-labels.ensures ∙ c.as_slice-2.ensures in
    marks_more ss cs c.args.marks.now.items c.args.node c.requires.node.0 c.requires.marked
    (way_above ss cs c.args.node own c.in-Row.first c.requires.node is distinct below
    (subst (λ fs. LacksAlong ss cs fs (class_at cs c.in-Row.first)) labels (rw c.class_of-below.ensures at c.way_lacks.ensures c.if-not-way_lacks.false)))
