use Rattle.std.proofs.Common.{length, refl, sym, ◌∙◌, ap, subst}
use Rattle.lk_types.specs.Each.{Each}
use Rattle.lk_arena.proofs.Ways.{lacks_end, lacks_row, no_fields}
use Rattle.lk_arena.proofs.clean.way_lacks.Goals as goal
use Rattle.lk_arena.specs.Shapes.{is_fields, parts_of, AllBelow}

pub returns-in_default : goal.returns-in_default
returns-in_default c _ =
    c.loop-row.invariant.lacks
    (lacks_end c.args.arena.now.shapes c.args.arena.now.classes c.args.labels.now c.loop-row.at (ap is_fields (sym c.shape_of.ensures) ∙ no_fields c.shape_of.result.now c.in_default.not-Row))

pub loop-row-preserved : goal.loop-row-preserved
loop-row-preserved c =
    let ss = c.args.arena.now.shapes in
    let cs = c.args.arena.now.classes in
    let is = sym c.shape_of.ensures ∙ c.in-Row.is in
    let next = (subst (λ s. AllBelow (length ss) (parts_of s)) is (c.requires.arena.nodes c.loop-row.at c.loop-row.invariant.below)).0 in
    rw c.class_of-at.ensures
    (record {
      below = c.requires.arena.named.below c.in-Row.next next;
      lacks = λ rest. c.loop-row.invariant.lacks (lacks_row ss cs c.args.labels.now c.in-Row.more c.loop-row.at c.in-Row.next is (rw c.as_slice.ensures at c.if-not-lack.ensures refl) rest);
    })
