use Rattle.std.proofs.Common.{◌≡◌, ◌≢◌, true, false, refl, sym, ◌∙◌}
use Rattle.lk_arena.proofs.Loose.{empty_apart}
use Rattle.lk_arena.proofs.Merged.{never_same, merges_equal}
use Rattle.lk_arena.proofs.merge.merge_empty.Goals as goal
use Rattle.lk_arena.specs.Shapes.{shape_at}
use Rattle.lk_arena.specs.declared.node.Shape.TheVariants.{Empty}

pub returns-then-not-is_empty_row-clause-never : goal.returns-then-not-is_empty_row-clause-never
returns-then-not-is_empty_row-clause-never c _ =
    let shapes = c.args.arena.now.shapes in
    let other : shape_at shapes c.args.to ≢ Empty = λ e. (let wrong : false ≡ true = c.if-not-is_empty_row.ensures.1 (c.shape_of.ensures ∙ e) in cc) in
    never_same c.args.from c.args.to shapes c.args.arena.now.classes c.requires.apart Empty (shape_at shapes c.args.to) c.requires.empty refl
    (empty_apart (shape_at shapes c.args.to) other c.requires.known (c.requires.arena.filled c.args.to c.requires.apart.to_below))

pub returns-clause-merged : goal.returns-clause-merged
returns-clause-merged c _ queue pairs =
    merges_equal c.args.from c.args.to c.args.arena.now.shapes c.args.arena.now.classes c.requires.apart c.requires.arena queue pairs _ _ c.unite.ensures Empty c.requires.empty
    (sym c.shape_of.ensures ∙ c.if-not-is_empty_row.ensures.0 refl)
