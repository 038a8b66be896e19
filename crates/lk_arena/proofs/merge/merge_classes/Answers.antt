use Rattle.std.proofs.Common.{◌++◌, length, refl, sym, ◌∙◌, ap, subst}
use Rattle.lk_arena.proofs.Merged.{merges_made, merges_turned}
use Rattle.lk_arena.proofs.merge.merge_classes.Goals as goal
use Rattle.lk_arena.specs.Covering.{IsFlatCounted}
use Rattle.lk_arena.specs.Kinds.{IsFlatKinded}
use Rattle.lk_arena.specs.Shapes.{NeverSame}
use Rattle.lk_arena.specs.Steps.{paired}

pub returns-then-is_loose-clause-merged : goal.returns-then-is_loose-clause-merged
returns-then-is_loose-clause-merged c merged =
    merges_turned c.args.from c.args.to c.args.arena.now.shapes c.args.arena.now.classes c.args.queue.now _ _ _
    (c.merge_loose-merged.ensures.merged merged c.args.queue.now c.requires.pairs)

pub returns-then-is_loose-clause-never : goal.returns-then-is_loose-clause-never
returns-then-is_loose-clause-never c not_merged v fits e = c.merge_loose-merged.ensures.never not_merged v fits (sym e)

pub returns-in_default-clause-never : goal.returns-in_default-clause-never
returns-in_default-clause-never c _ v fits e = (rw c.in_default.is at c.in_ok-found-in-Row.ensures.none) v fits refl

pub returns-else-not-branch-clause-merged : goal.returns-else-not-branch-clause-merged
returns-else-not-branch-clause-merged c _ =
    let p = c.in_ok-push_parts-in-Made.ensures.pushed c.if-not-branch.false in
    merges_made c.args.from c.args.to c.args.arena.now.shapes c.args.arena.now.classes c.requires.apart c.requires.arena c.args.queue.now c.requires.pairs _ _ c.unite.ensures
    c.in-Made.head c.in-Made.parts p.0 (sym c.shape_of-2.ensures ∙ c.in-Made.is) (sym c.shape_of-in-Made.ensures ∙ p.1) (ap length (sym c.as_slice.ensures) ∙ p.2) _
    (p.3 ∙ ap (λ ps. c.args.queue.now ++ paired ps p.0) c.as_slice.ensures)

pub returns-in_ok-merged-in-Row-clause-never : goal.returns-in_ok-merged-in-Row-clause-never
returns-in_ok-merged-in-Row-clause-never c not_merged =
    let f = rw c.in-Some.is at c.in_ok-found-in-Row.ensures.flat in
    subst (λ row. NeverSame c.args.arena.now.shapes c.args.arena.now.classes row c.args.to) f.0 (c.in_ok-merged-in-Row.ensures.never not_merged)

pub merge_rows-requires-clause-kinds : goal.merge_rows-requires-clause-kinds
merge_rows-requires-clause-kinds c =
    let f = rw c.in-Some.is at c.in_ok-found-in-Row.ensures.flat in
    let kinds = rw c.in-Some.is at c.in_ok-found-in-Row.ensures.kinds in
    subst (λ row. IsFlatKinded c.args.arena.now.shapes c.args.arena.now.classes row c.in-Some.left.fields c.in-Some.left.tail) (sym f.0) kinds

pub merge_rows-requires-clause-counts : goal.merge_rows-requires-clause-counts
merge_rows-requires-clause-counts c =
    let f = rw c.in-Some.is at c.in_ok-found-in-Row.ensures.flat in
    let counts = rw c.in-Some.is at c.in_ok-found-in-Row.ensures.counts in
    subst (λ row. IsFlatCounted row c.args.arena.now.shapes c.args.arena.now.classes row c.in-Some.left.fields c.in-Some.left.tail) (sym f.0) counts
