use Rattle.std.proofs.Common.{refl, sym, ◌∙◌, subst}
use Rattle.lk_arena.proofs.Loose.{fields_apart, no_fields_in}
use Rattle.lk_arena.proofs.Merged.{never_same, left_later, right_later, never_joined, merges_rows}
use Rattle.lk_arena.proofs.merge.merge_rows.Goals as goal
use Rattle.lk_arena.specs.Shapes.{HasFields, IsFlatOf, NeverSame, shape_at}
use Rattle.lk_arena.specs.Steps.{JoinsRows}

pub returns-in_default-found-clause-never : goal.returns-in_default-found-clause-never
returns-in_default-found-clause-never c _ v fits e = (rw c.in_default-found.is at c.in_ok-found-in-Row.ensures.none) v fits (sym e)

pub join_rows-requires-clause-left : goal.join_rows-requires-clause-left
join_rows-requires-clause-left c =
    let l = c.args.left.now in
    let f = rw c.in-Some.is at c.in_ok-found-in-Row.ensures.flat in
    left_later l.row c.args.to c.args.arena.now.shapes c.args.arena.now.classes c.requires.apart c.requires.arena c.args.queue.now c.requires.pairs _ _ c.unite.ensures
    l.fields c.in-Some.right.fields l.tail c.in-Some.right.tail c.requires.flat f.1 c.requires.end f.2

pub join_rows-requires-clause-right : goal.join_rows-requires-clause-right
join_rows-requires-clause-right c =
    let l = c.args.left.now in
    let f = rw c.in-Some.is at c.in_ok-found-in-Row.ensures.flat in
    subst (λ row. IsFlatOf c.unite.new.arena.shapes c.unite.new.arena.classes row c.in-Some.right.fields c.in-Some.right.tail) (sym f.0)
    (right_later l.row c.args.to c.args.arena.now.shapes c.args.arena.now.classes c.requires.apart c.requires.arena c.args.queue.now c.requires.pairs _ _ c.unite.ensures
    l.fields c.in-Some.right.fields l.tail c.in-Some.right.tail c.requires.flat f.1 c.requires.end f.2)

pub returns-in_ok-joined-in-Row-clause-merged : goal.returns-in_ok-joined-in-Row-clause-merged
returns-in_ok-joined-in-Row-clause-merged c joined =
    let l = c.args.left.now in
    let r = c.in-Some.right in
    let f = rw c.in-Some.is at c.in_ok-found-in-Row.ensures.flat in
    merges_rows l.row c.args.to c.args.arena.now.shapes c.args.arena.now.classes c.requires.apart c.requires.arena c.args.queue.now c.requires.pairs _ _ c.unite.ensures
    l.fields r.fields l.tail r.tail c.requires.flat f.1 c.requires.end f.2 c.requires.kinds (rw c.in-Some.is at c.in_ok-found-in-Row.ensures.kinds)
    c.requires.counts (rw c.in-Some.is at c.in_ok-found-in-Row.ensures.counts) _ _ _
    (subst (λ row. JoinsRows l.row row l.fields r.fields l.tail r.tail c.unite.new.arena.shapes c.unite.new.arena.classes c.args.queue.now c.join_rows.new.arena.shapes c.join_rows.new.arena.classes
    c.join_rows.new.queue) f.0 (c.in_ok-joined-in-Row.ensures.joined joined))

pub returns-in_ok-joined-in-Row-clause-never : goal.returns-in_ok-joined-in-Row-clause-never
returns-in_ok-joined-in-Row-clause-never c no_join =
    let l = c.args.left.now in
    let r = c.in-Some.right in
    let f = rw c.in-Some.is at c.in_ok-found-in-Row.ensures.flat in
    never_joined l.row c.args.to c.args.arena.now.shapes c.args.arena.now.classes c.requires.apart c.requires.arena c.args.queue.now c.requires.pairs _ _ c.unite.ensures
    l.fields r.fields l.tail r.tail c.requires.flat f.1 c.requires.end f.2
    (subst (NeverSame c.unite.new.arena.shapes c.unite.new.arena.classes l.row) f.0 (c.in_ok-joined-in-Row.ensures.never no_join))

pub returns-in_default : goal.returns-in_default
returns-in_default c =
    let l = c.args.left.now in
    let shapes = c.args.arena.now.shapes in
    let is = c.requires.flat.shape_is in
    record {
      merged = λ wrong. cc;
      never = λ _. never_same l.row c.args.to shapes c.args.arena.now.classes c.requires.apart _ (shape_at shapes c.args.to) is refl
          (fields_apart c.requires.flat.own c.requires.flat.first (shape_at shapes c.args.to) (subst HasFields is (c.requires.arena.filled l.row c.requires.apart.from_below))
          (no_fields_in (shape_at shapes c.args.to) (λ fs t e. c.in_default.not-Row fs t (c.shape_of.ensures ∙ e))) c.requires.known);
    }
