use Rattle.std.proofs.Common.{◌∙◌, ◌++◌, refl}
use Rattle.lk_arena.proofs.Joined.{are_tails, joins_rows}
use Rattle.lk_arena.proofs.joining.join_rows.Goals as goal
use Rattle.lk_arena.specs.Shapes.{common, missing}

pub returns-then-clash-clause-never : goal.returns-then-clash-clause-never
returns-then-clash-clause-never c _ = c.if-clash.ensures.never refl

pub join_tails-requires-clause-tails : goal.join_tails-requires-clause-tails
join_tails-requires-clause-tails c =
    let l = c.args.left.now in
    let r = c.args.right.now in
    are_tails c.args.arena.now.shapes c.args.arena.now.classes l.row r.row l.fields r.fields l.tail r.tail c.requires.left c.requires.right c.in_ok-lefts.lefts c.in_ok-rights.rights
    (c.in_ok-lefts.ensures ∙ (λ i. missing (c.as_slice.ensures i) (c.as_slice-2.ensures i))) (c.in_ok-rights.ensures ∙ (λ i. missing (c.as_slice-3.ensures i) (c.as_slice-4.ensures i)))
    c.requires.left_tail c.requires.right_tail (rw (c.as_slice-5.ensures, c.as_slice-6.ensures) at (c.if-clash.ensures.same refl)) (rw c.as_slice-5.ensures at (c.if-clash.ensures.left refl))
    (rw c.as_slice-6.ensures at (c.if-clash.ensures.right refl))

pub returns-clause-joined : goal.returns-clause-joined
returns-clause-joined c _ =
    let l = c.args.left.now in
    let r = c.args.right.now in
    joins_rows c.args.arena.now.shapes c.args.arena.now.classes l.row r.row l.fields r.fields l.tail r.tail c.requires.left c.requires.right c.in_ok-lefts.lefts c.in_ok-rights.rights
    (c.in_ok-lefts.ensures ∙ (λ i. missing (c.as_slice.ensures i) (c.as_slice-2.ensures i))) (c.in_ok-rights.ensures ∙ (λ i. missing (c.as_slice-3.ensures i) (c.as_slice-4.ensures i)))
    c.args.queue.now _ _ _ c.in_ok-join_tails.ensures _
    (c.in_ok-push_common.ensures ∙ (λ i. c.join_tails.new.queue ++ common (c.as_slice-7.ensures i) (c.as_slice-8.ensures i)))
