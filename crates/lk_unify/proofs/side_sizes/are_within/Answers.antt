use Rattle.std.proofs.Common.{◌≡◌, ◌∙◌, ap, length, rules}
use Rattle.std.specs.Prelude.{replicate}
use Rattle.lk_arena.proofs.OnceOpen.{no_ends}
use Rattle.lk_unify.proofs.SideCounts.{none_few, none_many}
use Rattle.lk_unify.specs.SideSizes.{last_by}
use Rattle.lk_unify.proofs.side_sizes.are_within.Goals as goal

pub first_side_over-requires-clause-ends : goal.first_side_over-requires-clause-ends
first_side_over-requires-clause-ends c =
    let e : c.in_ok-ends.ends.items ≡ replicate (length c.args.all.now.loader.arena.shapes) 0 = c.in_ok-ends.ensures.items_if_clones_equal (λ y h. search rules) ∙ ap (λ n. replicate n 0) c.len.ensures in
    rw (c.as_slice-2.ensures.value, e) (no_ends c.args.all.now.loader.arena.shapes)

pub first_side_over-requires-clause-order : goal.first_side_over-requires-clause-order
first_side_over-requires-clause-order c = rw c.as_slice.ensures.value c.in_ok-order.ensures

pub returns-in-None-clause-within : goal.returns-in-None-clause-within
returns-in-None-clause-within c =
    let e : c.in_ok-ends.ends.items ≡ replicate (length c.args.all.now.loader.arena.shapes) 0 = c.in_ok-ends.ensures.items_if_clones_equal (λ y h. search rules) ∙ ap (λ n. replicate n 0) c.len.ensures in
    λ is.
    none_few (length c.args.all.now.loader.arena.shapes) (last_by c.args.late) c.args.all.now c.args.sizings.now
    (rw (c.as_slice-2.ensures.value, e) at (rw c.in-None.is at c.in_ok-first_side_over.ensures.within))

pub returns-clause-beyond : goal.returns-clause-beyond
returns-clause-beyond c =
    let e : c.in_ok-ends.ends.items ≡ replicate (length c.args.all.now.loader.arena.shapes) 0 = c.in_ok-ends.ensures.items_if_clones_equal (λ y h. search rules) ∙ ap (λ n. replicate n 0) c.len.ensures in
    λ is.
    none_many (length c.args.all.now.loader.arena.shapes) (last_by c.args.late) c.args.all.now c.args.sizings.now
    (rw (c.as_slice-2.ensures.value, e) at (rw c.in-Some.is at c.in_ok-first_side_over.ensures.beyond))
