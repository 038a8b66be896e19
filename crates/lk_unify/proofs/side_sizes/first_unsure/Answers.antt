use Rattle.std.proofs.Common.{sym, ◌∙◌, subst, arith}
use Rattle.lk_unify.proofs.FineFirsts.{if_both, if_none, surely, surely_first}
use Rattle.lk_unify.proofs.Joined.{joined_first}
use Rattle.lk_unify.proofs.SideTypes.{sides_as_many}
use Rattle.lk_unify.proofs.Within.{sides_in_classes}
use Rattle.lk_arena.specs.Counting.{end_at}
use Rattle.lk_unify.proofs.side_sizes.first_unsure.Goals as goal
use Rattle.lk_unify.specs.SideSizes.{AllMakeFew}

pub first_side_over-requires-clause-whole : goal.first_side_over-requires-clause-whole
first_side_over-requires-clause-whole c = c.requires.nodes.1.loaded.says.whole

pub first_side_over-requires-clause-order : goal.first_side_over-requires-clause-order
first_side_over-requires-clause-order c = rw c.as_slice-2.ensures.value c.requires.nodes.1.order

pub first_side_over-requires-clause-sides : goal.first_side_over-requires-clause-sides
first_side_over-requires-clause-sides c = sides_in_classes c.args.nodes.now.all.loader c.args.nodes.now.all.sides c.requires.nodes.0 c.requires.nodes.1.loaded

pub returns-clause-few : goal.returns-clause-few
returns-clause-few c =
    if_none
    (λ within es nodes. surely es c.args.sizings.now (c.requires.sizings ∙ sides_as_many c.args.nodes.now.all.loader c.args.nodes.now.all.sides es nodes.loaded) c.args.nodes.now.all nodes.loaded
    nodes.solution (end_at c.in_ok-ends.ends.items) (rw c.as_slice.ensures at c.in_ok-ends.ensures.once) (rw c.as_slice-3.ensures.value at within))
    c.in_ok-found.found c.in_ok-found.ensures.within

pub returns-clause-before : goal.returns-clause-before
returns-clause-before c =
    if_both
    (λ i bound few es nodes.
    let many = sides_as_many c.args.nodes.now.all.loader c.args.nodes.now.all.sides es nodes.loaded in
    subst AllMakeFew (sym (joined_first es c.args.sizings.now i))
    (surely_first es c.args.sizings.now (c.requires.sizings ∙ many) c.args.nodes.now.all nodes.loaded nodes.solution (end_at c.in_ok-ends.ends.items)
    (rw c.as_slice.ensures at c.in_ok-ends.ensures.once) i (omega arith) (rw c.as_slice-3.ensures.value at few)))
    c.in_ok-found.found c.in_ok-found.ensures.bound c.in_ok-found.ensures.before
