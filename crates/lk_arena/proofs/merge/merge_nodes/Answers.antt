use Rattle.std.proofs.Common.{[], ◌∷◌, ◌++◌, ◌∙◌, ap, subst}
use Rattle.lk_arena.proofs.Steps.{leads_start, leads_same, leads_merged, leads_never}
use Rattle.lk_arena.proofs.merge.merge_nodes.Goals as goal
use Rattle.lk_arena.specs.Steps.{SamePairs}

pub loop-pair-init : goal.loop-pair-init
loop-pair-init c =
    leads_start c.args.left c.args.right c.args.arena.now.shapes c.args.arena.now.classes c.push.new.self
    (c.in_ok-push.ensures.ok ∙ ap (λ queue. queue ++ record { left = c.args.left; right = c.args.right } ∷ []) c.new-queue.ensures) c.requires.arena c.requires.left c.requires.right

pub returns-in_default-clause-merged : goal.returns-in_default-clause-merged
returns-in_default-clause-merged c _ =
    leads_same c.args.left c.args.right c.args.arena.now.shapes c.args.arena.now.classes c.loop-pair.arena.shapes c.loop-pair.arena.classes c.loop-pair.queue c.loop-pair.invariant [] tt
    (subst (SamePairs c.loop-pair.arena.classes c.loop-pair.queue) c.in_default.ensures.none c.in_default.ensures.same)

pub returns-then-not-branch-clause-never : goal.returns-then-not-branch-clause-never
returns-then-not-branch-clause-never c _ =
    leads_never c.args.left c.args.right c.args.arena.now.shapes c.args.arena.now.classes c.loop-pair.arena.shapes c.loop-pair.arena.classes c.loop-pair.queue c.loop-pair.invariant
    c.in-Some.pair c.next_apart.new.queue c.in-Some.ensures.same (c.in_ok-merge_classes.ensures.never c.if-not-branch.true)

pub loop-pair-preserved : goal.loop-pair-preserved
loop-pair-preserved c =
    leads_merged c.args.left c.args.right c.args.arena.now.shapes c.args.arena.now.classes c.loop-pair.arena.shapes c.loop-pair.arena.classes c.loop-pair.queue c.loop-pair.invariant
    c.in-Some.pair c.next_apart.new.queue c.in-Some.ensures.same _ _ _ (c.in_ok-merge_classes.ensures.merged c.if-not-branch.false)
