use Rattle.std.proofs.Common.{sym, subst, ◌∙◌, None, Some}
use Rattle.lk_arena.specs.Shapes.{shape_at}
use Rattle.lk_unify.proofs.LevelsDone.{done_level, done_other, done_row}
use Rattle.lk_unify.proofs.levels.add_class.Goals as goal
use Rattle.lk_unify.specs.Levels.{IsLevelFor}

pub returns-then-class_of-node-clause-read : goal.returns-then-class_of-node-clause-read
returns-then-class_of-node-clause-read c before read among =
    done_other c.args.arena.now c.args.numbers.now c.args.done.now.levels.items c.args.done.now.places.items before read c.args.node among c.requires.nodes.arena.named.named
    (λ e. c.if-class_of-node.true (c.class_of.ensures ∙ e))

pub returns-in_default-clause-read : goal.returns-in_default-clause-read
returns-in_default-clause-read c before read among =
    done_row c.args.arena.now c.args.numbers.now c.args.done.now.levels.items c.args.done.now.places.items before read c.args.node among c.args.fuel c.requires.node
    (subst (λ ps. IsLevelFor c.args.arena.now c.args.numbers.now ps c.args.fuel c.args.node (shape_at c.args.arena.now.shapes c.args.node) None) c.as_slice.ensures.value
    (rw c.in_default.is at c.in_ok-level.ensures))

pub returns-clause-read : goal.returns-clause-read
returns-clause-read c before read among =
    rw (c.in_ok-push.ensures.items, c.in_ok-done.ensures, c.as_slice-2.ensures.value)
    (done_level c.args.arena.now c.args.numbers.now c.args.done.now.levels.items c.args.done.now.places.items before read c.args.node among c.args.fuel c.requires.nodes c.in-Some.level
    c.requires.places c.requires.node (sym c.class_of.ensures ∙ c.if-class_of-node.false)
    (subst (λ ps. IsLevelFor c.args.arena.now c.args.numbers.now ps c.args.fuel c.args.node (shape_at c.args.arena.now.shapes c.args.node) (Some c.in-Some.level)) c.as_slice.ensures.value
    (rw c.in-Some.is at c.in_ok-level.ensures)))
