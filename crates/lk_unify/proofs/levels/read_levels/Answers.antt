use Rattle.std.proofs.Common.{ap, ◌∙◌, take}
use Rattle.std.proofs.lemmas.List.{take_all, take_more}
use Rattle.lk_types.specs.Levels.{types_at}
use Rattle.lk_unify.proofs.LevelsDone.{nodes_can, roots_stand, roots_table}
use Rattle.lk_unify.proofs.levels.read_levels.Goals as goal

pub add_class-requires-clause-nodes : goal.add_class-requires-clause-nodes
add_class-requires-clause-nodes c = nodes_can c.args.arena.now c.args.numbers.now c.args.order.now c.args.nodes.now c.requires

pub loop-node-preserved : goal.loop-node-preserved
loop-node-preserved c =
    let i = c.loop-node.node-index in
    record {
      count = c.in_ok-add_class.ensures.places;
      read =
          rw (take_more c.args.order.now i 0 c.loop-node-test.true)
          (c.in_ok-add_class.ensures.read (take i c.args.order.now) c.loop-node.invariant.read (c.requires.order_is.parts i c.loop-node-test.true));
    }

pub of-requires : goal.of-requires
of-requires c =
    let over = c.loop-node-test.false in
    rw (c.in_ok-roots.ensures, c.as_slice.ensures.value)
    (roots_table c.args.arena.now c.args.numbers.now c.args.order.now c.args.nodes.now c.requires c.loop-node.done.levels.items c.loop-node.done.places.items
    (rw (take_all c.loop-node.node-index c.args.order.now over) at c.loop-node.invariant.read))

pub returns : goal.returns
returns c u own =
    let over = c.loop-node-test.false in
    c.of.ensures
    ∙ ap (types_at c.loop-node.done.levels.items) (rw c.as_slice.ensures.value at c.in_ok-roots.ensures)
    ∙ roots_stand c.args.arena.now c.args.numbers.now c.args.order.now c.args.nodes.now c.requires c.loop-node.done.levels.items c.loop-node.done.places.items
    (rw (take_all c.loop-node.node-index c.args.order.now over) at c.loop-node.invariant.read) u own
