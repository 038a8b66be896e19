use Rattle.std.proofs.Common.{◌<◌, Some, length, refl}
use Rattle.lk_types.proofs.Members.{each_to_map}
use Rattle.lk_arena.proofs.Growth.{HasFields-some}
use Rattle.lk_arena.specs.declared.node.Field.{Field}
use Rattle.lk_unify.proofs.LoadSteps.{if_mapped}
use Rattle.lk_unify.proofs.load.add_row.Goals as goal

pub make_node-requires : goal.make_node-requires
make_node-requires c = record {
  whole = c.requires.whole;
  parts = (c.requires.tail_below, each_to_map (λ k. k < length c.args.loader.now.arena.shapes) (λ (f : Field). f.node) c.args.fields c.requires.below);
  distinct = rw c.as_slice.ensures at (c.in_ok-are_distinct.ensures.distinct c.if-branch.true);
  filled = HasFields-some c.args.fields c.args.tail c.requires.some;
  known = refl;
}

pub returns-then-branch : goal.returns-then-branch
returns-then-branch c =
    if_mapped Some c.make_node.result c.map.result _ _ c.map.ensures.cases (λ n made. ((rw c.as_slice.ensures at (c.in_ok-are_distinct.ensures.distinct c.if-branch.true)), made)) c.make_node.ensures
