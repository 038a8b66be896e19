use Rattle.std.proofs.Common.{sym, ◌∙◌}
use Rattle.lk_arena.proofs.Steps.{same_trans, last_same, last_apart, rest_within}
use Rattle.lk_arena.proofs.merge.next_apart.Goals as goal

pub returns-then-left-right-clause-same : goal.returns-then-left-right-clause-same
returns-then-left-right-clause-same c =
    same_trans c.args.arena.now.classes c.args.queue.now c.loop-pair.queue _ c.loop-pair.invariant.same
    (last_apart c.args.arena.now.shapes c.args.arena.now.classes c.requires.arena c.loop-pair.queue c.pop.new.self c.in-Some.pair c.in-Some.ensures c.loop-pair.invariant.pairs
    c.class_of-left.result c.class_of-right.result c.class_of-left.ensures c.class_of-right.ensures)

pub loop-pair-preserved : goal.loop-pair-preserved
loop-pair-preserved c = record {
  pairs = rest_within c.args.arena.now.shapes c.args.arena.now.classes c.requires.arena c.loop-pair.queue c.pop.new.self c.in-Some.pair c.in-Some.ensures c.loop-pair.invariant.pairs;
  same = same_trans c.args.arena.now.classes c.args.queue.now c.loop-pair.queue _ c.loop-pair.invariant.same
      (last_same c.args.arena.now.shapes c.args.arena.now.classes c.requires.arena c.loop-pair.queue c.pop.new.self c.in-Some.pair c.in-Some.ensures c.loop-pair.invariant.pairs
      (sym c.class_of-left.ensures ∙ c.if-left-right.false ∙ c.class_of-right.ensures));
}
