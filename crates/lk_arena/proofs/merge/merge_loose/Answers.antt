use Rattle.std.proofs.Common.{arith}
use Rattle.lk_arena.proofs.Merged.{merges_loose}
use Rattle.lk_arena.proofs.merge.merge_loose.Goals as goal

pub returns-clause-merged : goal.returns-clause-merged
returns-clause-merged c _ queue pairs =
    merges_loose c.args.from c.args.to c.args.arena.now.shapes c.args.arena.now.classes c.requires.apart c.requires.arena queue pairs _ _ c.unite.ensures c.requires.loose
    (grind arith)
