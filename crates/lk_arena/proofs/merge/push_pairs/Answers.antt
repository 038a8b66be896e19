use Rattle.std.proofs.Common.{arith}
use Rattle.std.proofs.lemmas.Grind.{common_steps}
use Rattle.lk_arena.proofs.Pairs.{paired_more}
use Rattle.lk_arena.proofs.merge.push_pairs.Goals as goal

pub loop-i-preserved : goal.loop-i-preserved
loop-i-preserved c =
    let more = paired_more c.args.lefts.now c.args.rights.now c.loop-i.i (omega arith) (omega arith) in
    grind (arith, common_steps, more)
