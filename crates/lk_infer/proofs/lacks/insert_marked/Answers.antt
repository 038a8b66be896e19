use Rattle.std.proofs.Common.{refl}
use Rattle.lk_infer.proofs.LevelsShown.{marked_step}
use Rattle.lk_infer.proofs.lacks.insert_marked.Goals as goal

pub loop-place-preserved : goal.loop-place-preserved
loop-place-preserved c =
    marked_step c.args.levels.now c.args.marks.now c.loop-place.place c.index-levels-place.result _ c.loop-place.found _ _ c.requires c.loop-place-test.true c.index-levels-place.is refl
    c.in_ok-insert_level.ensures c.loop-place.invariant
