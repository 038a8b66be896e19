use Rattle.std.proofs.Common.{◌++◌, sym, ◌∙◌}
use Rattle.std.proofs.lemmas.List.{append-nil, take_all}
use Rattle.std.specs.Prelude.{flat_map}
use Rattle.lk_ground_types.proofs.EntriesMade.{behind_more}
use Rattle.lk_ground_types.specs.Grounds.{part_key}
use Rattle.lk_ground_types.proofs.ground_level.row_key.Goals as goal

pub loop-part-init : goal.loop-part-init
loop-part-init c = sym (append-nil (c.in_ok-key.key))

pub loop-part-preserved : goal.loop-part-preserved
loop-part-preserved c = behind_more part_key _ _ _ c.args.parts.now c.loop-part.part-index c.part-item.result _ c.loop-part-test.true c.part-item.is c.loop-part.invariant c.in_ok-push_part.ensures

pub returns : goal.returns
returns c = c.loop-part.invariant ∙ (λ i. c.in_ok-key.ensures i ++ flat_map part_key (take_all c.loop-part.part-index c.args.parts.now c.loop-part-test.false i))
