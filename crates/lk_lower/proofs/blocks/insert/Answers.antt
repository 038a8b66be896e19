use Rattle.std.proofs.Common.{refl, ap, ◌∙◌}
use Rattle.lk_lower.proofs.Shaping.{insert_shaped}
use Rattle.lk_lower.proofs.blocks.insert.Goals as goal
use Rattle.lk_lower.specs.Steps.{past}
use Rattle.lk_lower.specs.Walked.{state_of}

pub returns : goal.returns
returns c = λ e.
    insert_shaped c.args.at.now.owner c.args.place.number c.args.place.ty (state_of c.args.walk.now) refl (state_of c.take_type.new.walk) c.args.table.now e c.in_ok-label.label c.new-kept.result c.new-kept.ensures
    c.in_ok-label.ensures.label
    (c.take_type.ensures ∙ ap (past 1 0) c.in_ok-label.ensures.state)
