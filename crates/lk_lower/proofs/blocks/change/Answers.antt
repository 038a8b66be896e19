use Rattle.std.proofs.Common.{refl, ap, ◌∙◌, ◌+◌, ℕ}
use Rattle.lk_ir.specs.declared.nodes.Kind.TheVariants as kind
use Rattle.lk_lower.proofs.Shaping.{change_made}
use Rattle.lk_lower.proofs.blocks.change.Goals as goal
use Rattle.lk_lower.specs.Steps.{past}
use Rattle.lk_lower.specs.Walked.{state_of}

pub returns : goal.returns
returns c =
    change_made c.args.at.now.owner c.args.place.number c.args.place.ty (state_of c.args.walk.now) (state_of c.kept_by_change.new.walk) (state_of c.reach.new.walk) refl c.args.block c.args.rows.now c.in_ok-kept.kept c.in_ok-reach.field-0 c.in_ok-inside.inside.nodes c.in_ok-inside.inside.uses
    c.in_ok-kept.ensures.state c.in_ok-kept.ensures.kept c.in_ok-inside.ensures.nodes c.in_ok-inside.ensures.uses
    (c.in_ok-reach.ensures.kind ∙ ap (λ (label : ℕ). kind.Reach c.args.block label c.in_ok-kept.kept) c.in_ok-label.ensures.label)
    (c.in_ok-reach.ensures.state ∙ ap (past (1 + c.in_ok-inside.inside.nodes) c.in_ok-inside.inside.uses) c.in_ok-label.ensures.state)
