use Rattle.std.proofs.Common.{refl, ap, ◌∙◌, ◌+◌, ℕ}
use Rattle.lk_ir.specs.declared.nodes.Block.TheVariants as block
use Rattle.lk_ir.specs.declared.nodes.Kind.TheVariants as kind
use Rattle.lk_lower.proofs.Shaping.{query_shaped}
use Rattle.lk_lower.proofs.blocks.query.Goals as goal
use Rattle.lk_lower.specs.Steps.{past}
use Rattle.lk_lower.specs.Walked.{state_of}

pub returns : goal.returns
returns c = λ keys.
    query_shaped c.args.at.now.owner c.args.place.number c.args.place.ty (state_of c.args.walk.now) (state_of c.kept_by_query.new.walk) (state_of c.reach.new.walk) refl keys c.args.body.now c.in_ok-kept.kept c.in_ok-reach.field-0 c.in_ok-inside.inside.nodes c.in_ok-inside.inside.uses
    c.in_ok-kept.ensures.state c.in_ok-kept.ensures.kept c.in_ok-inside.ensures.nodes c.in_ok-inside.ensures.uses
    (c.in_ok-reach.ensures.kind ∙ ap (λ (label : ℕ). kind.Reach block.Query label c.in_ok-kept.kept) c.in_ok-label.ensures.label)
    (c.in_ok-reach.ensures.state ∙ ap (past (1 + c.in_ok-inside.inside.nodes) c.in_ok-inside.inside.uses) c.in_ok-label.ensures.state)
