use Rattle.std.proofs.Common.{sym, ◌∙◌, subst}
use Rattle.lk_arena.proofs.Heads.{made_once}
use Rattle.lk_arena.proofs.Pairs.{length-maps}
use Rattle.lk_arena.proofs.merge.push_parts.Goals as goal
use Rattle.lk_arena.specs.Shapes.{IsBuilt}

pub returns-then-parts-len-clause-never : goal.returns-then-parts-len-clause-never
returns-then-parts-len-clause-never c _ w x built other =
    let once = made_once c.args.head c.in-Made.other_head _ _ x built (subst (λ s. IsBuilt s w x) c.in-Made.is other) in
    c.if-parts-len.true (length-maps w c.args.parts.now c.in-Made.others once.1 ∙ sym c.len.ensures)
