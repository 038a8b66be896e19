use Rattle.std.proofs.Common.{ap, sym, ◌∙◌}
use Rattle.lk_types.specs.declared.ty.Ty.TheVariants as ty
use Rattle.lk_walk.specs.Blocks.{blocks_left}
use Rattle.lk_walk.proofs.Blocks.{blocks_last}
use Rattle.lk_walk.proofs.block.end_all.Goals as goal

pub loop-block-preserved : goal.loop-block-preserved
loop-block-preserved c =
    (λ i. blocks_left c.pop.new.self (ty.Var (c.in_ok-number.ensures.number i)) (c.in_ok-number.ensures.left i))
    ∙ sym (blocks_last c.pop.new.self c.in-Some.block (ty.Var c.loop-block.number) c.loop-block.walker)
    ∙ ap (λ bs. blocks_left bs (ty.Var c.loop-block.number) c.loop-block.walker) (sym c.in-Some.ensures)
    ∙ c.loop-block.invariant
