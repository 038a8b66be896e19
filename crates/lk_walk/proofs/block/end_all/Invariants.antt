use Rattle.std.proofs.Common.{◌≡◌, length}
use Rattle.lk_types.specs.declared.ty.Ty.TheVariants as ty
use Rattle.lk_walk.specs.Blocks.{blocks_left}
use Rattle.lk_walk.proofs.block.end_all.Given as goal

abbrev pub invariant-loop-block : goal.invariant-loop-block
invariant-loop-block l = blocks_left l.blocks (ty.Var l.number) l.walker ≡ blocks_left l.initial.blocks (ty.Var l.initial.number) l.initial.walker

abbrev pub decreases-loop-block : goal.decreases-loop-block
decreases-loop-block l = length l.blocks
