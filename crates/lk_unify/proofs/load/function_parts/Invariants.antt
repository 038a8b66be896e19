use Rattle.std.proofs.Common.{◌≡◌, ◌∷◌, take}
use Rattle.lk_unify.proofs.load.function_parts.Given as goal

abbrev pub invariant-loop-node : goal.invariant-loop-node
invariant-loop-node l = l.parts ≡ l.effects ∷ (l.answer ∷ take l.node-index l.params)
