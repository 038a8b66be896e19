use Rattle.std.proofs.Common.{◌≡◌, take}
use Rattle.lk_locals.proofs.locals.share_layers.Given as goal

abbrev pub invariant-loop-layer : goal.invariant-loop-layer
invariant-loop-layer l = l.own ≡ take l.layer-index l.layers
