use Rattle.std.proofs.Common.{◌≡◌}
use Rattle.std.specs.Iterator.Adapters.{rev_source}
use Rattle.std.specs.Slice.Iter.{iter_rest}
use Rattle.lk_locals.specs.Layers.{layered}
use Rattle.lk_locals.specs.Names.{lookup}
use Rattle.lk_locals.proofs.locals.find.Given as goal

abbrev pub invariant-loop-layer : goal.invariant-loop-layer
invariant-loop-layer l =
    lookup (layered (iter_rest (rev_source l.layer-iterator))) l.name ≡ lookup (layered l.layers) l.name
