use Rattle.std.proofs.Common.{◌≡◌}
use Rattle.std.specs.Iterator.Adapters.{zip_first, zip_second}
use Rattle.std.specs.Slice.Iter.{iter_rest}
use Rattle.lk_mono.specs.Flatness.{first_of}
use Rattle.lk_mono.proofs.shapes.first_in.Given as goal

abbrev pub invariant-loop-body : goal.invariant-loop-body
invariant-loop-body l = first_of l.marks (iter_rest (zip_first l.body-iterator)) (iter_rest (zip_second l.body-iterator)) ≡ first_of l.marks l.bodies l.calls
