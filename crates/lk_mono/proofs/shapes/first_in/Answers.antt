use Rattle.std.proofs.Common.{sym, ◌∙◌}
use Rattle.std.proofs.lemmas.Slice.Zip.{either_empty_from_Zip}
use Rattle.std.specs.Iterator.Adapters.{zip_first, zip_second}
use Rattle.std.specs.Slice.Iter.{iter_rest}
use Rattle.lk_mono.proofs.Faults.{none_left}
use Rattle.lk_mono.proofs.shapes.first_in.Goals as goal

pub returns : goal.returns
returns c =
    let left = c.loop-body.body-iterator in
    sym (none_left c.args.marks.now (iter_rest (zip_first left)) (iter_rest (zip_second left)) (either_empty_from_Zip left c.next.new.self c.next.result c.in-None.is c.next.ensures.steps)) ∙ c.loop-body.invariant
