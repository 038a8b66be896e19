use Rattle.std.proofs.Common.{◌∙◌}
use Rattle.std.proofs.lemmas.Slice.Zip.{either_empty_from_Zip}
use Rattle.std.specs.Iterator.Adapters.{zip_first, zip_second}
use Rattle.std.specs.Slice.Iter.{iter_rest}
use Rattle.lk_cli.proofs.Lines.{lines_end}
use Rattle.lk_cli.proofs.schemes.lines_of.Goals as goal

pub returns : goal.returns
returns c =
    let left = c.loop-function.function-iterator in
    lines_end c.loop-function.text (iter_rest (zip_first left)) (iter_rest (zip_second left)) (either_empty_from_Zip left c.next.new.self c.next.result c.in-None.is c.next.ensures.steps) ∙ c.loop-function.invariant
