use Rattle.std.proofs.Common.{◌≡◌, [], drop}
use Rattle.lk_typing.specs.Types.{labelled}
use Rattle.lk_typing.specs.Typing.{labels_of}
use Rattle.lk_equations.specs.Labelled.{laid}
use Rattle.lk_equations.proofs.records.labelled.Given as goal

abbrev pub invariant-loop-part : goal.invariant-loop-part
invariant-loop-part l = laid l.fields (labelled (labels_of (drop l.part-index l.parts)) l.rest) ≡ laid [] (labelled (labels_of l.parts) l.types)
