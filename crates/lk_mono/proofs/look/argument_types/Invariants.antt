use Rattle.std.proofs.Common.{take}
use Rattle.lk_mono.proofs.Numbering.{AreParams}
use Rattle.lk_mono.proofs.look.argument_types.Given as goal

abbrev pub invariant-loop-arg : goal.invariant-loop-arg
invariant-loop-arg l = AreParams l.initial.grounds l.grounds l.numbers (take l.arg-index l.args) l.params
