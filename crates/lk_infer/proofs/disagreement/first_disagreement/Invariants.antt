use Rattle.lk_infer.proofs.ProgramAnswers.{IsDone}
use Rattle.lk_infer.proofs.disagreement.first_disagreement.Given as goal

abbrev pub invariant-loop-decl : goal.invariant-loop-decl
invariant-loop-decl l = IsDone l.program l.decl-index l.so_far.large l.so_far.earlier l.so_far.schemes l.so_far.types
