-- How an evaluation without a value ends.
use Rattle.std.specs.Prelude.{Option, Some, None}
use Rattle.lk_evaluation.specs.Run.{Stop, Trapped, Spent, Stuck}
use Rattle.lk_sem.specs.declared.run.Halt.{Halt}
use Rattle.lk_sem.specs.declared.run.Halt.TheVariants as halt
use Rattle.lk_sem.specs.declared.run.SourceEnd.{SourceEnd}
use Rattle.lk_sem.specs.declared.run.SourceEnd.TheVariants as end

-- why it stops
abbrev pub stop_of : Halt → Stop
stop_of (halt.Trap trap) = Trapped trap
stop_of halt.Spent = Spent
stop_of (halt.Stuck at) = Stuck at

-- the end, if an accepted program may come to it
abbrev pub end_of : Halt → Option SourceEnd
end_of (halt.Trap trap) = Some (end.Trap trap)
end_of halt.Spent = Some end.Spent
end_of (halt.Stuck at) = None
