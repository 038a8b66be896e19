-- The evaluations that are answered as those that evaluation comes to.
use Rattle.lk_sem.specs.declared.run.SourceEnd.{SourceEnd}
use Rattle.lk_sem.specs.declared.run.SourceEnd.TheVariants as source
use Rattle.lk_sem.specs.declared.run.SourceRun.{SourceRun}
use Rattle.lk_cli.specs.declared.ended.End.{End}
use Rattle.lk_cli.specs.declared.ended.End.TheVariants as own
use Rattle.lk_cli.specs.declared.ended.Ended.{Ended}

-- the same end; none of these is that where the store failed
abbrev pub source_end : End → SourceEnd
source_end (own.Value v) = source.Value v
source_end (own.Trap trap) = source.Trap trap
source_end own.Spent = source.Spent
source_end (own.TableFull size) = source.TableFull size

-- the same run
abbrev pub run_of : Ended → SourceRun
run_of ended = record { end = source_end ended.end; log = ended.log; used = ended.used }
