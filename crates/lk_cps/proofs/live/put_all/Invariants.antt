use Rattle.lk_cps.proofs.Entries.{Joining}
use Rattle.lk_cps.proofs.live.put_all.Given as goal

abbrev pub invariant-loop-name : goal.invariant-loop-name
invariant-loop-name l = Joining l.fn.names l.fn.more l.names l.name-iterator
