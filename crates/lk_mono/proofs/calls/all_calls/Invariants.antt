use Rattle.std.proofs.Common.{List, drop}
use Rattle.lk_mono.proofs.CallLists.{AllAhead}
use Rattle.lk_mono.specs.Held.{AreHeld}
use Rattle.lk_mono.specs.Instances.{Body}
use Rattle.lk_mono.specs.Listed.{AreListedIn}
use Rattle.lk_mono.specs.Queues.{as_list}
use Rattle.lk_mono.specs.declared.body.Source.{Source}
use Rattle.lk_types.specs.Each.{Each}
use Rattle.lk_mono.proofs.calls.all_calls.Given as goal

abbrev pub invariant-loop-body : goal.invariant-loop-body
invariant-loop-body l = (source : Source) (bodies : List Body) → AreHeld source l.bodies bodies → Each (AreListedIn (as_list l.mains) (as_list l.helpers) l.in_helper) bodies
    → AllAhead (as_list l.mains) (as_list l.helpers) l.in_helper source bodies l.all (drop l.body-index l.bodies)
