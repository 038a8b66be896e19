use Rattle.std.proofs.Common.{◌≡◌, Bool, List, length}
use Rattle.std.specs.Vec.Iter.{into_iter_items, into_iter_len}
use Rattle.lk_mono.proofs.FunctionLists.{AreOn}
use Rattle.lk_mono.specs.Grounded.{AreAllCalled}
use Rattle.lk_mono.specs.Held.{AreHeld}
use Rattle.lk_mono.specs.Instances.{Body, uses_of}
use Rattle.lk_mono.specs.Queues.{as_list}
use Rattle.lk_mono.specs.declared.body.Source.{Source}
use Rattle.lk_sound.specs.Nodes.{Use}
use Rattle.lk_mono.proofs.program.functions.Given as goal

abbrev pub invariant-loop-usage : goal.invariant-loop-usage
invariant-loop-usage l =
    ((source : Source) (mains helpers : List Use) (in_helper : Bool) (held : List Body) → AreHeld source l.fn.bodies held → uses_of held ≡ as_list l.fn.listed → AreAllCalled mains helpers in_helper held l.fn.calls
    → AreOn source mains helpers in_helper held l.funs (into_iter_items l.usage-iterator.a) (into_iter_items l.usage-iterator.b.a) (into_iter_items l.usage-iterator.b.b))
    × (into_iter_len l.usage-iterator.a ≡ length (into_iter_items l.usage-iterator.a))
    × (into_iter_len l.usage-iterator.b.a ≡ length (into_iter_items l.usage-iterator.b.a))
    × (into_iter_len l.usage-iterator.b.b ≡ length (into_iter_items l.usage-iterator.b.b))
