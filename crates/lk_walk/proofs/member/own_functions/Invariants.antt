use Rattle.std.proofs.Common.{◌≡◌, ◌++◌, map}
use Rattle.std.specs.Iterator.Adapters.{rev_source}
use Rattle.std.specs.Slice.Iter.{iter_rest}
use Rattle.lk_walk.specs.Members.{all_shown, named_type}
use Rattle.lk_walk.proofs.member.own_functions.Given as goal

abbrev pub invariant-loop-member : goal.invariant-loop-member
invariant-loop-member l = map named_type (all_shown (iter_rest (rev_source l.member-iterator))) ++ l.own ≡ map named_type (all_shown l.members)
