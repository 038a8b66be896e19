use Rattle.std.proofs.Common.{◌≡◌, drop}
use Rattle.lk_walk.specs.Members.{all_shown, functions_went}
use Rattle.lk_walk.proofs.group.walk_members.Given as goal

abbrev pub invariant-loop-member : goal.invariant-loop-member
invariant-loop-member l = functions_went l.globals l.in_mutual (all_shown (drop l.member-index l.members)) l.walker ≡ functions_went l.globals l.in_mutual (all_shown l.members) l.initial.walker
