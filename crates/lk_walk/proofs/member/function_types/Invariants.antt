use Rattle.std.proofs.Common.{◌≡◌, ◌++◌, drop, map}
use Rattle.lk_walk.specs.Members.{all_shown, first_type}
use Rattle.lk_walk.proofs.member.function_types.Given as goal

abbrev pub invariant-loop-member : goal.invariant-loop-member
invariant-loop-member l = l.types ++ map first_type (all_shown (drop l.member-index l.members)) ≡ map first_type (all_shown l.members)
