use Rattle.std.proofs.Common.{◌≡◌, ◌++◌, drop}
use Rattle.lk_typing.specs.Groups.{after_unknowns}
use Rattle.lk_walk.specs.Members.{all_shown, numbered_from}
use Rattle.lk_walk.proofs.member.members_of.Given as goal

abbrev pub invariant-loop-function : goal.invariant-loop-function
invariant-loop-function l =
    (all_shown l.all ++ numbered_from (drop l.function-index l.functions) l.next ≡ numbered_from l.functions 0)
    × (after_unknowns (drop l.function-index l.functions) l.next ≡ after_unknowns l.functions 0)
