use Rattle.std.proofs.Common.{◌≡◌, ◌++◌, drop}
use Rattle.lk_lower.specs.Lowering.{case_bodies}
use Rattle.lk_lower.specs.Walked.{shown}
use Rattle.lk_lower.proofs.children.cases.Given as goal

abbrev pub invariant-loop-case : goal.invariant-loop-case
invariant-loop-case l = shown l.found ++ case_bodies (drop l.case-index l.list) ≡ shown l.initial.found ++ case_bodies l.list
