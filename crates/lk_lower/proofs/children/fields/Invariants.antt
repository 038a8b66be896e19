use Rattle.std.proofs.Common.{◌≡◌, ◌++◌, drop}
use Rattle.lk_ast.specs.Children.{exprs_of}
use Rattle.lk_lower.specs.Walked.{shown}
use Rattle.lk_lower.proofs.children.fields.Given as goal

abbrev pub invariant-loop-part : goal.invariant-loop-part
invariant-loop-part l = shown l.found ++ exprs_of (drop l.part-index l.list) ≡ shown l.initial.found ++ exprs_of l.list
