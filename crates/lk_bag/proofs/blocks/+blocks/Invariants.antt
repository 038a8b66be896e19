use Rattle.std.proofs.Common.{◌≡◌, ◌++◌, drop, flat_map, ◌≤◌}
use Rattle.lk_ast.specs.declared.expression.Expr.{size-Expr}
use Rattle.lk_bag.specs.Blocks.{blocks_in}
use Rattle.lk_bag.specs.Inside.{in_case, in_part, shown}
use Rattle.lk_bag.proofs.blocks.+blocks.Given as goal

abbrev pub invariant-cases-loop-case : goal.invariant-cases-loop-case
invariant-cases-loop-case l = shown l.found ++ flat_map in_case (drop l.case-index l.list) ≡ shown l.initial.found ++ flat_map in_case l.list

abbrev pub invariant-exprs-loop-e : goal.invariant-exprs-loop-e
invariant-exprs-loop-e l = shown l.found ++ flat_map blocks_in (drop l.e-index l.list) ≡ shown l.initial.found ++ flat_map blocks_in l.list

abbrev pub invariant-parts-loop-part : goal.invariant-parts-loop-part
invariant-parts-loop-part l = shown l.found ++ flat_map in_part (drop l.part-index l.list) ≡ shown l.initial.found ++ flat_map in_part l.list

abbrev pub invariant-expr-loop-name : goal.invariant-expr-loop-name
invariant-expr-loop-name l = (size-Expr l.rest ≤ size-Expr l.initial.rest) × (shown l.found ++ blocks_in l.rest ≡ shown l.initial.found ++ blocks_in l.initial.rest)

abbrev pub decreases-expr-loop-name : goal.decreases-expr-loop-name
decreases-expr-loop-name l = size-Expr l.rest
