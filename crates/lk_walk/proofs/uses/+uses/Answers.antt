use Rattle.std.proofs.Common.{arith, ap, ap₂, map, [], ◌∙◌}
use Rattle.std.specs.Prelude.{◌||◌}
use Rattle.std.specs.List.{cons_option, list_any}
use Rattle.std.specs.Option.{option_copied, option_map}
use Rattle.lk_typing.specs.Uses.{functions_used}
use Rattle.lk_walk.specs.Using.{found_after, is_use, uses_case, uses_last, uses_part}
use Rattle.lk_walk.proofs.Usage.{change_found, expr_found, extend_found, statement_found, switch_found}
use Rattle.lk_walk.proofs.uses.+uses.Goals as goal

pub change-returns : goal.change-returns
change-returns t c = c.parts.ensures ∙ ap₂ (λ sets found. found_after c.args.name.now (map uses_part sets) found) c.as_slice.ensures c.expr.ensures ∙ change_found c.args.name.now c.args.rows.now c.args.found

pub expr-loop-name-preserved : goal.expr-loop-name-preserved
expr-loop-name-preserved t c = (
  omega (arith, c.in-Some.ensures.rest, c.loop-name.invariant.0),
  statement_found c.args.name.now c.loop-name.rest.now c.in-Some.statement.now c.in-Some.next.now (option_copied c.in-Some._name) c.loop-name.rest.now.span c.loop-name.found c.expr-found.result c.in-Some.ensures.before c.expr-found.ensures ∙ c.loop-name.invariant.1,
)

pub expr-returns : goal.expr-returns
expr-returns t c = c.node.ensures ∙ expr_found c.args.name.now c.loop-name.rest.now c.get.result.now c.loop-name.found c.get.ensures ∙ c.loop-name.invariant.1

pub node-returns-in-Extend : goal.node-returns-in-Extend
node-returns-in-Extend t c =
    c.expr-in-Extend.ensures
    ∙ ap (λ found. found || list_any (is_use c.args.name.now) (functions_used c.in-Extend.e)) (c.parts-in-Extend.ensures ∙ ap (λ fields. found_after c.args.name.now (map uses_part fields) c.args.found) c.as_slice-in-Extend.ensures)
    ∙ extend_found c.args.name.now c.args.node.now c.in-Extend.fields c.in-Extend.e c.args.found c.in-Extend.is

pub node-returns-in-Switch : goal.node-returns-in-Switch
node-returns-in-Switch t c =
    c.last_case.ensures
    ∙ ap (found_after c.args.name.now (cons_option (option_map uses_last c.in-Switch.last) []))
    (c.cases-found.ensures ∙ ap₂ (λ cases found. found_after c.args.name.now (map uses_case cases) found) c.as_slice-in-Switch.ensures c.expr-in-Switch.ensures)
    ∙ switch_found c.args.name.now c.args.node.now c.in-Switch.e c.in-Switch.list c.in-Switch.last c.args.found c.in-Switch.is
