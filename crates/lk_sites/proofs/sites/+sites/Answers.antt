use Rattle.std.proofs.Common.{arith, ap, sym, ◌∙◌}
use Rattle.std.specs.Option.{option_copied}
use Rattle.std.proofs.lemmas.Result.{IfOk-equal, on_ok_weaker}
use Rattle.lk_ast.specs.declared.expression.Node.{out-Node}
use Rattle.lk_ast.specs.declared.expression.Node.TheVariants as node
use Rattle.lk_sites.proofs.sites.+sites.Goals as goal
use Rattle.lk_sites.proofs.Visiting.{last_visited, statement_visited}
use Rattle.lk_sites.specs.Sites.{visit}
use Rattle.lk_sites.specs.SitesInside.{both, in_cases, in_parts, in_some, tour_of, within}

pub expr-loop-name-preserved : goal.expr-loop-name-preserved
expr-loop-name-preserved t c = (
  omega (arith, c.in-Some.ensures.rest, c.loop-name.invariant.0),
  statement_visited c.args.fun (record { span = c.loop-name.rest.now.span; name = option_copied c.in-Some._name; expr = c.in-Some.statement.now }) c.loop-name.rest.now c.in-Some.next.now c.args.inside
      (tour_of c.loop-name.tour) (tour_of c.take_type.new.tour) (tour_of c.expr.new.tour) _ c.in-Some.ensures.before c.loop-name.invariant.1 c.take_type.ensures c.in_ok-expr.ensures,
)

pub expr-returns : goal.expr-returns
expr-returns t c =
    on_ok_weaker c.node.result
    (λ is. last_visited c.args.fun c.loop-name.rest.now c.args.inside c.is_inside-within.result (tour_of c.loop-name.tour) (tour_of c.enter.new.tour) (tour_of c.node.new.tour) _ c.loop-name.invariant.1 c.in_ok-enter.ensures c.is_inside-within.ensures
    (is ∙ ap (λ n. within c.args.fun (out-Node n) c.is_inside-within.result (tour_of c.enter.new.tour)) c.get.ensures))
    c.node.ensures

pub node-returns-in-Extend : goal.node-returns-in-Extend
node-returns-in-Extend t c =
    IfOk-equal c.extension.result _ _ _ c.extension.ensures
    (ap (λ parts. both (in_parts c.args.fun parts) (visit c.args.fun c.in-Extend.e) c.args.inside (tour_of c.args.tour.now)) c.as_slice-in-Extend.ensures
    ∙ ap (λ l. within c.args.fun l c.args.inside (tour_of c.args.tour.now)) (sym (ap out-Node c.in-Extend.is ∙ node.outs-Extend c.in-Extend.list c.in-Extend.e)))

pub node-returns-in-Switch : goal.node-returns-in-Switch
node-returns-in-Switch t c =
    IfOk-equal c.switch.result _ _ _ c.switch.ensures
    (ap (λ cases. both (visit c.args.fun c.in-Switch.e) (both (in_cases c.args.fun cases) (in_some c.args.fun c.in-Switch.last)) c.args.inside (tour_of c.args.tour.now)) c.as_slice-in-Switch.ensures
    ∙ ap (λ l. within c.args.fun l c.args.inside (tour_of c.args.tour.now)) (sym (ap out-Node c.in-Switch.is ∙ node.outs-Switch c.in-Switch.e c.in-Switch.list c.in-Switch.last)))
