use Rattle.std.proofs.Common.{arith, ap, sym, ◌∙◌}
use Rattle.std.proofs.lemmas.List.{map-append}
use Rattle.std.proofs.lemmas.Result.{IfOk-equal}
use Rattle.lk_ast.specs.declared.expression.Node.TheOpen.{Node-F}
use Rattle.lk_ast.specs.declared.expression.Node.TheVariants.{rolls-Lambda}
use Rattle.lk_index.specs.Places.{gather, seen}
use Rattle.lk_index.proofs.Paras.{before_level, lambda_level, node_is}
use Rattle.lk_index.proofs.places.+places.Goals as goal

pub expr-loop-name-preserved : goal.expr-loop-name-preserved
expr-loop-name-preserved t c = (
  omega (arith, c.in-Some.ensures.rest, c.loop-name.invariant.0),
  ap (gather c.in-Some.next.now) c.in_ok-expr.ensures ∙ sym (before_level _ c.in-Some.next.now _) ∙ ap (λ e. gather e (seen c.loop-name.found)) (sym c.in-Some.ensures.before) ∙ c.loop-name.invariant.1,
)

pub node-returns-in_ok-push-in-Lambda : goal.node-returns-in_ok-push-in-Lambda
node-returns-in_ok-push-in-Lambda t c =
    IfOk-equal c.expr.result _ _ _ c.expr.ensures
    (ap (gather c.in-Lambda.e.body) (ap seen c.in_ok-push-in-Lambda.ensures.ok ∙ map-append _ c.args.found.now _)
    ∙ sym (lambda_level c.in-Lambda.e _)
    ∙ sym (node_is c.args.node.now (Node-F.Lambda c.in-Lambda.e) (c.in-Lambda.is ∙ sym (rolls-Lambda c.in-Lambda.e)) c.args.site (seen c.args.found.now)))
