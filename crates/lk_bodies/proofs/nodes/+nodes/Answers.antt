use Rattle.std.proofs.Common.{◌≡◌, suc, ◌-◌, Some, None, arith, ap, ap₂, subst, sym, ◌∙◌}
use Rattle.std.specs.Option.{option_copied}
use Rattle.std.specs.Prelude.{IfOk}
use Rattle.lk_ast.specs.Functions.{function_named}
use Rattle.lk_ast.specs.Layers.{layer}
use Rattle.lk_ast.specs.declared.expression.Node.{out-Node}
use Rattle.lk_bodies.proofs.nodes.+nodes.Goals as goal
use Rattle.lk_bodies.proofs.NodeCounts.{counted_body, counted_nobody, counted_not, item_goes_on, item_stops, items_end, last_goes_on, last_stops, spent_none, statement_goes_on, statement_stops, statement_stops_inside}
use Rattle.lk_bodies.specs.Nodes.{counted, nodes, spent}
use Rattle.lk_bodies.specs.NodesInside.{inside}

pub body-returns-then-calls-eq0 : goal.body-returns-then-calls-eq0
body-returns-then-calls-eq0 t c = sym (ap (spent c.args.left) (counted_not c.args.at.now.index.now c.args.at.now.calls c.args.name.now c.if-calls-eq0.true) ∙ spent_none c.args.left)

pub body-returns-in_default : goal.body-returns-in_default
body-returns-in_default t c =
    let p = c.args.at.now.index.now in
    let found : function_named p c.args.name.now ≡ None = ap (function_named p) (sym c.as_str.ensures) ∙ sym c.function.ensures ∙ ap option_copied c.in_default.is in
    sym (ap (spent c.args.left) (counted_nobody p c.args.at.now.calls c.args.name.now found) ∙ spent_none c.args.left)

pub body-returns : goal.body-returns
body-returns t c =
    let p = c.args.at.now.index.now in
    let n = c.args.at.now.calls in
    let more : n ≡ suc (n - 1) = omega (arith, c.if-calls-eq0.false) in
    let f = c.in-Some.function.now in
    let found : function_named p c.args.name.now ≡ Some f = ap (function_named p) (sym c.as_str.ensures) ∙ sym c.function.ensures ∙ ap option_copied c.in-Some.is in
    subst (λ m. IfOk c.expr.result (λ found. found ≡ m)) (sym (ap (spent c.args.left) (counted_body p n (n - 1) c.args.name.now f more found))) c.expr.ensures

pub expr-returns-in_default-take_one : goal.expr-returns-in_default-take_one
expr-returns-in_default-take_one t c =
    statement_stops (counted c.args.at.now.index.now c.args.at.now.calls) c.loop-name.left (record { span = c.loop-name.rest.now.span; name = option_copied c.in-Some._name; expr = c.in-Some.statement.now }) c.loop-name.rest.now c.in-Some.next.now _
    c.in-Some.ensures.before c.loop-name.invariant.1 (sym c.take_one.ensures ∙ c.in_default-take_one.is)

pub expr-returns-in_default-2 : goal.expr-returns-in_default-2
expr-returns-in_default-2 t c =
    statement_stops_inside (counted c.args.at.now.index.now c.args.at.now.calls) c.loop-name.left c.in-Some-take_one.behind (record { span = c.loop-name.rest.now.span; name = option_copied c.in-Some._name; expr = c.in-Some.statement.now }) c.loop-name.rest.now c.in-Some.next.now _
    c.in-Some.ensures.before c.loop-name.invariant.1 (sym c.take_one.ensures ∙ c.in-Some-take_one.is) (sym c.in_ok-behind.ensures ∙ c.in_default-2.is)

pub expr-loop-name-preserved : goal.expr-loop-name-preserved
expr-loop-name-preserved t c = (
  omega (arith, c.in-Some.ensures.rest, c.loop-name.invariant.0),
  statement_goes_on (counted c.args.at.now.index.now c.args.at.now.calls) c.loop-name.left c.in-Some-take_one.behind c.in-Some-2.behind (record { span = c.loop-name.rest.now.span; name = option_copied c.in-Some._name; expr = c.in-Some.statement.now }) c.loop-name.rest.now c.in-Some.next.now _
      c.in-Some.ensures.before c.loop-name.invariant.1 (sym c.take_one.ensures ∙ c.in-Some-take_one.is) (sym c.in_ok-behind.ensures ∙ c.in-Some-2.is),
)

pub expr-returns-in_default-take_one-2 : goal.expr-returns-in_default-take_one-2
expr-returns-in_default-take_one-2 t c =
    last_stops (counted c.args.at.now.index.now c.args.at.now.calls) c.loop-name.left c.loop-name.rest.now _ c.loop-name.invariant.1 (sym c.take_one-2.ensures ∙ c.in_default-take_one-2.is)

pub expr-returns : goal.expr-returns
expr-returns t c =
    subst (λ m. IfOk c.node.result (λ found. found ≡ m))
    (ap (λ n. spent c.in-Some-take_one-2.behind (inside (counted c.args.at.now.index.now c.args.at.now.calls) (out-Node n))) c.get.ensures
    ∙ last_goes_on (counted c.args.at.now.index.now c.args.at.now.calls) c.loop-name.left c.in-Some-take_one-2.behind c.loop-name.rest.now _ c.loop-name.invariant.1 (sym c.take_one-2.ensures ∙ c.in-Some-take_one-2.is))
    c.node.ensures

pub exprs-returns-in_default : goal.exprs-returns-in_default
exprs-returns-in_default t c =
    item_stops (nodes (counted c.args.at.now.index.now c.args.at.now.calls)) c.args.list.now c.loop-e.e-index c.loop-e.left c.e-item.result _
    c.loop-e-test.true c.e-item.is c.loop-e.invariant (sym c.in_ok-behind.ensures ∙ c.in_default.is)

pub exprs-loop-e-preserved : goal.exprs-loop-e-preserved
exprs-loop-e-preserved t c =
    item_goes_on (nodes (counted c.args.at.now.index.now c.args.at.now.calls)) c.args.list.now c.loop-e.e-index c.loop-e.left c.in-Some.behind c.e-item.result _
    c.loop-e-test.true c.e-item.is c.loop-e.invariant (sym c.in_ok-behind.ensures ∙ c.in-Some.is)

pub exprs-returns : goal.exprs-returns
exprs-returns t c = items_end (nodes (counted c.args.at.now.index.now c.args.at.now.calls)) c.args.list.now c.loop-e.e-index c.loop-e.left _ c.loop-e-test.false c.loop-e.invariant

pub parts-returns-in_default : goal.parts-returns-in_default
parts-returns-in_default t c =
    item_stops (λ part. nodes (counted c.args.at.now.index.now c.args.at.now.calls) part.expr) c.args.list.now c.loop-part.part-index c.loop-part.left c.part-item.result _
    c.loop-part-test.true c.part-item.is c.loop-part.invariant (sym c.in_ok-behind.ensures ∙ c.in_default.is)

pub parts-loop-part-preserved : goal.parts-loop-part-preserved
parts-loop-part-preserved t c =
    item_goes_on (λ part. nodes (counted c.args.at.now.index.now c.args.at.now.calls) part.expr) c.args.list.now c.loop-part.part-index c.loop-part.left c.in-Some.behind c.part-item.result _
    c.loop-part-test.true c.part-item.is c.loop-part.invariant (sym c.in_ok-behind.ensures ∙ c.in-Some.is)

pub parts-returns : goal.parts-returns
parts-returns t c = items_end (λ part. nodes (counted c.args.at.now.index.now c.args.at.now.calls) part.expr) c.args.list.now c.loop-part.part-index c.loop-part.left _ c.loop-part-test.false c.loop-part.invariant

pub cases-returns-in_default : goal.cases-returns-in_default
cases-returns-in_default t c =
    item_stops (λ case. nodes (counted c.args.at.now.index.now c.args.at.now.calls) case.body) c.args.list.now c.loop-case.case-index c.loop-case.left c.case-item.result _
    c.loop-case-test.true c.case-item.is c.loop-case.invariant (sym c.in_ok-behind.ensures ∙ c.in_default.is)

pub cases-loop-case-preserved : goal.cases-loop-case-preserved
cases-loop-case-preserved t c =
    item_goes_on (λ case. nodes (counted c.args.at.now.index.now c.args.at.now.calls) case.body) c.args.list.now c.loop-case.case-index c.loop-case.left c.in-Some.behind c.case-item.result _
    c.loop-case-test.true c.case-item.is c.loop-case.invariant (sym c.in_ok-behind.ensures ∙ c.in-Some.is)

pub cases-returns : goal.cases-returns
cases-returns t c = items_end (λ case. nodes (counted c.args.at.now.index.now c.args.at.now.calls) case.body) c.args.list.now c.loop-case.case-index c.loop-case.left _ c.loop-case-test.false c.loop-case.invariant
