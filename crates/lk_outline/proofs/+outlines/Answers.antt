use Rattle.std.proofs.Common.{arith, refl, ap, ap₂, sym, ◌∙◌, ◌+◌, ◌-◌, ◌++◌, true, map, drop, length}
use Rattle.std.proofs.lemmas.List.{length-map}
use Rattle.std.proofs.lemmas.Result.{on_ok_weaker}
use Rattle.std.specs.Option.{option_copied, option_map}
use Rattle.lk_ast.specs.declared.expression.Node.TheOpen.{Node-F}
use Rattle.lk_ast.specs.declared.expression.Node.TheVariants as node
use Rattle.lk_typing.specs.Names.{named}
use Rattle.lk_outline.specs.Outline.{Around, Kind, all, before, binder_of, call, in_block, outline, outline_case, outline_change, outline_last, outline_node, outline_part, plain, some_bound, with_names}
use Rattle.lk_outline.specs.Shown.{shown, shown_site}
use Rattle.lk_outline.specs.Walked.{begin_at, noted, put, put_all, put_bound, seen, switching, unsaid}
use Rattle.lk_outline.specs.declared.site.Around.TheVariants as around
use Rattle.lk_outline.proofs.Levels.{equality_is, expr_level, lambda_put, last_put, leaf_is, node_is, order_is, seq_is, statement_step, switch_is, var_is}
use Rattle.lk_outline.proofs.Put.{all_put, on_ok_same, before_put, block_put, call_put, leaf_put, names_gone, noted_length, put_nothing, switch_put, three_put, two_put, under_put}
use Rattle.lk_outline.proofs.+outlines.Goals as goal

pub walk::expr-loop-name-preserved : goal.walk::expr-loop-name-preserved
walk::expr-loop-name-preserved t c = (
  omega (arith, c.in-Some.ensures.rest, c.loop-name.invariant.0),
  statement_step (record { span = c.loop-name.rest.now.span; name = option_copied c.in-Some.name; expr = c.in-Some.statement.now }) c.loop-name.rest.now c.in-Some.next.now c.args.round c.loop-name.scope _ _ _ (shown c.loop-name.sites) _ _
      c.in-Some.ensures.before c.in_ok-note.ensures (c.len-binder.ensures ∙ sym (length-map c.note.new.sites shown_site)) c.in_ok-expr.ensures.sites c.in_ok-expr.ensures.left c.in_ok-names.ensures.scope
      ∙ c.loop-name.invariant.1,
  c.in_ok-names.ensures.count ∙ ap (drop c.loop-name.names) c.in_ok-expr.ensures.left ∙ c.loop-name.invariant.2,
)

pub walk::expr-returns-clause-sites : goal.walk::expr-returns-clause-sites
walk::expr-returns-clause-sites t c =
    c.in_ok-node.ensures.sites
    ∙ ap (λ part. put part (seen c.args.round c.loop-name.scope) (shown c.loop-name.sites)) (ap (λ n. outline_node n c.loop-name.rest.now.span) c.get.ensures ∙ sym (expr_level c.loop-name.rest.now))
    ∙ c.loop-name.invariant.1

pub form::call-returns-clause-sites : goal.form::call-returns-clause-sites
form::call-returns-clause-sites t c =
    call_put c.args.span c.args.name.now c.args.round c.args.scope.now (map outline c.args.args.now) (shown c.args.sites.now) (shown c.arguments.new.sites) (shown c.renote.new.sites) c.arguments.new.numbers c.len-number.result
    (c.len-number.ensures ∙ sym (length-map c.args.sites.now shown_site))
    (c.in_ok-arguments.ensures.sites ∙ ap (put_all (map outline c.args.args.now) (seen c.args.round c.args.scope.now)) c.in_ok-note.ensures)
    (c.in_ok-arguments.ensures.numbers ∙ ap₂ (λ none f. none ++ begin_at (map outline c.args.args.now) (seen c.args.round c.args.scope.now) f) c.new-numbers.ensures c.in_ok-note.ensures)
    c.renote.ensures

pub form::query-returns-clause-sites : goal.form::query-returns-clause-sites
form::query-returns-clause-sites t c =
    block_put c.args.span Kind.Query c.args.round c.args.scope.now (seen (record { around = around.Query; inside = true }) c.args.scope.now) (outline c.args.e.now) (in_block Around.Query (outline c.args.e.now)) (shown c.args.sites.now) (shown c.expr.new.sites) (shown c.renote.new.sites) c.len-number.result _
    refl
    (c.len-number.ensures ∙ sym (length-map c.args.sites.now shown_site))
    (c.in_ok-expr.ensures.sites ∙ ap (put (outline c.args.e.now) (seen (record { around = around.Query; inside = true }) c.args.scope.now)) c.in_ok-note.ensures)
    (c.saturating_sub.ensures ∙ ap₂ (λ n m. n - m) (c.len.ensures ∙ sym (length-map c.expr.new.sites shown_site)) (c.len-first.ensures ∙ sym (length-map c.note.new.sites shown_site) ∙ ap length c.in_ok-note.ensures ∙ noted_length c.args.span unsaid c.args.round (shown c.args.sites.now)))
    c.renote.ensures

pub form::change-returns-clause-sites : goal.form::change-returns-clause-sites
unfolding put
form::change-returns-clause-sites t c =
    block_put c.args.span Kind.Change c.args.round c.args.scope.now (seen (record { around = around.Change; inside = true }) c.args.scope.now) (outline_change c.args.rows.now (1 + length (shown c.args.sites.now))) (in_block Around.Change (outline_change c.args.rows.now (1 + length (shown c.args.sites.now)))) (shown c.args.sites.now) (shown c.change_of.new.sites) (shown c.renote.new.sites) c.len-number.result _
    refl
    (c.len-number.ensures ∙ sym (length-map c.args.sites.now shown_site))
    (c.in_ok-change_of.ensures.sites
    ∙ ap₂ (λ n f. put (outline_change c.args.rows.now n) (seen (record { around = around.Change; inside = true }) c.args.scope.now) f)
    (c.len-first.ensures ∙ sym (length-map c.note.new.sites shown_site) ∙ ap length c.in_ok-note.ensures ∙ noted_length c.args.span unsaid c.args.round (shown c.args.sites.now))
    c.in_ok-note.ensures)
    (c.saturating_sub.ensures ∙ ap₂ (λ n m. n - m) (c.len.ensures ∙ sym (length-map c.change_of.new.sites shown_site)) (c.len-first.ensures ∙ sym (length-map c.note.new.sites shown_site) ∙ ap length c.in_ok-note.ensures ∙ noted_length c.args.span unsaid c.args.round (shown c.args.sites.now)))
    c.renote.ensures

pub form::lambda-returns-clause-sites : goal.form::lambda-returns-clause-sites
form::lambda-returns-clause-sites t c =
    lambda_put c.args.span c.args.e.now c.args.round _ c.args.scope.now c.push_names.new.scope _ c.len-number.result c.len-binder.result (shown c.args.sites.now) (shown c.note.new.sites) (shown c.expr.new.sites)
    (c.len-number.ensures ∙ sym (length-map c.args.sites.now shown_site))
    c.in_ok-note.ensures
    (c.len-binder.ensures ∙ sym (length-map c.note.new.sites shown_site))
    refl
    c.as_slice.ensures
    c.in_ok-push_names.ensures
    c.in_ok-expr.ensures.sites

pub form::lambda-returns-clause-left : goal.form::lambda-returns-clause-left
form::lambda-returns-clause-left t c =
    c.drop_names.ensures
    ∙ ap₂ drop c.len.ensures (c.in_ok-expr.ensures.left ∙ c.in_ok-push_names.ensures ∙ ap (λ params. with_names params c.len-binder.result c.args.scope.now) c.as_slice.ensures)
    ∙ names_gone c.args.e.now.params c.len-binder.result c.args.scope.now

pub form::some_case-returns-in-None-clause-sites : goal.form::some_case-returns-in-None-clause-sites
form::some_case-returns-in-None-clause-sites t c =
    sym (put_nothing (seen c.args.round c.args.scope.now) (shown c.args.sites.now))
    ∙ ap (λ last. put (some_bound (option_map outline_last last) c.args.binder) (seen c.args.round c.args.scope.now) (shown c.args.sites.now)) (sym c.in-None.is)

pub form::some_case-returns-in-Some-clause-sites : goal.form::some_case-returns-in-Some-clause-sites
form::some_case-returns-in-Some-clause-sites t c = on_ok_same c.under.result (shown c.under.new.sites) c.under.ensures.sites
    (sym (last_put c.in-Some.last c.args.binder c.args.round c.args.scope.now (shown c.args.sites.now))
    ∙ ap (λ last. put (some_bound (option_map outline_last last) c.args.binder) (seen c.args.round c.args.scope.now) (shown c.args.sites.now)) (sym c.in-Some.is))

pub walk::node-returns-in-Name-clause-sites : goal.walk::node-returns-in-Name-clause-sites
unfolding put
walk::node-returns-in-Name-clause-sites t c = on_ok_same c.note.result (shown c.note.new.sites) c.note.ensures
    (ap (λ n. noted c.args.span (Kind.Name n) c.args.round (shown c.args.sites.now)) c.binder_of.ensures
    ∙ leaf_put c.args.span (Kind.Name (binder_of (named c.in-Name.name c.args.scope.now))) c.args.round c.args.scope.now (shown c.args.sites.now)
    ∙ ap (λ part. put part (seen c.args.round c.args.scope.now) (shown c.args.sites.now)) (sym (node_is c.args.node.now (Node-F.Name c.in-Name.name) (c.in-Name.is ∙ sym (node.rolls-Name c.in-Name.name)) c.args.span)))

pub walk::node-returns-in-Function-clause-sites : goal.walk::node-returns-in-Function-clause-sites
unfolding put
walk::node-returns-in-Function-clause-sites t c = on_ok_same c.note-in-Function.result (shown c.note-in-Function.new.sites) c.note-in-Function.ensures
    (leaf_put c.args.span (Kind.Function c.in-Function.name) c.args.round c.args.scope.now (shown c.args.sites.now)
    ∙ ap (λ part. put part (seen c.args.round c.args.scope.now) (shown c.args.sites.now)) (sym (node_is c.args.node.now (Node-F.Function c.in-Function.name) (c.in-Function.is ∙ sym (node.rolls-Function c.in-Function.name)) c.args.span)))

pub walk::node-returns-in-Call-clause-sites : goal.walk::node-returns-in-Call-clause-sites
walk::node-returns-in-Call-clause-sites t c = on_ok_same c.call.result (shown c.call.new.sites) c.call.ensures.sites
    (ap (λ args. put (call c.args.span c.in-Call.name.text (map outline args)) (seen c.args.round c.args.scope.now) (shown c.args.sites.now)) c.as_slice-args.ensures
    ∙ ap (λ part. put part (seen c.args.round c.args.scope.now) (shown c.args.sites.now)) (sym (node_is c.args.node.now (Node-F.Call c.in-Call.name c.in-Call.args) (c.in-Call.is ∙ sym (node.rolls-Call c.in-Call.name c.in-Call.args)) c.args.span)))

pub walk::node-returns-in-Apply-clause-sites : goal.walk::node-returns-in-Apply-clause-sites
walk::node-returns-in-Apply-clause-sites t c = on_ok_same c.apply.result (shown c.apply.new.sites) c.apply.ensures.sites
    (ap (λ args. put (plain c.args.span unsaid (before (outline c.in-Apply.f) (all (map outline args)))) (seen c.args.round c.args.scope.now) (shown c.args.sites.now)) c.as_slice.ensures
    ∙ ap (λ part. put part (seen c.args.round c.args.scope.now) (shown c.args.sites.now)) (sym (node_is c.args.node.now (Node-F.Apply c.in-Apply.f c.in-Apply.args) (c.in-Apply.is ∙ sym (node.rolls-Apply c.in-Apply.f c.in-Apply.args)) c.args.span)))

pub walk::apply-returns-clause-sites : goal.walk::apply-returns-clause-sites
walk::apply-returns-clause-sites t c =
    on_ok_weaker c.exprs.result
    (all_put c.args.span c.args.round c.args.scope.now c.expr.new.scope (outline c.args.f.now) (map outline c.args.args.now) (shown c.args.sites.now) (shown c.note.new.sites) (shown c.expr.new.sites) (shown c.exprs.new.sites)
    c.in_ok-note.ensures c.in_ok-expr.ensures.sites c.in_ok-expr.ensures.left)
    c.exprs.ensures.sites

pub walk::node-returns-in-Extend-clause-sites : goal.walk::node-returns-in-Extend-clause-sites
walk::node-returns-in-Extend-clause-sites t c = on_ok_same c.extend.result (shown c.extend.new.sites) c.extend.ensures.sites
    (ap (λ fields. put (plain c.args.span unsaid (before (all (map outline_part fields)) (outline c.in-Extend.e))) (seen c.args.round c.args.scope.now) (shown c.args.sites.now)) c.as_slice-fields-in-Extend.ensures
    ∙ ap (λ part. put part (seen c.args.round c.args.scope.now) (shown c.args.sites.now)) (sym (node_is c.args.node.now (Node-F.Extend c.in-Extend.fields c.in-Extend.e) (c.in-Extend.is ∙ sym (node.rolls-Extend c.in-Extend.fields c.in-Extend.e)) c.args.span)))

pub walk::extend-returns-clause-sites : goal.walk::extend-returns-clause-sites
walk::extend-returns-clause-sites t c =
    on_ok_weaker c.expr.result
    (before_put c.args.span c.args.round c.args.scope.now c.parts.new.scope (map outline_part c.args.fields.now) (outline c.args.e.now) (shown c.args.sites.now) (shown c.note.new.sites) (shown c.parts.new.sites) (shown c.expr.new.sites)
    c.in_ok-note.ensures c.in_ok-parts.ensures.sites c.in_ok-parts.ensures.left)
    c.expr.ensures.sites

pub walk::node-returns-in-If-clause-sites : goal.walk::node-returns-in-If-clause-sites
walk::node-returns-in-If-clause-sites t c = on_ok_same c.three.result (shown c.three.new.sites) c.three.ensures.sites
    (ap (λ part. put part (seen c.args.round c.args.scope.now) (shown c.args.sites.now)) (sym (node_is c.args.node.now (Node-F.If c.in-If.c c.in-If.d c.in-If.e) (c.in-If.is ∙ sym (node.rolls-If c.in-If.c c.in-If.d c.in-If.e)) c.args.span)))

pub walk::three-returns-clause-sites : goal.walk::three-returns-clause-sites
walk::three-returns-clause-sites t c =
    on_ok_weaker c.expr-3.result
    (three_put c.args.span c.args.round c.args.scope.now c.expr.new.scope c.expr-2.new.scope (outline c.args.c.now) (outline c.args.d.now) (outline c.args.e.now) (shown c.args.sites.now) (shown c.note.new.sites) (shown c.expr.new.sites) (shown c.expr-2.new.sites) (shown c.expr-3.new.sites)
    c.in_ok-note.ensures c.in_ok-expr.ensures.sites c.in_ok-expr.ensures.left c.in_ok-expr-2.ensures.sites c.in_ok-expr-2.ensures.left)
    c.expr-3.ensures.sites

pub walk::node-returns-in-Record-clause-sites : goal.walk::node-returns-in-Record-clause-sites
walk::node-returns-in-Record-clause-sites t c = on_ok_same c.record_of.result (shown c.record_of.new.sites) c.record_of.ensures.sites
    (ap (λ fields. put (plain c.args.span unsaid (all (map outline_part fields))) (seen c.args.round c.args.scope.now) (shown c.args.sites.now)) c.as_slice-fields.ensures
    ∙ ap (λ part. put part (seen c.args.round c.args.scope.now) (shown c.args.sites.now)) (sym (node_is c.args.node.now (Node-F.Record c.in-Record.fields) (c.in-Record.is ∙ sym (node.rolls-Record c.in-Record.fields)) c.args.span)))

pub walk::node-returns-in-List-clause-sites : goal.walk::node-returns-in-List-clause-sites
walk::node-returns-in-List-clause-sites t c = on_ok_same c.list_of.result (shown c.list_of.new.sites) c.list_of.ensures.sites
    (ap (λ items. put (plain c.args.span unsaid (all (map outline items))) (seen c.args.round c.args.scope.now) (shown c.args.sites.now)) c.as_slice-items.ensures
    ∙ ap (λ part. put part (seen c.args.round c.args.scope.now) (shown c.args.sites.now)) (sym (node_is c.args.node.now (Node-F.List c.in-List.items) (c.in-List.is ∙ sym (node.rolls-List c.in-List.items)) c.args.span)))

pub walk::node-returns-in-Switch-clause-sites : goal.walk::node-returns-in-Switch-clause-sites
unfolding put
walk::node-returns-in-Switch-clause-sites t c = on_ok_same c.switch.result (shown c.switch.new.sites) c.switch.ensures.sites
    (ap (λ list. put (switching c.args.span (outline c.in-Switch.e) (map outline_case list) (option_map outline_last c.in-Switch.last)) (seen c.args.round c.args.scope.now) (shown c.args.sites.now)) c.as_slice-list.ensures
    ∙ ap (λ part. put part (seen c.args.round c.args.scope.now) (shown c.args.sites.now)) (sym (switch_is c.args.node.now c.in-Switch.e c.in-Switch.list c.in-Switch.last c.args.span c.in-Switch.is)))

pub form::switch-returns-clause-sites : goal.form::switch-returns-clause-sites
unfolding put
form::switch-returns-clause-sites t c =
    on_ok_weaker c.some_case.result
    (switch_put c.args.span c.args.round c.args.scope.now c.expr.new.scope c.cases.new.scope (outline c.args.e.now) (map outline_case c.args.list.now) (option_map outline_last c.args.last.now) c.len-binder.result (shown c.args.sites.now) (shown c.note.new.sites) (shown c.expr.new.sites) (shown c.cases.new.sites) (shown c.some_case.new.sites)
    c.in_ok-note.ensures (c.len-binder.ensures ∙ sym (length-map c.note.new.sites shown_site)) c.in_ok-expr.ensures.sites c.in_ok-expr.ensures.left
    c.in_ok-cases.ensures.sites c.in_ok-cases.ensures.left)
    c.some_case.ensures.sites

pub walk::node-returns-in-Int-clause-sites : goal.walk::node-returns-in-Int-clause-sites
walk::node-returns-in-Int-clause-sites t c = on_ok_same c.note-in-Int.result (shown c.note-in-Int.new.sites) c.note-in-Int.ensures
    (leaf_put c.args.span unsaid c.args.round c.args.scope.now (shown c.args.sites.now)
    ∙ ap (λ part. put part (seen c.args.round c.args.scope.now) (shown c.args.sites.now)) (sym (leaf_is c.args.node.now c.args.span c.in-Int.is)))

pub walk::node-returns-in-Var-clause-sites : goal.walk::node-returns-in-Var-clause-sites
walk::node-returns-in-Var-clause-sites t c = on_ok_same c.variable.result (shown c.variable.new.sites) c.variable.ensures.sites
    (ap (λ part. put part (seen c.args.round c.args.scope.now) (shown c.args.sites.now)) (sym (var_is c.args.node.now c.in-Var.x c.in-Var.e c.in-Var.body c.args.span c.in-Var.is)))

pub walk::variable-returns-clause-sites : goal.walk::variable-returns-clause-sites
walk::variable-returns-clause-sites t c =
    on_ok_weaker c.under.result
    (under_put c.args.span c.args.x.now c.args.round c.args.scope.now c.expr.new.scope (outline c.args.e.now) (outline c.args.body.now) c.len-binder.result (shown c.args.sites.now) (shown c.note.new.sites) (shown c.expr.new.sites) (shown c.under.new.sites)
    c.in_ok-note.ensures (c.len-binder.ensures ∙ sym (length-map c.note.new.sites shown_site)) c.in_ok-expr.ensures.sites c.in_ok-expr.ensures.left)
    c.under.ensures.sites

pub walk::node-returns-in-Lt-clause-sites : goal.walk::node-returns-in-Lt-clause-sites
unfolding put
walk::node-returns-in-Lt-clause-sites t c = on_ok_same c.ordered.result (shown c.ordered.new.sites) c.ordered.ensures.sites
    (ap (λ part. put part (seen c.args.round c.args.scope.now) (shown c.args.sites.now)) (sym (order_is c.args.node.now c.in-Lt.a c.in-Lt.b c.args.span c.in-Lt.is)))

pub walk::ordered-returns-clause-sites : goal.walk::ordered-returns-clause-sites
unfolding put
walk::ordered-returns-clause-sites t c =
    on_ok_weaker c.expr-2.result
    (two_put c.args.span (Kind.Order (1 + length (shown c.args.sites.now))) c.args.round c.args.scope.now c.expr.new.scope (outline c.args.a.now) (outline c.args.b.now) (shown c.args.sites.now) (shown c.note.new.sites) (shown c.expr.new.sites) (shown c.expr-2.new.sites)
    (c.in_ok-note.ensures ∙ ap (λ n. noted c.args.span (Kind.Order n) c.args.round (shown c.args.sites.now)) c.in_ok-operand.ensures)
    c.in_ok-expr.ensures.sites c.in_ok-expr.ensures.left)
    c.expr-2.ensures.sites

pub walk::node-returns-in-Eq-clause-sites : goal.walk::node-returns-in-Eq-clause-sites
unfolding put
walk::node-returns-in-Eq-clause-sites t c = on_ok_same c.equal.result (shown c.equal.new.sites) c.equal.ensures.sites
    (ap (λ part. put part (seen c.args.round c.args.scope.now) (shown c.args.sites.now)) (sym (equality_is c.args.node.now c.in-Eq.a c.in-Eq.b c.args.span c.in-Eq.is)))

pub walk::equal-returns-clause-sites : goal.walk::equal-returns-clause-sites
unfolding put
walk::equal-returns-clause-sites t c =
    on_ok_weaker c.expr-2.result
    (two_put c.args.span (Kind.Equality (1 + length (shown c.args.sites.now))) c.args.round c.args.scope.now c.expr.new.scope (outline c.args.a.now) (outline c.args.b.now) (shown c.args.sites.now) (shown c.note.new.sites) (shown c.expr.new.sites) (shown c.expr-2.new.sites)
    (c.in_ok-note.ensures ∙ ap (λ n. noted c.args.span (Kind.Equality n) c.args.round (shown c.args.sites.now)) c.in_ok-operand.ensures)
    c.in_ok-expr.ensures.sites c.in_ok-expr.ensures.left)
    c.expr-2.ensures.sites

pub walk::node-returns-in-Seq-clause-sites : goal.walk::node-returns-in-Seq-clause-sites
walk::node-returns-in-Seq-clause-sites t c = on_ok_same c.two.result (shown c.two.new.sites) c.two.ensures.sites
    (ap (λ part. put part (seen c.args.round c.args.scope.now) (shown c.args.sites.now)) (sym (seq_is c.args.node.now c.in-Seq.a c.in-Seq.b c.args.span c.in-Seq.is)))

pub walk::two-returns-clause-sites : goal.walk::two-returns-clause-sites
walk::two-returns-clause-sites t c =
    on_ok_weaker c.expr-2.result
    (two_put c.args.span unsaid c.args.round c.args.scope.now c.expr.new.scope (outline c.args.a.now) (outline c.args.b.now) (shown c.args.sites.now) (shown c.note.new.sites) (shown c.expr.new.sites) (shown c.expr-2.new.sites)
    c.in_ok-note.ensures c.in_ok-expr.ensures.sites c.in_ok-expr.ensures.left)
    c.expr-2.ensures.sites
