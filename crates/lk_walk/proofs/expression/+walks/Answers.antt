use Rattle.std.proofs.Common.{arith, subst, ◌∙◌, ap, ap₂, sym, map, [], ◌∷◌}
use Rattle.std.specs.Option.{option_map, option_copied}
use Rattle.std.specs.Prelude.{IfOk}
use Rattle.std.proofs.lemmas.Result.{IfOk-equal, IfOk-weaker}
use Rattle.lk_types.specs.declared.ty.Effect.TheVariants as effect
use Rattle.lk_typing.specs.Names.{table_named, types_of}
use Rattle.lk_typing.specs.Types.{labelled}
use Rattle.lk_typing.specs.Unknowns.{row_of}
use Rattle.lk_ast.specs.declared.expression.Node.{out-Node}
use Rattle.lk_ast.specs.declared.expression.Node.TheVariants.{outs-Extend}
use Rattle.lk_typing.specs.Typing.{expr_of, labels_of}
use Rattle.lk_equations.specs.Made.{as_own}
use Rattle.lk_types.specs.declared.ty.Ty.TheVariants as ty
use Rattle.lk_typing.specs.Walk.{for_list_walked, for_table_walked, has_if, lambda_walked, one_type, params_from, query_walked, set_own, switch_walked, var_walked}
use Rattle.lk_equations.specs.Forms.{as_told}
use Rattle.lk_walk.specs.Went.{bound_all, case_in, cases_fields, cases_types, cases_went, change_walked, last_in, types_all, unbound, walk_in, went_all, Inner}
use Rattle.lk_types.specs.declared.ty.Ty.{Ty}
use Rattle.lk_walk.specs.declared.walker.Walker.{Walker}
use Rattle.lk_walk.proofs.Blocks.{block_step, blocks_end}
use Rattle.lk_walk.proofs.Goes.{plain_inner, plain_node, is_plain, extended_all, extended_types}
use Rattle.lk_walk.proofs.Binders.{change_inner, for_list_inner, for_table_inner, lambda_inner, query_inner, switch_inner, var_inner}
use Rattle.lk_walk.proofs.Nodes.{as_change, as_for_list, as_for_table, as_form, as_lambda, as_query, as_switch, as_var}
use Rattle.lk_walk.proofs.expression.+walks.Goals as goal

pub expr-loop-name-preserved : goal.expr-loop-name-preserved
expr-loop-name-preserved t c = (
  omega (arith, c.in-Some.ensures.rest, c.loop-name.invariant.0),
  block_step c.args.context.now.globals.now c.loop-name.rest.now c.in-Some.statement.now c.in-Some.next.now (option_copied c.in-Some.name) c.args.context.now.effects.now c.loop-name.walker c.enter.new.self c.expr.new.walker c.begin.new.walker c.in_ok-slot.slot c.in_ok-first.first c.in_ok-begin.field-0 c.loop-name.blocks c.push.new.self _
      c.in-Some.ensures.before c.in_ok-slot.ensures.entered c.in_ok-slot.ensures.slot c.in_ok-first.ensures.walked c.in_ok-first.ensures.number c.in_ok-begin.ensures.begun c.in_ok-begin.ensures.block c.in_ok-push.ensures.ok c.loop-name.invariant.1,
)

pub expr-returns-clause-walked : goal.expr-returns-clause-walked
expr-returns-clause-walked t c = IfOk-weaker c.end_all.result _ _ (λ made is. ap (λ (p : Walker × Ty). p.0)
    (blocks_end c.loop-name.rest.now.span (walk_in c.args.context.now.globals.now c.loop-name.rest.now) c.args.context.now.effects.now c.loop-name.walker c.enter-2.new.self c.node.new.walker c.leave.new.self c.end_all.new.walker c.in_ok-slot-2.slot c.in_ok-number.number made (as_own c.in_ok-own.own) c.loop-name.blocks _
    c.in_ok-slot-2.ensures.entered c.in_ok-slot-2.ensures.slot c.in_ok-own.ensures c.in_ok-number.ensures.left c.in_ok-number.ensures.number is c.loop-name.invariant.1))
    c.end_all.ensures

pub expr-returns-clause-number : goal.expr-returns-clause-number
expr-returns-clause-number t c = IfOk-weaker c.end_all.result _ _ (λ made is. ap (λ (p : Walker × Ty). p.1)
    (blocks_end c.loop-name.rest.now.span (walk_in c.args.context.now.globals.now c.loop-name.rest.now) c.args.context.now.effects.now c.loop-name.walker c.enter-2.new.self c.node.new.walker c.leave.new.self c.end_all.new.walker c.in_ok-slot-2.slot c.in_ok-number.number made (as_own c.in_ok-own.own) c.loop-name.blocks _
    c.in_ok-slot-2.ensures.entered c.in_ok-slot-2.ensures.slot c.in_ok-own.ensures c.in_ok-number.ensures.left c.in_ok-number.ensures.number is c.loop-name.invariant.1))
    c.end_all.ensures

pub node-returns-in_default : goal.node-returns-in_default
node-returns-in_default t c =
    plain_node c.args.context.now.globals.now c.args.e.now c.args.context.now.effects.now c.args.walker.now c.plain.new.walker c.plain.result as_own
    (is_plain c.get.result.now c.args.e.now.node c.get.ensures c.in_default.not-Lambda c.in_default.not-Var c.in_default.not-Switch c.in_default.not-ForList c.in_default.not-ForTable c.in_default.not-Query c.in_default.not-Update c.in_default.not-Delete)
    c.plain.ensures

pub plain-returns : goal.plain-returns
plain-returns t c = IfOk-weaker c.own_of.result _ _ (λ own is. plain_inner c.args.context.now.globals.now c.args.e.now (out-Node c.get-node.result.now) c.args.context.now.effects.now c.args.walker.now c.parts.new.walker c.parts.new.types c.new-types.result (as_own own)
    (ap out-Node c.get-node.ensures) c.new-types.ensures c.in_ok-parts.ensures.walked c.in_ok-parts.ensures.types is)
    c.own_of.ensures

pub parts-returns-in_ok-fields_in-in-Extend-clause-walked : goal.parts-returns-in_ok-fields_in-in-Extend-clause-walked
parts-returns-in_ok-fields_in-in-Extend-clause-walked t c =
    IfOk-equal c.part-in-Extend.result _ _ _ c.part-in-Extend.ensures.walked
    (extended_all c.args.context.now.globals.now c.in-Extend.fields c.in-Extend.e (out-Node c.args.node.now) c.args.context.now.effects.now c.args.walker.now c.fields_in-in-Extend.new.walker
    (ap out-Node c.in-Extend.is ∙ outs-Extend c.in-Extend.fields c.in-Extend.e)
    (c.in_ok-fields_in-in-Extend.ensures.walked ∙ ap (λ list. went_all (map (walk_in c.args.context.now.globals.now) (map expr_of list)) c.args.context.now.effects.now c.args.walker.now) c.as_slice-in-Extend.ensures))

pub parts-returns-in_ok-fields_in-in-Extend-clause-types : goal.parts-returns-in_ok-fields_in-in-Extend-clause-types
parts-returns-in_ok-fields_in-in-Extend-clause-types t c =
    IfOk-equal c.part-in-Extend.result _ _ _ c.part-in-Extend.ensures.types
    (extended_types c.args.context.now.globals.now c.in-Extend.fields c.in-Extend.e (out-Node c.args.node.now) c.args.context.now.effects.now c.args.walker.now c.fields_in-in-Extend.new.walker c.args.types.now c.fields_in-in-Extend.new.types
    (ap out-Node c.in-Extend.is ∙ outs-Extend c.in-Extend.fields c.in-Extend.e)
    (c.in_ok-fields_in-in-Extend.ensures.walked ∙ ap (λ list. went_all (map (walk_in c.args.context.now.globals.now) (map expr_of list)) c.args.context.now.effects.now c.args.walker.now) c.as_slice-in-Extend.ensures)
    (c.in_ok-fields_in-in-Extend.ensures.types ∙ ap (λ list. types_all (map (walk_in c.args.context.now.globals.now) (map expr_of list)) c.args.context.now.effects.now c.args.walker.now c.args.types.now) c.as_slice-in-Extend.ensures))

pub lambda-returns : goal.lambda-returns
lambda-returns t c = IfOk-weaker c.lambda_own.result _ _ (λ own is. lambda_inner c.args.at c.args.e.now.params c.args.e.now.place (walk_in c.args.context.now.globals.now c.args.e.now.body) c.args.context.now.effects.now c.any_effects-effects.result c.args.walker.now c.number.new.self c.bind_all.new.self c.tell.new.self c.expr.new.walker c.unbind.new.self
    c.in_ok-number.field-0 c.in_ok-body.body c.in_ok-params.params (as_told c.in_ok-marked.marked) (as_own own)
    c.in_ok-number.ensures.next c.in_ok-number.ensures.number c.any_effects-effects.ensures
    (c.in_ok-params.ensures.bound ∙ ap (λ ps. bound_all ps c.number.new.self) c.as_slice.ensures)
    (c.in_ok-params.ensures.types ∙ ap (λ ps. types_of (params_from c.number.new.self.next ps)) c.as_slice.ensures)
    (c.in_ok-marked.ensures ∙ ap (λ mark. has_if mark c.any_effects-effects.result effect.Move c.bind_all.new.self.next) c.is_marked.ensures)
    c.in_ok-tell.ensures c.in_ok-body.ensures.walked c.in_ok-body.ensures.number
    (c.unbind.ensures ∙ ap (λ count. unbound count c.expr.new.walker) c.len.ensures)
    is)
    c.lambda_own.ensures

pub change-returns : goal.change-returns
change-returns t c = IfOk-weaker c.change_own.result _ _ (λ own is. change_inner c.args.at c.args.context.now.globals.now c.args.rows.now c.args.context.now.effects.now c.no_effects-effects.result c.args.walker.now
    (record { names = c.push.new.self; types = c.args.walker.now.types; steps = c.args.walker.now.steps; next = c.args.walker.now.next }) c.expr.new.walker c.fields_in.new.walker _
    c.in-Some.table.now c.in_ok-row_of.field-0 c.in_ok-cond.cond c.fields_in.new.types (as_own own)
    (ap (table_named c.args.context.now.globals.now.tables.now) (sym c.as_str.ensures) ∙ sym c.in_ok-table.ensures ∙ ap option_copied c.in-Some.is)
    c.in_ok-row_of.ensures c.no_effects-effects.ensures
    (ap (λ names. record { names = names; types = c.args.walker.now.types; steps = c.args.walker.now.steps; next = c.args.walker.now.next }) (c.in_ok-push.ensures ∙ ap (λ x. (x, c.in_ok-row_of.field-0) ∷ c.args.walker.now.names) c.as_str-2.ensures))
    c.in_ok-cond.ensures.walked c.in_ok-cond.ensures.number
    (c.in_ok-fields_in.ensures.walked ∙ ap (λ sets. went_all (map (walk_in c.args.context.now.globals.now) (map expr_of sets)) c.no_effects-effects.result c.expr.new.walker) c.as_slice-sets.ensures)
    (c.in_ok-fields_in.ensures.types ∙ ap₂ (λ sets none. types_all (map (walk_in c.args.context.now.globals.now) (map expr_of sets)) c.no_effects-effects.result c.expr.new.walker none) c.as_slice-sets.ensures c.new-types.ensures)
    (ap (λ names. record { names = names; types = c.fields_in.new.walker.types; steps = c.fields_in.new.walker.steps; next = c.fields_in.new.walker.next }) c.pop.ensures)
    (is ∙ ap₂ (λ sets types. set_own c.args.context.now.effects.now (row_of c.in-Some.table.now) (ty.Var c.in_ok-cond.cond) (labelled (labels_of sets) types) c.fields_in.new.walker.next) c.as_slice-sets.ensures c.as_slice.ensures))
    c.change_own.ensures

pub node-returns-in-Update : goal.node-returns-in-Update
node-returns-in-Update t c = as_form c.args.context.now.globals.now c.args.e.now (change_walked c.args.e.now.span c.args.context.now.globals.now c.in-Update.rows) c.args.context.now.effects.now c.args.walker.now c.change.new.walker c.change.result as_own
    (as_change c.args.context.now.globals.now c.args.e.now c.get.result.now c.in-Update.rows c.get.ensures c.in-Update.is)
    c.change.ensures

pub node-returns-in-Lambda : goal.node-returns-in-Lambda
node-returns-in-Lambda t c = as_form c.args.context.now.globals.now c.args.e.now (lambda_walked c.args.e.now.span c.in-Lambda.function.params c.in-Lambda.function.place (walk_in c.args.context.now.globals.now c.in-Lambda.function.body)) c.args.context.now.effects.now c.args.walker.now c.lambda.new.walker c.lambda.result as_own
    (as_lambda c.args.context.now.globals.now c.args.e.now c.get.result.now c.in-Lambda.function c.get.ensures c.in-Lambda.is)
    c.lambda.ensures

pub node-returns-in-ForList : goal.node-returns-in-ForList
node-returns-in-ForList t c = as_form c.args.context.now.globals.now c.args.e.now (for_list_walked c.args.e.now.span c.in-ForList.name.text (walk_in c.args.context.now.globals.now c.in-ForList.list) (walk_in c.args.context.now.globals.now c.in-ForList.body)) c.args.context.now.effects.now c.args.walker.now c.for_list.new.walker c.for_list.result as_own
    (as_for_list c.args.context.now.globals.now c.args.e.now c.get.result.now c.in-ForList.name c.in-ForList.list c.in-ForList.body c.get.ensures c.in-ForList.is)
    c.for_list.ensures

pub for_list-returns : goal.for_list-returns
for_list-returns t c = IfOk-weaker c.for_own.result _ _ (λ own is. for_list_inner c.args.at c.args.name.now.text (walk_in c.args.context.now.globals.now c.args.list.now) (walk_in c.args.context.now.globals.now c.args.body.now) c.args.context.now.effects.now c.args.walker.now c.number.new.self c.expr.new.walker c.under.new.walker c.in_ok-element.element c.in_ok-list.list c.in_ok-body.body c.in_ok-elements.elements _
    c.in_ok-element.ensures.next c.in_ok-element.ensures.number c.in_ok-list.ensures.walked c.in_ok-list.ensures.number c.in_ok-body.ensures.walked c.in_ok-body.ensures.number
    (c.in_ok-elements.ensures ∙ ap (λ equation. equation ∷ []) c.in_ok-elements_are.ensures) is)
    c.for_own.ensures

pub node-returns-in-ForTable : goal.node-returns-in-ForTable
node-returns-in-ForTable t c = as_form c.args.context.now.globals.now c.args.e.now (for_table_walked c.args.e.now.span c.in-ForTable.name.text (walk_in c.args.context.now.globals.now c.in-ForTable.table) (walk_in c.args.context.now.globals.now c.in-ForTable.body)) c.args.context.now.effects.now c.args.walker.now c.for_table.new.walker c.for_table.result as_own
    (as_for_table c.args.context.now.globals.now c.args.e.now c.get.result.now c.in-ForTable.name c.in-ForTable.table c.in-ForTable.body c.get.ensures c.in-ForTable.is)
    c.for_table.ensures

pub for_table-returns : goal.for_table-returns
for_table-returns t c = IfOk-weaker c.for_own.result _ _ (λ own is. for_table_inner c.args.at c.args.name.now.text (walk_in c.args.context.now.globals.now c.args.table.now) (walk_in c.args.context.now.globals.now c.args.body.now) c.args.context.now.effects.now c.args.walker.now c.number.new.self c.expr.new.walker c.say.new.self c.under.new.walker c.in_ok-element.element c.in_ok-table.table c.in_ok-body.body c.in_ok-elements.elements c.new.result _
    c.in_ok-element.ensures.next c.in_ok-element.ensures.number c.in_ok-table.ensures.walked c.in_ok-table.ensures.number
    (c.in_ok-elements.ensures ∙ ap (λ equation. equation ∷ []) c.in_ok-elements_are.ensures) c.in_ok-say.ensures c.in_ok-body.ensures.walked c.in_ok-body.ensures.number c.new.ensures is)
    c.for_own.ensures

pub node-returns-in-Query : goal.node-returns-in-Query
node-returns-in-Query t c = as_form c.args.context.now.globals.now c.args.e.now (query_walked c.args.e.now.span c.in-Query.keys (walk_in c.args.context.now.globals.now c.in-Query.body)) c.args.context.now.effects.now c.args.walker.now c.query.new.walker c.query.result as_own
    (as_query c.args.context.now.globals.now c.args.e.now c.get.result.now c.in-Query.keys c.in-Query.body c.get.ensures c.in-Query.is)
    (subst (λ keys. IfOk c.query.result (λ own. Inner c.args.e.now.span (query_walked c.args.e.now.span keys (walk_in c.args.context.now.globals.now c.in-Query.body) c.args.walker.now.names c.args.context.now.effects.now c.args.walker.now.next) c.args.walker.now c.query.new.walker (as_own own))) c.as_slice-in-Query.ensures c.query.ensures)

pub query-returns : goal.query-returns
query-returns t c = IfOk-weaker c.query_own.result _ _ (λ own is. query_inner c.args.at c.args.keys.now (walk_in c.args.context.now.globals.now c.args.body.now) c.args.context.now.effects.now c.in_ok-effects.effects c.args.walker.now c.expr.new.walker c.in_ok-body.body _ c.in_ok-effects.ensures c.in_ok-body.ensures.walked c.in_ok-body.ensures.number is)
    c.query_own.ensures

pub node-returns-in-Var : goal.node-returns-in-Var
node-returns-in-Var t c = as_form c.args.context.now.globals.now c.args.e.now (var_walked c.args.e.now.span c.in-Var.name.text (walk_in c.args.context.now.globals.now c.in-Var.first) (walk_in c.args.context.now.globals.now c.in-Var.rest)) c.args.context.now.effects.now c.args.walker.now c.variable.new.walker c.variable.result as_own
    (as_var c.args.context.now.globals.now c.args.e.now c.get.result.now c.in-Var.name c.in-Var.first c.in-Var.rest c.get.ensures c.in-Var.is)
    c.variable.ensures

pub variable-returns : goal.variable-returns
variable-returns t c = var_inner c.args.at c.args.name.now.text (walk_in c.args.context.now.globals.now c.args.first.now) (walk_in c.args.context.now.globals.now c.args.rest.now) c.args.context.now.effects.now c.args.walker.now c.expr.new.walker c.under.new.walker c.in_ok-first.first (ty.Var c.in_ok-rest.rest) _
    c.in_ok-first.ensures.walked c.in_ok-first.ensures.number c.in_ok-rest.ensures.walked c.in_ok-rest.ensures.number c.only.ensures

pub node-returns-in-Switch : goal.node-returns-in-Switch
node-returns-in-Switch t c = as_form c.args.context.now.globals.now c.args.e.now (switch_walked c.args.e.now.span (walk_in c.args.context.now.globals.now c.in-Switch.value) (map (case_in c.args.context.now.globals.now) c.in-Switch.list) (option_map (last_in c.args.context.now.globals.now) c.in-Switch.last)) c.args.context.now.effects.now c.args.walker.now c.switch.new.walker c.switch.result as_own
    (as_switch c.args.context.now.globals.now c.args.e.now c.get.result.now c.in-Switch.value c.in-Switch.list c.in-Switch.last c.get.ensures c.in-Switch.is)
    (subst (λ list. IfOk c.switch.result (λ own. Inner c.args.e.now.span (switch_walked c.args.e.now.span (walk_in c.args.context.now.globals.now c.in-Switch.value) (map (case_in c.args.context.now.globals.now) list) (option_map (last_in c.args.context.now.globals.now) c.in-Switch.last) c.args.walker.now.names c.args.context.now.effects.now c.args.walker.now.next) c.args.walker.now c.switch.new.walker (as_own own))) c.as_slice.ensures c.switch.ensures)

pub switch-returns : goal.switch-returns
switch-returns t c = IfOk-weaker c.switch_own.result _ _ (λ own is. switch_inner c.args.at (walk_in c.args.context.now.globals.now c.args.value.now) (map (case_in c.args.context.now.globals.now) c.args.list.now) (option_map (last_in c.args.context.now.globals.now) c.args.last.now) c.args.context.now.effects.now c.args.walker.now c.expr.new.walker c.cases.new.walker c.last_case.new.walker
    c.in_ok-value.value c.cases.new.tags c.new-tags.result c.cases.new.types c.last_case.new.types c.new-types.result c.in_ok-tail.tail (as_own c.in_ok-bodies.bodies) c.variant_of-variant.result _
    c.in_ok-value.ensures.walked c.in_ok-value.ensures.number c.new-tags.ensures c.new-types.ensures
    c.in_ok-cases.ensures.walked c.in_ok-cases.ensures.tags c.in_ok-cases.ensures.types
    c.in_ok-tail.ensures.walked c.in_ok-tail.ensures.tail c.in_ok-tail.ensures.types
    (c.in_ok-bodies.ensures ∙ ap (λ types. one_type types c.last_case.new.walker.next) c.as_slice.ensures)
    c.variant_of-variant.ensures is)
    c.switch_own.ensures
