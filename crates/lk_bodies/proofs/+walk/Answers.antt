use Rattle.std.proofs.Common.{arith, ap, ap₂, subst, sym, ◌∙◌, ◌-◌, ◌≡◌, suc, drop, Some, None, [], map, length, ◌≤◌}
use Rattle.std.proofs.lemmas.Option.{slice_get_past, slice_get_read}
use Rattle.std.specs.Option.{option_copied}
use Rattle.std.specs.Prelude.{IfOk}
use Rattle.lk_bodies.proofs.Levels.{called_more, called_not, statement_step, walk_expr, walk_extend, walk_record}
use Rattle.lk_bodies.specs.Walk.{State, behind_type, bound, called, entered, extension, fields, walk, walk_node}
use Rattle.lk_bodies.specs.Walked.{calls_in, made_of, state_of}
use Rattle.lk_ground.specs.Language.{function_of}
use Rattle.lk_bodies.proofs.+walk.Goals as goal

pub walk::enter-returns-then-calls-eq0 : goal.walk::enter-returns-then-calls-eq0
walk::enter-returns-then-calls-eq0 t c = subst (λ m. IfOk c.never.result (λ number. made_of number c.never.new.walked ≡ m)) (sym (called_not c.args.at.now.over.now.helpers.now c.args.at.now.calls c.args.helper c.args.numbers.now c.args.walked.now.parts c.if-calls-eq0.true)) c.never.ensures

pub walk::enter-returns-in_default : goal.walk::enter-returns-in_default
walk::enter-returns-in_default t c =
    let n = c.args.at.now.calls in
    let more : n ≡ suc (n - 1) = omega (arith, c.if-calls-eq0.false) in
    let helpers = c.args.at.now.over.now.helpers.now in
    let past : length helpers ≤ c.args.helper = omega (arith, c.in_default.ensures.lookup) in
    subst (λ m. IfOk c.never-in_default.result (λ number. made_of number c.never-in_default.new.walked ≡ m)) (sym (called_more c.args.at.now.over.now.helpers.now n (n - 1) c.args.helper c.args.numbers.now c.args.walked.now.parts None more (slice_get_past helpers c.args.helper past))) c.never-in_default.ensures

pub walk::enter-returns : goal.walk::enter-returns
walk::enter-returns t c =
    let n = c.args.at.now.calls in
    let more : n ≡ suc (n - 1) = omega (arith, c.if-calls-eq0.false) in
    let helpers = c.args.at.now.over.now.helpers.now in
    let f = c.in-Some.function.now in
    subst (λ m. IfOk c.expr.result (λ number. made_of number c.expr.new.walked ≡ m))
    (ap₂ (λ names s. walk (called helpers (n - 1)) (function_of f).body names s)
    (c.in_ok-names.ensures ∙ ap (λ params. bound [] params c.args.numbers.now) c.as_slice.ensures)
    (ap₂ (λ types calls. record { parts = c.args.walked.now.parts; types = types; calls = calls }) c.as_slice-walked.ensures c.as_slice-walked-2.ensures)
    ∙ sym (called_more c.args.at.now.over.now.helpers.now n (n - 1) c.args.helper c.args.numbers.now c.args.walked.now.parts (Some f) more (slice_get_read helpers (length helpers) c.args.helper f (λ i. length helpers) c.in-Some.ensures.lookup.3.0 c.in-Some.ensures.lookup.1)))
    c.expr.ensures.made

pub walk::expr-loop-name-preserved : goal.walk::expr-loop-name-preserved
walk::expr-loop-name-preserved t c = (
  omega (arith, c.in-Some.ensures.rest, c.loop-name.invariant.0),
  statement_step (calls_in c.args.at.now.over.now c.args.at.now.calls) (record { span = c.loop-name.rest.now.span; name = option_copied c.in-Some.name; expr = c.in-Some.statement.now }) c.loop-name.rest.now c.in-Some.next.now c.loop-name.names _ _ c.in_ok-number.number (state_of c.loop-name.walked) _ _
      c.in-Some.ensures.before c.take_type.ensures.behind c.in_ok-number.ensures.made c.in_ok-number.ensures.left c.in_ok-count.ensures.names
      ∙ c.loop-name.invariant.1,
  c.in_ok-count.ensures.count ∙ ap (drop c.loop-name.count) c.in_ok-number.ensures.left ∙ c.loop-name.invariant.2,
)

pub walk::expr-returns-clause-made : goal.walk::expr-returns-clause-made
walk::expr-returns-clause-made t c =
    c.in_ok-number-2.ensures.made
    ∙ ap₂ (λ own s. walk_node (calls_in c.args.at.now.over.now c.args.at.now.calls) c.get.result.now own c.loop-name.names s) c.take_type-own.ensures.types c.take_type-own.ensures.behind
    ∙ ap (λ n. walk_node (calls_in c.args.at.now.over.now c.args.at.now.calls) n (state_of c.loop-name.walked).types c.loop-name.names (behind_type (state_of c.loop-name.walked))) c.get.ensures
    ∙ sym (walk_expr (calls_in c.args.at.now.over.now c.args.at.now.calls) c.loop-name.rest.now c.loop-name.names (state_of c.loop-name.walked))
    ∙ c.loop-name.invariant.1

pub walk::node-returns-in-Extend-clause-made : goal.walk::node-returns-in-Extend-clause-made
walk::node-returns-in-Extend-clause-made t c =
    subst (λ m. IfOk c.extension.result (λ number. made_of number c.extension.new.walked ≡ m))
    (ap (λ items. extension c.args.own.now (map (λ item. item.label.text) items) (map (λ item. walk (calls_in c.args.at.now.over.now c.args.at.now.calls) item.expr) items) (walk (calls_in c.args.at.now.over.now c.args.at.now.calls) c.in-Extend.e) c.args.names.now (state_of c.args.walked.now)) c.as_slice-items.ensures
    ∙ sym (walk_extend (calls_in c.args.at.now.over.now c.args.at.now.calls) c.args.node.now c.in-Extend.items c.in-Extend.e c.in-Extend.is c.args.own.now c.args.names.now (state_of c.args.walked.now)))
    c.extension.ensures.made

pub walk::node-returns-in-Record-clause-made : goal.walk::node-returns-in-Record-clause-made
walk::node-returns-in-Record-clause-made t c =
    subst (λ m. IfOk c.record_of.result (λ number. made_of number c.record_of.new.walked ≡ m))
    (ap (λ items. fields c.args.own.now (map (λ item. item.label.text) items) (map (λ item. walk (calls_in c.args.at.now.over.now c.args.at.now.calls) item.expr) items) c.args.names.now (state_of c.args.walked.now)) c.as_slice-in-Record.ensures
    ∙ sym (walk_record (calls_in c.args.at.now.over.now c.args.at.now.calls) c.args.node.now c.in-Record.items c.in-Record.is c.args.own.now c.args.names.now (state_of c.args.walked.now)))
    c.record_of.ensures.made
