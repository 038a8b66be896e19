use Rattle.std.proofs.Common.{◌≡◌, suc, ◌-◌, Some, None, arith, ap, ap₂, sym, ◌∙◌}
use Rattle.std.proofs.lemmas.Result.{IfOk-weaker}
use Rattle.std.specs.Option.{option_copied}
use Rattle.lk_ast.specs.Functions.{function_named}
use Rattle.lk_ast.specs.declared.value.Value.TheVariants as value
use Rattle.lk_ast.specs.Tables.{rows_of}
use Rattle.lk_ast.specs.Layers.{before}
use Rattle.lk_bag.proofs.Forms.{called_body, called_nobody, called_not, given_behind_name, given_behind_none}
use Rattle.lk_bag.specs.Bag.{called, entered, given}
use Rattle.lk_locals.specs.Names.{bind, bind_all, no_names}
use Rattle.lk_bag.proofs.walk.+walk.Goals as goal

pub call-returns-then-calls-eq0 : goal.call-returns-then-calls-eq0
call-returns-then-calls-eq0 t c = ap value.List c.new.ensures ∙ sym (called_not c.args.over.now.index.now (rows_of c.args.over.now.tables.now) c.args.calls c.args.name.now c.args.args c.if-calls-eq0.true)

pub call-returns-in_default : goal.call-returns-in_default
call-returns-in_default t c =
    let p = c.args.over.now.index.now in
    let found : function_named p c.args.name.now ≡ None = ap (function_named p) (sym c.as_str.ensures) ∙ sym c.function.ensures ∙ ap option_copied c.in_default.is in
    ap value.List c.new-in_default.ensures ∙ sym (called_nobody p (rows_of c.args.over.now.tables.now) c.args.calls c.args.name.now c.args.args found)

pub call-returns-in-Some-2 : goal.call-returns-in-Some-2
call-returns-in-Some-2 t c =
    let p = c.args.over.now.index.now in
    let tables = rows_of c.args.over.now.tables.now in
    let n = c.args.calls in
    let more : n ≡ suc (n - 1) = omega (arith, c.if-calls-eq0.false) in
    let f = c.in-Some.function.now in
    let found : function_named p c.args.name.now ≡ Some f = ap (function_named p) (sym c.as_str.ensures) ∙ sym c.function.ensures ∙ ap option_copied c.in-Some.is in
    let names : bind_all no_names f.params c.args.args ≡ Some c.in-Some-2.inner = ap₂ (λ none params. bind_all none params c.args.args) (sym c.in_ok-none.ensures) (sym c.as_slice.ensures) ∙ sym c.in_ok-inner.ensures ∙ c.in-Some-2.is in
    IfOk-weaker c.value.result _ _ (λ value is. is ∙ sym (called_body p tables n (n - 1) c.args.name.now c.args.args f more found ∙ ap (entered (given tables (called p tables (n - 1)) f.body)) names))
    c.value.ensures

pub call-returns-in-None : goal.call-returns-in-None
call-returns-in-None t c =
    let p = c.args.over.now.index.now in
    let tables = rows_of c.args.over.now.tables.now in
    let n = c.args.calls in
    let more : n ≡ suc (n - 1) = omega (arith, c.if-calls-eq0.false) in
    let f = c.in-Some.function.now in
    let found : function_named p c.args.name.now ≡ Some f = ap (function_named p) (sym c.as_str.ensures) ∙ sym c.function.ensures ∙ ap option_copied c.in-Some.is in
    let names : bind_all no_names f.params c.args.args ≡ None = ap₂ (λ none params. bind_all none params c.args.args) (sym c.in_ok-none.ensures) (sym c.as_slice.ensures) ∙ sym c.in_ok-inner.ensures ∙ c.in-None.is in
    let h = called_body p tables n (n - 1) c.args.name.now c.args.args f more found ∙ ap (entered (given tables (called p tables (n - 1)) f.body)) names in
    ap value.List c.new-in-None.ensures ∙ sym h

pub value-loop-name-preserved-in_ok-inner-2 : goal.value-loop-name-preserved-in_ok-inner-2
value-loop-name-preserved-in_ok-inner-2 t c =
    let tables = rows_of c.args.over.now.tables.now in
    let calls = called c.args.over.now.index.now tables c.args.calls in
    let x = c.in-Some-name.name.now in
    let first = c.in-Some.statement.now in
    let next = c.in-Some.next.now in
    let e = c.loop-name.rest.now in
    let names = c.loop-name.inner in
    let name : option_copied c.in-Some.name ≡ Some x = ap option_copied c.in-Some-name.is in
    let is : e ≡ before (record { span = e.span; name = Some x; expr = first }) next = c.in-Some.ensures.before ∙ ap (λ n. before (record { span = e.span; name = n; expr = first }) next) name in
    ap (given tables calls next) (c.in_ok-inner-2.ensures ∙ ap₂ (λ text v. bind text v names) c.as_str.ensures c.in_ok-bound.ensures)
    ∙ sym (given_behind_name tables calls e e.span x first next names is)
    ∙ c.loop-name.invariant

pub value-loop-name-preserved : goal.value-loop-name-preserved
value-loop-name-preserved t c =
    let tables = rows_of c.args.over.now.tables.now in
    let calls = called c.args.over.now.index.now tables c.args.calls in
    let first = c.in-Some.statement.now in
    let next = c.in-Some.next.now in
    let e = c.loop-name.rest.now in
    let none : option_copied c.in-Some.name ≡ None = ap option_copied c.in_default-name.is in
    let is : e ≡ before (record { span = e.span; name = None; expr = first }) next = c.in-Some.ensures.before ∙ ap (λ n. before (record { span = e.span; name = n; expr = first }) next) none in
    sym (given_behind_none tables calls e e.span first next c.loop-name.inner is)
    ∙ c.loop-name.invariant
