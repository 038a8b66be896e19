use Rattle.std.proofs.Common.{length, sym, ap, subst, ◌∙◌, [], take, get_or, cond, Some, is_some, if◌then◌else◌, ◌+◌}
use Rattle.std.proofs.lemmas.List.{take_all}
use Rattle.std.proofs.lemmas.List.Sums.{fold_more}
use Rattle.std.specs.BTreeMap.{get, is_at, btree_map_len}
use Rattle.lk_types.specs.TypeText.{number_in}
use Rattle.lk_types.specs.Variables.{with_variable, firsts}
use Rattle.lk_types.specs.contracts.ty.VariableOrd.TheImpl.{cmp-value}
use Rattle.lk_types.specs.declared.ty.Variable.TheVariants as variable
use Rattle.lk_types.proofs.Numbers.{IsNumbered, numbered_none, numbered_with, number_is}
use Rattle.lk_types.proofs.names.Names.of.Goals as goal

pub loop-variable-init : goal.loop-variable-init
loop-variable-init c = numbered_none _ c.new.ensures.empty

pub loop-variable-preserved : goal.loop-variable-preserved
loop-variable-preserved c =
    let i = c.loop-variable.variable-index in
    let xs = c.args.variables.now in
    let x = get_or xs i (variable.Plain 0) in
    let before = c.loop-variable.names in
    subst (IsNumbered (record { numbers = c.insert.new.self })) (sym (fold_more with_variable [] xs i (variable.Plain 0) c.loop-variable-test.true))
    (numbered_with before (record { numbers = c.insert.new.self }) (firsts (take i xs)) x c.loop-variable.invariant
    (λ q. c.in_ok-insert.ensures.updates.0 q ∙ ap (λ n. cond (is_at (cmp-value.it x) q) (Some n) (get cmp-value.it before.numbers q)) c.number-number.ensures)
    (c.in_ok-insert.ensures.len ∙ ap (λ old. btree_map_len before.numbers + (if is_some old then 0 else 1)) c.in_ok-insert.ensures.old))

pub returns-clause-numbers : goal.returns-clause-numbers
returns-clause-numbers c x = number_is c.loop-variable.names _ c.loop-variable.invariant x ∙ ap (λ xs. number_in (firsts xs) x) (take_all _ c.args.variables.now c.loop-variable-test.false)

pub returns-clause-count : goal.returns-clause-count
returns-clause-count c = c.loop-variable.invariant.count ∙ ap (λ xs. length (firsts xs)) (take_all _ c.args.variables.now c.loop-variable-test.false)
