use Rattle.std.proofs.Common.{[], rules, subst, ◌≡◌}
use Rattle.std.proofs.lemmas.Result.{IfOk-weaker}
use Rattle.lk_cps.proofs.Living.{itself_captured, itself_kept, itself_name, itself_none, own}
use Rattle.lk_cps.proofs.needs.own_names.Goals as goal
use Rattle.lk_cps.specs.Live.{LiveCaptured, LiveKept}

pub returns-in-Name : goal.returns-in-Name
returns-in-Name c = IfOk-weaker c.one.result _ _ (λ live puts. itself_name c.args.table.now c.args.form.now c.in-Name.name live c.in-Name.is puts) c.one.ensures

pub returns-in-Lambda : goal.returns-in-Lambda
returns-in-Lambda c =
    IfOk-weaker c.captured.result _ _
    (λ live is. itself_captured c.args.table.now c.args.form.now c.requires.0 c.requires.1 c.in-Lambda.label c.in-Lambda.names live c.in-Lambda.is (subst (λ names. LiveCaptured c.args.table.now c.in-Lambda.label names live) c.as_slice.ensures is))
    c.captured.ensures

pub returns-in-Reach : goal.returns-in-Reach
returns-in-Reach c =
    IfOk-weaker c.kept_names.result _ _
    (λ live is. itself_kept c.args.table.now c.args.form.now c.in-Reach.field-0 c.in-Reach.field-1 c.in-Reach.kept live c.in-Reach.is (subst (λ kept. LiveKept c.args.table.now kept live) c.as_slice-in-Reach.ensures (is c.args.table.now)))
    c.kept_names.ensures

pub returns-in-Op : goal.returns-in-Op
returns-in-Op c =
    let none : own c.args.form.now.kind ≡ [] = search rules in
    itself_none c.args.table.now c.args.form.now c.new.result c.new.ensures none
