use Rattle.std.proofs.Common.{◌∙◌, sym, map, string_bytes}
use Rattle.std.proofs.lemmas.Result.{IfOk-weaker}
use Rattle.lk_words.proofs.Forms.{form_of_parsed, form_of_refused}
use Rattle.lk_words.proofs.read.form.Goals as goal

pub returns-in-Ok : goal.returns-in-Ok
returns-in-Ok c =
    let is = form_of_parsed _ (map string_bytes c.args.words.now) c.in-Ok.matches c.in_ok-command.ensures c.in-Ok.ensures.kinds c.in-Ok.ensures.matches in
    IfOk-weaker c.command_of.result _ _ (λ command h. h ∙ is) c.command_of.ensures

pub returns : goal.returns
returns c = sym (form_of_refused _ (map string_bytes c.args.words.now) c.in-Err.error c.in_ok-command.ensures c.in-Err.ensures.kinds (λ memory. c.in_default.not-OutOfMemory (c.kind.ensures ∙ memory)))
