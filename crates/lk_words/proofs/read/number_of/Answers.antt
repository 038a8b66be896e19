use Rattle.std.proofs.Common.{◌∙◌, ℕ, List, ap, slice_get, sym}
use Rattle.lk_words.proofs.Numbers.{number_refused, number_parsed, number_unparsed}
use Rattle.lk_words.proofs.read.number_of.Goals as goal

pub returns-then-first-le48 : goal.returns-then-first-le48
returns-then-first-le48 c =
    let begins = c.in_ok-first.ensures.value ∙ ap (λ (t : List ℕ). slice_get t 0) c.as_bytes.ensures.value in
    sym (number_refused c.args.text.now c.in_ok-first.field-0.now begins c.if-first-le48.true)

pub returns-in-Ok : goal.returns-in-Ok
returns-in-Ok c =
    let begins = c.in_ok-first.ensures.value ∙ ap (λ (t : List ℕ). slice_get t 0) c.as_bytes.ensures.value in
    sym (number_parsed c.args.text.now c.in_ok-first.field-0.now c.in-Ok.number c.parse.result begins c.if-first-le48.false c.parse.ensures.value.0 c.in-Ok.is c.if-number-le-MOST_FUEL.true)

pub returns-in-Err : goal.returns-in-Err
returns-in-Err c = sym (number_unparsed c.args.text.now c.in-Err.field-0 c.parse.result c.parse.ensures.value.0 c.in-Err.is)
