use Rattle.std.proofs.Common.{List, ℕ, subst, sym}
use Rattle.std.specs.Str.Parse.{ParsesUnsigned}
use Rattle.lk_join.proofs.Numbers.{number_no_text, number_parsed, number_unparsed}
use Rattle.lk_join.proofs.number.positive.Goals as goal

pub returns-in_default : goal.returns-in_default
returns-in_default c = sym (number_no_text c.args.most c.args.word.now c.ranges.most.fits c.in_default.ensures.cases.0)

pub returns-in-Ok-parse : goal.returns-in-Ok-parse
returns-in-Ok-parse c =
    let parses = subst (λ (text : List ℕ). ParsesUnsigned 64 10 text c.parse.result) c.in-Ok.ensures.cases.0 c.parse.ensures.value.0 in
    sym (number_parsed c.args.most c.args.word.now c.ranges.most.fits c.in-Ok-parse.number c.parse.result c.requires.first parses c.in-Ok-parse.is c.if-number-most.true)

pub returns-in-Err : goal.returns-in-Err
returns-in-Err c =
    let parses = subst (λ (text : List ℕ). ParsesUnsigned 64 10 text c.parse.result) c.in-Ok.ensures.cases.0 c.parse.ensures.value.0 in
    sym (number_unparsed c.args.most c.args.word.now c.ranges.most.fits c.in-Err.field-0 c.parse.result parses c.in-Err.is)
