use Rattle.std.proofs.Common.{◌∙◌, sym}
use Rattle.lk_join.proofs.Numbers.{number_empty, number_refused, number_zero}
use Rattle.lk_join.proofs.number.number_of.Goals as goal

pub returns-then-eq : goal.returns-then-eq
returns-then-eq c = sym (number_zero c.args.most c.args.word.now c.ranges.most.fits c.eq.result c.eq.ensures c.if-eq.true)

pub returns-in_err-first : goal.returns-in_err-first
returns-in_err-first c = c.from_residual.ensures ∙ sym (number_empty c.args.most c.args.word.now c.ranges.most.fits c.in_err-first.ensures.value)

pub returns-then-first-le48 : goal.returns-then-first-le48
returns-then-first-le48 c =
    sym (number_refused c.args.most c.args.word.now c.ranges.most.fits c.eq.result c.in_ok-first.field-0.now c.eq.ensures c.if-eq.false c.in_ok-first.ensures.value c.if-first-le48.true)
