use Rattle.lk_arena.proofs.Distinct.{distinct_twice, distinct_more, distinct_less, distinct_end}
use Rattle.lk_arena.proofs.by_label.are_few_distinct.Goals as goal
use Rattle.std.proofs.Common.{sym, ◌∙◌}

pub loop-i-init : goal.loop-i-init
loop-i-init c = ((λ d. d), (λ d. d))

pub returns-then-is_some-clause-twice : goal.returns-then-is_some-clause-twice
returns-then-is_some-clause-twice c = λ e d.
    distinct_twice c.args.fields.now c.loop-i.i c.index-fields-i.result c.loop-i-test.true c.index-fields-i.is c.node_of.result c.node_of.ensures (sym c.is_some.ensures ∙ c.if-is_some.true)
    (c.loop-i.invariant.1 d)

pub loop-i-preserved : goal.loop-i-preserved
loop-i-preserved c = (
  (λ d. c.loop-i.invariant.0
      (distinct_more c.args.fields.now c.loop-i.i c.index-fields-i.result c.loop-i-test.true c.index-fields-i.is c.node_of.result c.node_of.ensures (sym c.is_some.ensures ∙ c.if-is_some.false) d)),
  (λ d. distinct_less c.args.fields.now c.loop-i.i c.index-fields-i.result c.loop-i-test.true c.index-fields-i.is (c.loop-i.invariant.1 d)),
)

pub returns-clause-distinct : goal.returns-clause-distinct
returns-clause-distinct c = λ _. c.loop-i.invariant.0 (distinct_end c.args.fields.now c.loop-i.i c.loop-i-test.false)
