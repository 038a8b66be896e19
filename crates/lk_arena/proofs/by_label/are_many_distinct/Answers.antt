use Rattle.std.proofs.Common.{◌-◌, length, arith, ap, sym, ◌∙◌}
use Rattle.std.specs.Prelude.{is_some}
use Rattle.lk_arena.proofs.Distinct.{distinct_end}
use Rattle.lk_arena.proofs.Noted.{all_distinct, distinct_behind, no_nodes, nodes_more, once_more, twice_found}
use Rattle.lk_arena.proofs.by_label.are_many_distinct.Goals as goal

pub loop-i-init : goal.loop-i-init
loop-i-init c = (
  no_nodes c.new-nodes.result c.args.fields.now (length c.args.fields.now) c.new-nodes.ensures.empty (omega arith),
  distinct_end c.args.fields.now (length c.args.fields.now) (omega arith),
)

pub returns-then-is_some-clause-twice : goal.returns-then-is_some-clause-twice
returns-then-is_some-clause-twice c = λ _ distinct.
    twice_found c.args.fields.now c.loop-i.i c.index-fields-i.result c.loop-i-test.true c.loop-i.auto.i c.index-fields-i.is c.loop-i.nodes c.insert.new.self c.as_str.result c.as_str.ensures
    c.in_ok-insert.ensures.updates c.loop-i.invariant.0 (ap is_some (sym c.in_ok-insert.ensures.old) ∙ sym c.if-is_some.ensures) (distinct_behind c.args.fields.now (c.loop-i.i - 1) distinct)

pub loop-i-preserved : goal.loop-i-preserved
loop-i-preserved c = (
  nodes_more c.args.fields.now c.loop-i.i c.index-fields-i.result c.loop-i-test.true c.loop-i.auto.i c.index-fields-i.is c.loop-i.nodes c.insert.new.self c.as_str.result c.as_str.ensures
      c.in_ok-insert.ensures.updates c.loop-i.invariant.0,
  once_more c.args.fields.now c.loop-i.i c.index-fields-i.result c.loop-i-test.true c.loop-i.auto.i c.index-fields-i.is c.loop-i.nodes c.insert.new.self c.as_str.result c.as_str.ensures
      c.in_ok-insert.ensures.updates c.loop-i.invariant.0 (ap is_some (sym c.in_ok-insert.ensures.old) ∙ sym c.if-is_some.ensures) c.loop-i.invariant.1,
)

pub returns-clause-distinct : goal.returns-clause-distinct
returns-clause-distinct c = λ _. all_distinct c.args.fields.now c.loop-i.i c.loop-i-test.false c.loop-i.invariant.1
