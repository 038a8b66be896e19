use Rattle.std.proofs.Common.{arith, ◌++◌, append_assoc, ap, ap₂, sym, ◌∙◌}
use Rattle.std.proofs.lemmas.Result.{IfOk-equal}
use Rattle.lk_ast.specs.Layers.{layer}
use Rattle.lk_ast.specs.declared.expression.Node.{out-Node}
use Rattle.lk_bag.specs.Blocks.{acts_on_tables, blocks_in}
use Rattle.lk_bag.specs.Inside.{inside, itself, shown}
use Rattle.lk_bag.proofs.Within.{before_level, block_level}
use Rattle.lk_bag.proofs.blocks.+blocks.Goals as goal

pub expr-loop-name-preserved : goal.expr-loop-name-preserved
expr-loop-name-preserved t c = (
  omega (arith, c.in-Some.ensures.rest, c.loop-name.invariant.0),
  ap (λ found. found ++ blocks_in c.in-Some.next.now) c.in_ok-expr.ensures
      ∙ append_assoc (shown c.loop-name.found) (blocks_in c.in-Some.statement.now) (blocks_in c.in-Some.next.now)
      ∙ ap (λ more. shown c.loop-name.found ++ more) (sym (before_level _ c.in-Some.next.now) ∙ ap blocks_in (sym c.in-Some.ensures.before))
      ∙ c.loop-name.invariant.1,
)

pub expr-returns : goal.expr-returns
expr-returns t c =
    let rest = c.loop-name.rest.now in
    IfOk-equal c.node.result _ _ _ c.node.ensures
    (ap₂ (λ found n. found ++ inside (out-Node n)) c.in_ok-add.ensures c.get.ensures
    ∙ append_assoc (shown c.loop-name.found) (itself (acts_on_tables (layer rest)) rest) (inside (layer rest))
    ∙ ap (λ more. shown c.loop-name.found ++ more) (sym (block_level rest))
    ∙ c.loop-name.invariant.1)
