use Rattle.std.proofs.Common.{arith, ap, ap₂, sym, ◌∙◌, drop}
use Rattle.std.specs.Option.{option_copied}
use Rattle.lk_bodies.proofs.UsesLevels.{use_step, uses_expr}
use Rattle.lk_bodies.specs.Uses.{uses_node}
use Rattle.lk_bodies.specs.UsesSeen.{behind_type, used_of}
use Rattle.lk_typing.specs.Names.{names_of}
use Rattle.lk_bodies.proofs.uses.+uses.Goals as goal

pub expr-loop-name-preserved : goal.expr-loop-name-preserved
expr-loop-name-preserved t c = (
  omega (arith, c.in-Some.ensures.rest, c.loop-name.invariant.0),
  use_step tt (record { span = c.loop-name.rest.now.span; name = option_copied c.in-Some.name; expr = c.in-Some.statement.now }) c.loop-name.rest.now c.in-Some.next.now c.loop-name.bound _ _ (used_of c.loop-name.found) _ _
      c.in-Some.ensures.before c.take_type.ensures.behind c.in_ok-expr.ensures.found c.in_ok-expr.ensures.left c.in_ok-count.ensures.names
      ∙ c.loop-name.invariant.1,
  c.in_ok-count.ensures.count ∙ ap (drop c.loop-name.count) c.in_ok-expr.ensures.left ∙ c.loop-name.invariant.2,
)

pub expr-returns-clause-found : goal.expr-returns-clause-found
expr-returns-clause-found t c =
    c.in_ok-node.ensures.found
    ∙ ap₂ (λ own u. uses_node c.get.result.now own (names_of c.loop-name.bound) u) c.take_type-own.ensures.types c.take_type-own.ensures.behind
    ∙ ap (λ n. uses_node n (used_of c.loop-name.found).types (names_of c.loop-name.bound) (behind_type (used_of c.loop-name.found))) c.get.ensures
    ∙ sym (uses_expr c.loop-name.rest.now (names_of c.loop-name.bound) (used_of c.loop-name.found))
    ∙ c.loop-name.invariant.1
