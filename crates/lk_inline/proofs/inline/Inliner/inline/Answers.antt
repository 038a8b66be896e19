use Rattle.std.proofs.Common.{ap, not, ◌∙◌}
use Rattle.lk_bodies.specs.Nodes.{query_nodes}
use Rattle.lk_ground.specs.declared.program.GroundProgram.{GroundProgram}
use Rattle.lk_inline.proofs.Counting.{enough, too_many}
use Rattle.lk_inline.proofs.inline.Inliner.inline.Goals as goal

pub returns-then-is_none-clause-too_many : goal.returns-then-is_none-clause-too_many
returns-then-is_none-clause-too_many c = λ error.
    too_many 65536 _ _ c.in_ok-count_nodes.field-0 c.in_ok-count_nodes.ensures
    (ap (λ p. query_nodes p c.args.site.now.expr.now) c.self.invariant.0 ∙ ap (λ (g : GroundProgram). query_nodes g.program.now c.args.site.now.expr.now) c.self.view_is) (c.is_none.ensures ∙ ap not c.if-is_none.true)

pub returns-clause-counted : goal.returns-clause-counted
returns-clause-counted c =
    enough 65536 _ _ c.in_ok-count_nodes.field-0 c.in_ok-count_nodes.ensures
    (ap (λ p. query_nodes p c.args.site.now.expr.now) c.self.invariant.0 ∙ ap (λ (g : GroundProgram). query_nodes g.program.now c.args.site.now.expr.now) c.self.view_is) (c.is_none.ensures ∙ ap not c.if-is_none.false)
