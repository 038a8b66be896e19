use Rattle.std.proofs.Common.{sym, ◌∙◌}
use Rattle.lk_ast.specs.declared.expression.Node.{out-Node}
use Rattle.lk_lower.proofs.Shaping.{plain_shaped}
use Rattle.lk_lower.proofs.kinds.no_operation.Goals as goal
use Rattle.lk_lower.specs.Walked.{state_of}

pub returns-in-Some : goal.returns-in-Some
returns-in-Some c = plain_shaped c.args.at.now.owner c.args.place.number c.args.place.ty (state_of c.args.walk.now) (state_of c.take_type.new.walk) (out-Node c.args.node.now) c.in-Some.kind (sym c.plain_kind.ensures ∙ c.in-Some.is) c.take_type.ensures
