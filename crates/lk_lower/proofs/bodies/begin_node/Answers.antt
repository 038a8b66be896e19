use Rattle.std.proofs.Common.{subst}
use Rattle.lk_ast.specs.declared.expression.Node.{out-Node}
use Rattle.lk_lower.proofs.Walking.{opens}
use Rattle.lk_lower.proofs.bodies.begin_node.Goals as goal
use Rattle.lk_lower.specs.Steps.{IsShaped}
use Rattle.lk_lower.specs.Walked.{state_of}

pub returns : goal.returns
returns c =
    opens c.args.at.now.owner c.args.at.now.within c.in_ok-number.number c.in_ok-ty.ty c.args.e.now c.in_ok-kind.kind c.in_ok-keep_place.ensures.0 (state_of c.args.walk.now) (state_of c.own_type.new.walk) (state_of c.kind_of.new.walk) (state_of c.keep_place.new.walk)
    c.in_ok-number.ensures c.in_ok-ty.ensures.is c.in_ok-ty.ensures.state
    (subst (λ n. IsShaped c.args.at.now.owner c.in_ok-number.number c.in_ok-ty.ty (out-Node n) (state_of c.own_type.new.walk) c.in_ok-kind.kind (state_of c.kind_of.new.walk)) c.get.ensures c.in_ok-kind.ensures)
    c.in_ok-keep_place.ensures.1
