use Rattle.std.proofs.Common.{◌≡◌, ◌++◌, Some, List, ℕ, map, subst, take_all}
use Rattle.lk_code.specs.Tables.{node_type}
use Rattle.lk_defun.proofs.Added.{added}
use Rattle.lk_defun.proofs.types.push_nodes.Goals as goal

pub returns : goal.returns
returns c = added c.args.types.now c.loop-node.types (map (node_type c.args.forms.now) c.args.nodes.now)
    (subst (λ (xs : List ℕ). map Some c.loop-node.types ≡ map Some c.args.types.now ++ map (node_type c.args.forms.now) xs) (take_all c.loop-node.node-index c.args.nodes.now c.loop-node-test.false) c.loop-node.invariant)
