use Rattle.std.proofs.Common.{◌≡◌, ◌++◌, Some, map, take}
use Rattle.lk_code.specs.Tables.{node_type}
use Rattle.lk_defun.proofs.types.push_nodes.Given as goal

abbrev pub invariant-loop-node : goal.invariant-loop-node
invariant-loop-node l = map Some l.types ≡ map Some l.initial.types ++ map (node_type l.forms) (take l.node-index l.nodes)
