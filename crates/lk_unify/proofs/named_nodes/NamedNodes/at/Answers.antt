use Rattle.std.proofs.Common.{None, sym, arith}
use Rattle.std.proofs.lemmas.List.{get_or_past}
use Rattle.lk_unify.proofs.named_nodes.NamedNodes.at.Goals as goal

pub returns : goal.returns
returns c = sym (get_or_past c.args.self.now.places.items c.args.number None (let out = c.if-number-len.false in let long = c.len.ensures in omega arith))
