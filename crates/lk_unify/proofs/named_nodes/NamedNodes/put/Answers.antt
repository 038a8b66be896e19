use Rattle.lk_unify.proofs.NodesFound.{put_at}
use Rattle.lk_unify.proofs.named_nodes.NamedNodes.put.Goals as goal

pub returns : goal.returns
returns c =
    put_at c.args.self.now.places.items c.put_place.new.places.items c.args.self.now.others.entries c.args.variable c.args.node c.requires (rw c.number_of-number.ensures at c.in_ok-put_place.ensures.here)
    (rw c.number_of-number.ensures at c.in_ok-put_place.ensures.there)
