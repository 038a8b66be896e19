use Rattle.std.proofs.Common.{refl, ◌∙◌, ap, Some, cond}
use Rattle.std.specs.BTreeMap.{is_at}
use Rattle.std.specs.Ordering.{nat_cmp}
use Rattle.lk_unify.proofs.LoadShared.{makes_kept}
use Rattle.lk_unify.proofs.shared.keep_node.Goals as goal
use Rattle.lk_unify.specs.Loading.{made_at}

pub returns : goal.returns
returns c =
    makes_kept c.args.loader.now c.add_node.new.loader
    (record { arena = c.add_node.new.loader.arena; names = c.add_node.new.loader.names; made = c.insert.new.self; closed = c.note_closed.new.closed }) c.args.kind c.args.shape c.in_ok-node.node
    c.args.key c.requires c.in_ok-node.ensures refl refl
    (λ q.
    c.in_ok-insert.ensures.updates.0 q
    ∙ ap (λ s. cond (is_at (nat_cmp c.args.key) q) (Some (record { kind = c.args.kind; shape = s; node = c.in_ok-node.node })) (made_at c.add_node.new.loader q)) c.in_ok-copy.ensures)
