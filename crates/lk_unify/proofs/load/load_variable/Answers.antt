use Rattle.std.proofs.Common.{refl, sym, ◌∙◌, ap, subst}
use Rattle.lk_unify.proofs.LoadVariables.{loads_known, loads_named, new_name}
use Rattle.lk_unify.proofs.load.load_variable.Goals as goal
use Rattle.lk_unify.specs.Loading.{Adds}
use Rattle.lk_unify.specs.NamedNodes.{node_in}

pub returns-in-Some-clause-loads : goal.returns-in-Some-clause-loads
returns-in-Some-clause-loads c = loads_known c.args.loader.now c.args.variable c.in-Some.node c.requires (sym c.node_for.ensures ∙ c.in-Some.is)

pub returns-in-Some-clause-named : goal.returns-in-Some-clause-named
returns-in-Some-clause-named c = sym c.node_for.ensures ∙ c.in-Some.is

pub returns-in_ok-insert-in-None-clause-loads : goal.returns-in_ok-insert-in-None-clause-loads
returns-in_ok-insert-in-None-clause-loads c =
    loads_named c.args.loader.now c.add_node.new.loader (record { arena = c.add_node.new.loader.arena; names = c.insert.new.self; made = c.add_node.new.loader.made; closed = c.add_node.new.loader.closed }) c.args.variable c.in_ok-node-in-None.node c.requires
    (sym c.node_for.ensures ∙ c.in-None.is)
    (subst (λ s. Adds c.args.loader.now c.add_node.new.loader s c.in_ok-node-in-None.node) c.shape_for.ensures c.in_ok-node-in-None.ensures)
    refl refl c.in_ok-insert-in-None.ensures

pub returns-in_ok-insert-in-None-clause-named : goal.returns-in_ok-insert-in-None-clause-named
returns-in_ok-insert-in-None-clause-named c =
    new_name c.args.loader.now c.add_node.new.loader (record { arena = c.add_node.new.loader.arena; names = c.insert.new.self; made = c.add_node.new.loader.made; closed = c.add_node.new.loader.closed }) c.args.variable c.in_ok-node-in-None.node c.requires
    (sym c.node_for.ensures ∙ c.in-None.is)
    (subst (λ s. Adds c.args.loader.now c.add_node.new.loader s c.in_ok-node-in-None.node) c.shape_for.ensures c.in_ok-node-in-None.ensures)
    refl refl c.in_ok-insert-in-None.ensures

pub insert-requires : goal.insert-requires
insert-requires c = ap (λ names. node_in names c.args.variable) c.in_ok-node-in-None.ensures.names ∙ sym c.node_for.ensures ∙ c.in-None.is
