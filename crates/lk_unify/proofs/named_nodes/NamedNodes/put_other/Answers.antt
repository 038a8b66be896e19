use Rattle.std.proofs.Common.{Some, ◌∙◌, ap, sym, cond}
use Rattle.std.specs.BTreeMap.{get}
use Rattle.lk_types.proofs.SameVariable.{agrees}
use Rattle.lk_types.specs.Variables.{same_variable}
use Rattle.lk_types.specs.contracts.ty.VariableOrd.TheImpl.{cmp-value}
use Rattle.lk_unify.proofs.NodesFound.{others_is, put_by}
use Rattle.lk_unify.proofs.named_nodes.NamedNodes.put_other.Goals as goal
use Rattle.lk_unify.specs.declared.named_nodes.NamedNodes.{NamedNodes}

pub returns : goal.returns
returns c =
    let old : NamedNodes = c.args.self.now in
    let new : NamedNodes = record { places = old.places; others = c.insert.new.self } in
    put_by old.places.items old.others.entries new.others.entries c.args.variable c.args.node c.requires
    (λ q. sym (others_is new q) ∙ c.in_ok-insert.ensures.updates.0 q ∙ ap (λ t. cond t (Some c.args.node) (get cmp-value.it old.others q)) (agrees c.args.variable q)
    ∙ ap (cond (same_variable c.args.variable q) (Some c.args.node)) (others_is old q))
